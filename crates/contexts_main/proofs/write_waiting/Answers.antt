-- Each that waits has one of the 16 places.
use Rattle.contexts_main.proofs.Places.{place_in_row}
use Rattle.std.proofs.Common.{arith}
use Rattle.contexts_main.proofs.write_waiting.Goals as goal

pub offset_bounds-list-place : goal.offset_bounds-list-place
offset_bounds-list-place g c = omega (arith, place_in_row _ _ _ c.place_at-place.ensures)

pub bounds-list-place : goal.bounds-list-place
bounds-list-place g c = place_in_row _ _ _ c.place_at-place.ensures
