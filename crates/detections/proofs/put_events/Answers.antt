-- The bits of the low word, and then those of the high word.
use native.Mathlib.Omega.{arith}
use Rattle.detections.proofs.Events.{events_parts, low-room}
use Rattle.detections.proofs.Writing.{writes_start, writes_turn}
use Rattle.detections.proofs.put_events.Goals as goal

pub put_bits-low-requires : goal.put_bits-low-requires
put_bits-low-requires c = (omega arith, low-room c.args.s _ _ c.requires)

pub put_bits-requires : goal.put_bits-requires
put_bits-requires c = (omega arith, (writes_turn (writes_start _ _ _ c.requires) (events_parts c.args.s) c.put_bits-low.ensures).room)

pub returns : goal.returns
returns c = (writes_turn (writes_start _ _ _ c.requires) (events_parts c.args.s) c.put_bits-low.ensures).onward _ _ c.put_bits.ensures
