-- The five events are noted, four wait and one arrives.
use Rattle.contexts_main.proofs.Tables.{globals, none_wait, noted, ticks}
use Rattle.std.proofs.Common.{arith, refl}
use Rattle.contexts_main.proofs.arrive.Goals as goal

pub candidates-marks-requires : goal.candidates-marks-requires
candidates-marks-requires g c =
    let four = c.wait_four.ensures ticks globals noted none_wait (omega arith) refl refl refl refl in
    (noted, four.0, _, four.1, c.of_event-o.ensures ticks globals noted (omega arith) refl)

pub work-requires : goal.work-requires
work-requires g c =
    let four = c.wait_four.ensures ticks globals noted none_wait (omega arith) refl refl refl refl in
    (noted, four.0, _, four.1, c.of_event-o.ensures ticks globals noted (omega arith) refl)
