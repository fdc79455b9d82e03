-- One of the four rows, or the first.
use Rattle.contexts.proofs.Table.{none_recent, past_recent}
use Rattle.contexts.specs.Table.{row_of}
use Rattle.std.proofs.Common.{arith, refl}
use Rattle.contexts.proofs.place_of.Goals as goal
use Rattle.contexts.proofs.place_of.Goals.{else-context-gt0-via-then-context-gt0+else-context-le4, else-context-gt0-via-else-context-gt0}

pub returns-then-context-le4 : goal.returns-then-context-le4
unfolding row_of
returns-then-context-le4 c = (omega arith, refl)

pub returns-else-context-gt0 : goal.returns-else-context-gt0
returns-else-context-gt0 c =
    elim c.else-context-gt0.branch [
      | else-context-gt0-via-then-context-gt0+else-context-le4 w ↦ (omega arith, past_recent c.args.context w.if-context-le4.false)
      | else-context-gt0-via-else-context-gt0 w ↦ (omega arith, none_recent c.args.context w.if-context-gt0.false)
    ]
