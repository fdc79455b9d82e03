-- `marked` meets its contract: a bit of the low word, of the high word, or none.
use mathlib.Core.Path.{sym}
use Rattle.event_sets.proofs.Members.{marked-low, marked-high, marked_beyond}
use Rattle.event_sets.proofs.marked.Goals as goal

pub returns-then-number-lt64 : goal.returns-then-number-lt64
returns-then-number-lt64 c = let a = c.args in sym (marked-low a.set a.number c.if-number-lt64.true)

pub returns-then-number-lt128 : goal.returns-then-number-lt128
returns-then-number-lt128 c = let a = c.args in sym (marked-high a.set a.number c.if-number-lt64.false c.if-number-lt128.true)

pub returns-else-number-lt128 : goal.returns-else-number-lt128
returns-else-number-lt128 c = let a = c.args in sym (marked_beyond a.set a.number c.if-number-lt128.false)
