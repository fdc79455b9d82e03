-- `holds` meets its contract: the bit of the low word, of the high word, or none.
use mathlib.Core.Path.{sym}
use Rattle.event_sets.specs.Sets.{is_set}
use Rattle.event_sets.proofs.Members.{has-low, has-high, has_beyond}
use Rattle.event_sets.proofs.holds.Goals as goal

pub returns-then-number-lt64 : goal.returns-then-number-lt64
unfolding is_set
returns-then-number-lt64 c = let a = c.args in sym (has-low a.set a.number c.if-number-lt64.true)

pub returns-then-number-lt128 : goal.returns-then-number-lt128
unfolding is_set
returns-then-number-lt128 c = let a = c.args in sym (has-high a.set a.number c.if-number-lt64.false c.if-number-lt128.true)

pub returns-else-number-lt128 : goal.returns-else-number-lt128
returns-else-number-lt128 c = let a = c.args in sym (has_beyond a.set a.number c.if-number-lt128.false)
