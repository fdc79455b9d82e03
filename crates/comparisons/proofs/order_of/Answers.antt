-- Word by word.
use Rattle.std.proofs.Common.{sym, ◌∙◌}
use Rattle.comparisons.specs.Notes.{order_noted}
use Rattle.comparisons.proofs.order_of.Goals as goal

pub returns-then-r : goal.returns-then-r
unfolding order_noted
returns-then-r c = rw c.if-r.true

pub returns-then-r-2 : goal.returns-then-r-2
unfolding order_noted
returns-then-r-2 c = rw (c.if-r.false, c.if-r-2.true)

pub returns-then-r-3 : goal.returns-then-r-3
unfolding order_noted
returns-then-r-3 c = rw (c.if-r.false, c.if-r-2.false, c.if-r-3.true)

pub returns-then-each_has_earlier : goal.returns-then-each_has_earlier
unfolding order_noted
returns-then-each_has_earlier c =
    rw (c.if-r.false, c.if-r-2.false, c.if-r-3.false, sym c.each_has_earlier.ensures ∙ c.if-each_has_earlier.true)

pub returns-else-each_has_earlier : goal.returns-else-each_has_earlier
unfolding order_noted
returns-else-each_has_earlier c =
    rw (c.if-r.false, c.if-r-2.false, c.if-r-3.false, sym c.each_has_earlier.ensures ∙ c.if-each_has_earlier.false)
