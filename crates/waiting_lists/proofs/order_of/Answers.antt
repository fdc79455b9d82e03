-- 0 stands for the order at first.
use borrow.Author.Tests.{eq-eqb, ne_eqb}
use Rattle.waiting_lists.specs.Lists.{order_of}
use Rattle.waiting_lists.proofs.order_of.Goals as goal

pub returns-then-kept-eq0 : goal.returns-then-kept-eq0
unfolding order_of
returns-then-kept-eq0 c = rw (eq-eqb c.args.kept 0 c.if-kept-eq0.true)

pub returns-else-kept-eq0 : goal.returns-else-kept-eq0
unfolding order_of
returns-else-kept-eq0 c = rw (ne_eqb c.args.kept 0 c.if-kept-eq0.false)
