-- By whether there are takers.
use borrow.Author.Tests.{eq-eqb, ne_eqb}
use Rattle.progress.specs.Seats.{made_room}
use Rattle.slots.proofs.made_room.Goals as goal

pub returns-then-takers-eq0 : goal.returns-then-takers-eq0
unfolding made_room
returns-then-takers-eq0 c = rw (eq-eqb _ 0 c.if-takers-eq0.true)

pub returns-else-takers-eq0 : goal.returns-else-takers-eq0
unfolding made_room
returns-else-takers-eq0 c = rw (ne_eqb _ 0 c.if-takers-eq0.false)
