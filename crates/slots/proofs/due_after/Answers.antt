-- By whether anything was made.
use borrow.Author.Tests.{le-ltb, lt-ltb}
use Rattle.progress.specs.Seats.{due_after}
use Rattle.slots.proofs.due_after.Goals as goal

pub returns-then-made-gt0 : goal.returns-then-made-gt0
unfolding due_after
returns-then-made-gt0 c = rw (lt-ltb 0 c.args.made c.if-made-gt0.true)

pub returns-else-made-gt0 : goal.returns-else-made-gt0
unfolding due_after
returns-else-made-gt0 c = rw (le-ltb 0 c.args.made c.if-made-gt0.false)
