-- The zeros below the first bit that is set.
use Rattle.std.proofs.Common.{arith}
use Rattle.waiting_lists.proofs.Marks.{first-is}
use Rattle.waiting_lists.proofs.first_marked.Goals as goal

pub returns-then-first-lt16 : goal.returns-then-first-lt16
returns-then-first-lt16 c = (omega (arith, first-is c.args.marks, c.if-first-lt16.true), c.if-first-lt16.true)

pub returns-else-first-lt16 : goal.returns-else-first-lt16
returns-else-first-lt16 c = omega (arith, first-is c.args.marks, c.if-first-lt16.false)
