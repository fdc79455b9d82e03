-- One bit more, or none.
use borrow.Author.Rules.{rules}
use Rattle.event_sets.proofs.Words.{one_shl}
use Rattle.waiting_lists.proofs.Marks.{marks_set}
use Rattle.waiting_lists.proofs.with_mark.Goals as goal

pub returns-then-mark : goal.returns-then-mark
returns-then-mark c = let a = c.args in rw (c.if-mark.true, one_shl a.i (search rules)) (marks_set a.marks a.i (search rules))

pub returns-else-mark : goal.returns-else-mark
returns-else-mark c = rw c.if-mark.false
