-- As many marks as wait: all bits below a power of two.
use Rattle.std.proofs.Common.{sym, ◌∙◌, pow_pos, rules}
use Rattle.event_sets.proofs.Words.{one_shl}
use Rattle.waiting_lists.proofs.Marks.{marks_below}
use Rattle.contexts.proofs.Steps.{all_marks}
use Rattle.contexts.proofs.all_waiting.Goals as goal

pub overflow_sub-result : goal.overflow_sub-result
overflow_sub-result c = let n = c.args.n in rw (one_shl n (search rules)) (pow_pos n)

pub returns : goal.returns
returns c = let n = c.args.n in (λ l long. rw (one_shl n (search rules)) (marks_below n c.requires ∙ all_marks n l (sym long)))
