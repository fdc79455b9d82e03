-- No mark is left without the first.
use Rattle.waiting_lists.proofs.Marks.{marks_none, marks_rest}
use Rattle.waiting_lists.specs.Marks.{marks_of}
use Rattle.std.proofs.Common.{sym, ap, ◌∙◌, eqb-true}
use Rattle.contexts.proofs.at_most_one.Goals as goal

pub returns-then-marks-eq0 : goal.returns-then-marks-eq0
returns-then-marks-eq0 c = λ e. rw c.if-marks-eq0.true (sym (marks_rest 0) ∙ marks_none)

pub returns-else-marks-eq0 : goal.returns-else-marks-eq0
returns-else-marks-eq0 c = λ e. sym (marks_rest c.args.marks) ∙ ap marks_of (eqb-true _ _ e) ∙ marks_none
