-- Nothing without candidates, else the choice.
use Rattle.arrivals.proofs.Meetings.{removes-none, takes_none}
use Rattle.waiting_lists.proofs.Marks.{length_marks, marks_none, none_first}
use Rattle.waiting_lists.proofs.Waits.{waits-few}
use Rattle.waiting_lists.specs.Marks.{marks_of}
use Rattle.contexts.specs.Table.{row_of}
use mathlib.Core.Bool.{not}
use mathlib.Core.Path.{◌∙◌, ap}
use Rattle.arrivals.proofs.choice_of.Goals as goal

pub returns-then-is_none : goal.returns-then-is_none
returns-then-is_none c =
    let a = c.args in
    let off = none_first a.candidates _ c.first_marked.ensures (c.is_none.ensures ∙ ap not c.if-is_none.true) in
    λ t l h. (
      takes_none (row_of a.context) t.clocks l (waits-few t a.list.now l h) (marks_of a.candidates) _ (length_marks a.candidates) off marks_none,
      removes-none (row_of a.context) t.clocks l (waits-few t a.list.now l h) (marks_of a.candidates) _ (length_marks a.candidates) off marks_none,
    )

pub returns : goal.returns
returns c = c.choose.ensures
