-- Where none is marked nothing changes; else the list without those marked is kept.
use Rattle.std.proofs.Common.{sym, subst, arith, ap, ◌∙◌, not}
use Rattle.sequences.specs.Marks.{unmarked}
use Rattle.waiting_lists.specs.Lists.{Removes, Waits}
use Rattle.waiting_lists.specs.Marks.{marks_of}
use Rattle.waiting_lists.proofs.Holding.{waits-unmarked}
use Rattle.waiting_lists.proofs.Marks.{length_marks, none_first}
use Rattle.waiting_lists.proofs.Removals.{unmarked_clear}
use Rattle.waiting_lists.proofs.remove_from.Goals as goal

pub returns-then-is_none : goal.returns-then-is_none
returns-then-is_none c =
    let off = none_first c.args.gone _ c.first_marked.ensures (c.is_none.ensures ∙ ap not c.if-is_none.true) in
    λ ticks globals t l h. subst (Waits t c.args.w.now) (sym (unmarked_clear l (marks_of c.args.gone) (omega (arith, length_marks c.args.gone, off)))) h

pub returns : goal.returns
returns c =
    let gone = marks_of c.args.gone in
    let removes = subst (λ list. Removes list gone c.remove.new.list) c.list_of-rest.ensures c.remove.ensures in
    λ ticks globals t l h. subst (λ v. Waits t v (unmarked l gone)) (sym c.keep.ensures) (waits-unmarked t c.args.w.now l h c.remove.new.list gone removes)
