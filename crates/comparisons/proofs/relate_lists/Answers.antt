-- Turned back before a list is read, by the first, by the second, or both are gathered.
use Rattle.std.proofs.Common.{refl, sym, ◌∙◌, arith}
use Rattle.std.proofs.lemmas.Result.{err_from_is_err_and}
use Rattle.comparisons.proofs.Comparisons.{both_go, call_stops, first_stops, length-bad, length-good, length_judged, second_stops, some_in}
use Rattle.comparisons.proofs.Relations.{relation_is}
use Rattle.comparisons.proofs.relate_lists.Goals as goal

pub returns-in_err-judge_call : goal.returns-in_err-judge_call
returns-in_err-judge_call c =
    let p = err_from_is_err_and c.from_residual.result c.from_residual.ensures.1 in rw (p.1, p.2) (call_stops _ _ _ _ c.in_err-judge_call.ensures)

pub returns-in_err-gather_list : goal.returns-in_err-gather_list
returns-in_err-gather_list c =
    let p = err_from_is_err_and c.from_residual-in_err-gather_list.result c.from_residual-in_err-gather_list.ensures.1 in
    rw (p.1, p.2) (first_stops _ _ _ c.in_ok-judge_call.ensures _ (c.in_err-gather_list.ensures.judged refl (omega arith)))

pub returns-then-not-is_length : goal.returns-then-not-is_length
returns-then-not-is_length c =
    second_stops _ _ _ c.in_ok-judge_call.ensures (c.in_ok-gather_list.ensures.judged refl (omega arith)) _
    (length-bad _ _ _ (sym c.is_length.ensures ∙ c.if-not-is_length.true))

pub returns-in_err-gather_list-2 : goal.returns-in_err-gather_list-2
returns-in_err-gather_list-2 c =
    let p = err_from_is_err_and c.from_residual-in_err-gather_list-2.result c.from_residual-in_err-gather_list-2.ensures.1 in
    rw (p.1, p.2) (second_stops _ _ _ c.in_ok-judge_call.ensures (c.in_ok-gather_list.ensures.judged refl (omega arith)) _
    (c.in_err-gather_list-2.ensures.judged refl (omega arith) ∙ length-good _ _ _ (sym c.is_length.ensures ∙ c.if-not-is_length.false)))

pub returns : goal.returns
returns c =
    both_go _ _ _ c.in_ok-judge_call.ensures (c.in_ok-gather_list.ensures.judged refl (omega arith)) _
    (c.in_ok-gather_list-2.ensures.judged refl (omega arith) ∙ length-good _ _ _ (sym c.is_length.ensures ∙ c.if-not-is_length.false))
    (c.relation_of.ensures ∙ relation_is c.args.ratio _ _ _ _ (c.in_ok-gather_list.ensures.noted refl) (c.in_ok-gather_list-2.ensures.noted refl)
    (some_in _ (length_judged c.args.ratio _ c.in_ok-judge_call.ensures)).1)
