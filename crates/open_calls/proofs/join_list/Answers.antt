-- Turned back before an entry is read, or by its entries.
use Rattle.std.proofs.Common.{ap, ◌∙◌}
use Rattle.std.proofs.lemmas.Result.{err_from_is_err_and}
use Rattle.open_calls.specs.Steps.{and_then, entries_judged, list_judged}
use Rattle.open_calls.proofs.join_list.Goals as goal

pub returns-in_err-judge_call-clause-judged : goal.returns-in_err-judge_call-clause-judged
unfolding list_judged
returns-in_err-judge_call-clause-judged c =
    let p = err_from_is_err_and c.from_residual.result c.from_residual.ensures.1 in rw (p.1, p.2) (ap (λ j. and_then j (entries_judged c.args.list.now)) c.in_err-judge_call.ensures)

pub returns-clause-judged : goal.returns-clause-judged
unfolding list_judged
returns-clause-judged c = c.join_entries.ensures.judged ∙ ap (λ j. and_then j (entries_judged c.args.list.now)) c.in_ok-judge_call.ensures
