-- Before the first entry nothing is gathered; then entry by entry.
use Rattle.std.proofs.Common.{◌≡◌, ◌+◌, ◌-◌, ◌%◌, ◌^◌, [], ap, ◌∙◌, arith, take}
use Rattle.timestamps.specs.Order.{clocks_of}
use Rattle.comparisons.specs.Answers.{judged}
use Rattle.comparisons.proofs.Entries.{judged_end, judged_next, judged_stop, noted_end, noted_next}
use Rattle.comparisons.proofs.Notes.{noted_none}
use Rattle.comparisons.proofs.gather_list.Goals as goal

pub loop-i-init : goal.loop-i-init
loop-i-init c = λ e. (rw e (noted_none (clocks_of c.args.ratio)), (let z : c.args.from + 0 ≡ c.args.from = omega arith in ap (λ p. judged c.args.ratio [] p c.args.list.now) z))

pub loop-i-preserved : goal.loop-i-preserved
loop-i-preserved c = λ e.
    let (n, left) = c.loop-i.invariant e in
    let first = take c.loop-i.i c.args.list.now in (
      noted_next c.args.ratio c.args.from _ _ _ c.loop-i-test.true _ (c.in_default.ensures.noted first n),
      judged_next c.args.ratio c.args.from _ _ _ c.loop-i-test.true (c.in_default.ensures.judged first n) ∙ left,
    )

pub returns-in-Err-clause-judged : goal.returns-in-Err-clause-judged
returns-in-Err-clause-judged c = λ e f.
    let (n, left) = c.loop-i.invariant e in
    let place : (c.args.from + c.loop-i.i) % 2 ^ 64 ≡ c.args.from + c.loop-i.i = omega (arith, f) in
    rw place (judged_stop c.args.ratio c.args.from _ _ _ c.loop-i-test.true _ (c.in-Err.ensures.judged (take c.loop-i.i c.args.list.now) n) ∙ left)

-- what is gathered is that of the entries before this one
pub returns-in-Err-clause-kept : goal.returns-in-Err-clause-kept
returns-in-Err-clause-kept c = λ e f.
    let before : (c.args.from + c.loop-i.i) % 2 ^ 64 - c.args.from ≡ c.loop-i.i = omega (arith, f) in
    rw (before, c.in-Err.ensures.kept) (c.loop-i.invariant e).0

pub returns-clause-judged : goal.returns-clause-judged
returns-clause-judged c = λ e f. judged_end c.args.ratio c.args.from _ _ c.loop-i-test.false ∙ (c.loop-i.invariant e).1

pub returns-clause-noted : goal.returns-clause-noted
returns-clause-noted c = λ e. noted_end c.args.ratio c.args.from _ _ _ c.loop-i-test.false (c.loop-i.invariant e).0
