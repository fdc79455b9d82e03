-- `next_from` meets its contract: the next bit of the low word, if there is one, else that of the high word.
use Rattle.std.proofs.Common.{◌+◌, sym, ap, ◌∙◌, arith}
use Rattle.std.specs.Prelude.{option_map}
use Rattle.event_sets.proofs.Walks.{bit_most, next-found, next_after}
use Rattle.event_sets.proofs.next_from.Goals as goal

pub returns-in-Some : goal.returns-in-Some
returns-in-Some c = sym (next-found c.args.set c.args.number (sym c.next_bit.ensures ∙ c.in-Some.is))

pub returns-in_err-place : goal.returns-in_err-place
returns-in_err-place c =
    let past = next_after c.args.set c.args.number _ (sym c.next_bit.ensures ∙ c.in_default.is) c.saturating_sub.ensures in
    c.from_residual.ensures ∙ sym (past ∙ ap (option_map (λ p. 64 + p)) (sym c.next_bit-2.ensures ∙ c.in_err-place.was))

pub overflow_add-result : goal.overflow_add-result
overflow_add-result c = omega (arith, bit_most c.args.set.high c.saturating_sub.result (sym c.next_bit-2.ensures ∙ c.in_ok-place.was))

pub returns : goal.returns
returns c =
    let past = next_after c.args.set c.args.number c.saturating_sub.result (sym c.next_bit.ensures ∙ c.in_default.is) c.saturating_sub.ensures in
    sym (past ∙ ap (option_map (λ p. 64 + p)) (sym c.next_bit-2.ensures ∙ c.in_ok-place.was))
