-- The ratio, then the length.
use Rattle.std.proofs.Common.{refl, sym, ◌∙◌}
use Rattle.open_calls.specs.Steps.{call_judged}
use Rattle.open_calls.proofs.judge_call.Goals as goal

pub returns-then-not-valid_ratio : goal.returns-then-not-valid_ratio
unfolding call_judged
returns-then-not-valid_ratio c = rw (sym c.valid_ratio.ensures ∙ c.if-not-valid_ratio.true) refl

pub returns-then-not-is_length : goal.returns-then-not-is_length
unfolding call_judged
returns-then-not-is_length c = rw (sym c.valid_ratio.ensures ∙ c.if-not-valid_ratio.false, sym c.is_length.ensures ∙ c.if-not-is_length.true)

pub returns-else-not-is_length : goal.returns-else-not-is_length
unfolding call_judged
returns-else-not-is_length c = rw (sym c.valid_ratio.ensures ∙ c.if-not-valid_ratio.false, sym c.is_length.ensures ∙ c.if-not-is_length.false)
