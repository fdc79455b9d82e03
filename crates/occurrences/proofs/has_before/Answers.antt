-- By the three cases.
use Rattle.occurrences.proofs.Befores.{clear_wraps}
use Rattle.occurrences.specs.Steps.{has_before}
use Rattle.timestamps.specs.Order.{clearly_earlier}
use Rattle.std.proofs.Common.{sym, ◌∙◌, arith, rules, eq-eqb, ne_eqb}
use Rattle.sequences.proofs.Booleans.{never_both}
use Rattle.occurrences.proofs.has_before.Goals as goal
use Rattle.occurrences.proofs.has_before.Goals.{then-other-eq0, else-other-eq0}

pub returns-then-own_before : goal.returns-then-own_before
unfolding has_before
returns-then-own_before c = λ h. elim c.if-other-eq0.branch [
  | then-other-eq0 w ↦ rw (eq-eqb _ _ w.if-other-eq0.true) c.if-own_before.true
  | else-other-eq0 w ↦ let left = w.if-other-eq0.false in
      rw (ne_eqb _ _ left, sym (w.own_before.ensures (omega (arith, left))) ∙ sym w.value-is ∙ c.if-own_before.true) c.if-own_before.true
]

pub returns-else-own_before : goal.returns-else-own_before
unfolding has_before clearly_earlier
returns-else-own_before c = λ h. elim c.if-other-eq0.branch [
  | then-other-eq0 w ↦ absurd (never_both (w.value-is ∙ eq-eqb _ _ w.if-other-eq0.true) c.if-own_before.false)
  | else-other-eq0 w ↦ let left = w.if-other-eq0.false in
      rw (ne_eqb _ _ left, sym (w.own_before.ensures (omega (arith, left))) ∙ sym w.value-is ∙ c.if-own_before.false)
      (c.clearly_earlier.ensures ∙ clear_wraps _ _ _ (search rules) c.tick_of.ensures (h (omega (arith, left))))
]
