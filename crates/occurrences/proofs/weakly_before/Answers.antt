-- Clearly apart one way, or the other, or by all places.
use Rattle.occurrences.specs.Occurrences.{is_weakly_before}
use Rattle.occurrences.proofs.Befores.{before_clear}
use Rattle.occurrences.proofs.Seen.{stands-composite}
use Rattle.std.proofs.Common.{◌+◌, ◌<◌, not, sym, ap, ◌∙◌, ltb-true}
use Rattle.timestamps.specs.Order.{clearly_earlier}
use Rattle.timestamps.proofs.Composites.{before-weakly}
use Rattle.timestamps.proofs.Words.{after_not_weakly}
use Rattle.occurrences.proofs.weakly_before.Goals as goal

pub returns-then-clearly_earlier : goal.returns-then-clearly_earlier
unfolding is_weakly_before clearly_earlier
returns-then-clearly_earlier c =
    let apart : c.args.own.0 + 1 < c.args.other.0 = ltb-true _ _ (sym c.clearly_earlier.ensures ∙ c.if-clearly_earlier.true) in
    λ t x y l f p q. c.if-clearly_earlier.true ∙ sym (before-weakly t.clocks _ _ (stands-composite t _ x p) (before_clear t x y _ _ p q _ l _ f apart))

pub returns-then-not-clearly_earlier : goal.returns-then-not-clearly_earlier
unfolding is_weakly_before
returns-then-not-clearly_earlier c = λ t x y l f p q. c.weakly_by_place.ensures t x y f p q

pub returns-else-not-clearly_earlier : goal.returns-else-not-clearly_earlier
unfolding is_weakly_before clearly_earlier
returns-else-not-clearly_earlier c =
    let apart : c.args.other.0 + 1 < c.args.own.0 = ltb-true _ _ (sym c.clearly_earlier-else-clearly_earlier.ensures ∙ c.if-not-clearly_earlier.false) in
    λ t x y l f p q. ap not c.if-not-clearly_earlier.false ∙ sym (after_not_weakly t.clocks _ _ (stands-composite t _ x p).some.1 (before_clear t y x _ _ q p _ f _ l apart))
