-- Clearly apart one way, or the other, or by all places.
use Rattle.occurrences.specs.Occurrences.{occurrence_order}
use Rattle.occurrences.proofs.Befores.{before_clear}
use Rattle.occurrences.proofs.Seen.{stands-composite}
use Rattle.std.proofs.Common.{◌+◌, ◌<◌, sym, ◌∙◌, ltb-true}
use Rattle.timestamps.specs.Order.{clearly_earlier}
use Rattle.timestamps.proofs.Words.{word_after, word_before}
use Rattle.occurrences.proofs.order.Goals as goal

pub returns-then-clearly_earlier : goal.returns-then-clearly_earlier
unfolding occurrence_order clearly_earlier
returns-then-clearly_earlier c =
    let apart : c.args.low.0 + 1 < c.args.first.0 = ltb-true _ _ (sym c.clearly_earlier.ensures ∙ c.if-clearly_earlier.true) in
    λ t x y l f p q. sym (word_before t.clocks _ _ (before_clear t x y _ _ p q _ l _ f apart))

pub returns-then-clearly_earlier-2 : goal.returns-then-clearly_earlier-2
unfolding occurrence_order clearly_earlier
returns-then-clearly_earlier-2 c =
    let apart : c.args.first.0 + 1 < c.args.low.0 = ltb-true _ _ (sym c.clearly_earlier-2.ensures ∙ c.if-clearly_earlier-2.true) in
    λ t x y l f p q. sym (word_after t.clocks _ _ (stands-composite t _ y q) (before_clear t y x _ _ q p _ f _ l apart))

pub returns : goal.returns
returns c = c.order_by_place.ensures
