-- By the tests, in turn.
use Rattle.occurrences.specs.Occurrences.{occurrence_order}
use Rattle.occurrences.proofs.Seen.{stands-composite}
use Rattle.timestamps.proofs.Words.{word_after, word_before, word_concurrent, word_incomparable}
use Rattle.std.proofs.Common.{sym, ◌∙◌}
use Rattle.occurrences.proofs.order_by_place.Goals as goal
use Rattle.occurrences.proofs.order_by_place.Goals.{else-weakly_by_place-via-then-weakly_by_place+else-weakly_by_place-2, else-weakly_by_place-via-else-weakly_by_place}

pub returns-then-before : goal.returns-then-before
unfolding occurrence_order
returns-then-before c = λ t x y l f p q. sym (word_before t.clocks _ _ (sym (c.before-2.ensures t x y l p q) ∙ c.if-before.true))

pub returns-then-before-2 : goal.returns-then-before-2
unfolding occurrence_order
returns-then-before-2 c = λ t x y l f p q. sym (word_after t.clocks _ _ (stands-composite t _ y q) (sym (c.before-3.ensures t y x f q p) ∙ c.if-before-2.true))

pub returns-then-weakly_by_place-2 : goal.returns-then-weakly_by_place-2
unfolding occurrence_order
returns-then-weakly_by_place-2 c =
    λ t x y l f p q. sym (word_concurrent t.clocks _ _ (sym (c.before-2.ensures t x y l p q) ∙ c.if-before.false) (sym (c.before-3.ensures t y x f q p) ∙ c.if-before-2.false)
    (sym (c.weakly_by_place.ensures t x y f p q) ∙ c.if-weakly_by_place.true) (sym (c.weakly_by_place-then-weakly_by_place.ensures t y x l q p) ∙ c.if-weakly_by_place-2.true))

pub returns-else-weakly_by_place : goal.returns-else-weakly_by_place
unfolding occurrence_order
returns-else-weakly_by_place c =
    λ t x y l f p q. sym (word_incomparable t.clocks _ _ (sym (c.before-2.ensures t x y l p q) ∙ c.if-before.false) (sym (c.before-3.ensures t y x f q p) ∙ c.if-before-2.false)
    (elim c.else-weakly_by_place.branch [
      | else-weakly_by_place-via-then-weakly_by_place+else-weakly_by_place-2 w ↦ rw (
        sym (c.weakly_by_place.ensures t x y f p q) ∙ w.if-weakly_by_place.true,
        sym (w.weakly_by_place-then-weakly_by_place.ensures t y x l q p) ∙ w.if-weakly_by_place-2.false,
      )
      | else-weakly_by_place-via-else-weakly_by_place w ↦ rw (sym (c.weakly_by_place.ensures t x y f p q) ∙ w.if-weakly_by_place.false)
    ]))
