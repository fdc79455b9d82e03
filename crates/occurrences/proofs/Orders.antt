-- The order of occurrences, which is that of their composite timestamps.
use Rattle.std.proofs.Common.{◌≡◌, Bool, true, false, List, sym, ◌∙◌, ⊎_elim}
use Rattle.sequences.specs.Members.{◌is_in◌}
use Rattle.sequences.specs.Select.{some_passes}
use Rattle.sequences.proofs.Booleans.{never_both, false_of_not_true}
use Rattle.sequences.proofs.Select.{any_in, any_of, all_in, all_of}
use Rattle.timestamps.specs.declared.Order.TheVariants.{After}
use Rattle.timestamps.specs.declared.Timestamp.{Timestamp}
use Rattle.timestamps.specs.Comparison.{all_before, same_order}
use Rattle.timestamps.specs.Composite.{IsComposite, members}
use Rattle.timestamps.specs.Maxima.{maxima, StrictOrder}
use Rattle.timestamps.specs.Order.{Clocks, before}
use Rattle.timestamps.proofs.Maxima.{maxima_of, maxima_reach}
use Rattle.timestamps.proofs.Stamps.{before_irrefl, before_trans}
use Rattle.timestamps.proofs.Words.{is_after, is-before}
use Rattle.occurrences.specs.declared.Occurrence.{Occurrence}
use Rattle.occurrences.specs.Occurrences.{is_before, occurrence_order}

module _ (clocks : Clocks) where
  -- the order of timestamps, turned round
  abbrev after : Timestamp → Timestamp → Bool
  after s t = before clocks t s

  after_strict : StrictOrder after
  after_strict = record { irreflexive = before_irrefl clocks; transitive = λ a b c p q. before_trans clocks c b a q p }

  -- timestamps of which there is at least one are not before themselves: the earliest has none before it
  all_before_itself : (l : List Timestamp) {s : Timestamp} → s is_in l → all_before clocks l l ≡ true → ⊥
  unfolding all_before
  all_before_itself l {s} m e = ⊎_elim first (λ t. first t.1) (maxima_reach after after_strict l s m)
    where
      first : {t : Timestamp} → t is_in maxima after l → ⊥
      first {t} i =
          let (j, none) = maxima_of after l t i in
          let (u, k, y) = any_of (λ x. before clocks x t) l (all_of (λ x. some_passes (λ z. before clocks z x) l) l e j) in
          never_both y (none u k)

  -- the word is before where all stamps of b have one before them
  pub before_all : (a b : Occurrence) → is_before clocks a b ≡ all_before clocks (members a.latest) (members b.latest)
  unfolding is_before occurrence_order
  before_all a b = is-before clocks (members a.latest) (members b.latest)

  -- of a composite, the word is after where the other one's is before, turned round
  pub after_turned : (a b : Occurrence) → IsComposite clocks (members a.latest) → same_order (occurrence_order clocks a b) After ≡ is_before clocks b a
  unfolding occurrence_order
  after_turned a b c = is_after clocks (members a.latest) (members b.latest) c ∙ sym (before_all b a)

  -- an occurrence with at least one timestamp is not before itself
  pub not_before_itself : (o : Occurrence) {s : Timestamp} → s is_in members o.latest → is_before clocks o o ≡ false
  not_before_itself o m = before_all o o ∙ false_of_not_true _ (all_before_itself (members o.latest) m)

  -- before carries on through a middle occurrence
  pub before_carries : (a b c : Occurrence) → is_before clocks a b ≡ true → is_before clocks b c ≡ true → is_before clocks a c ≡ true
  unfolding all_before
  before_carries a b c p q = before_all a c ∙ all_in _ (members c.latest) (λ u k.
      let (t, i, y) = any_of (λ x. before clocks x u) (members b.latest) (all_of _ (members c.latest) (sym (before_all b c) ∙ q) k) in
      let (s, j, z) = any_of (λ x. before clocks x t) (members a.latest) (all_of _ (members b.latest) (sym (before_all a b) ∙ p) i) in
      any_in (λ x. before clocks x u) (members a.latest) j (before_trans clocks s t u z y))
