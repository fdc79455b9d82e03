-- What is accumulated: the lefts, the arrival and the middles between.
use Rattle.std.proofs.Common.{◌≡◌, ℕ, ◌<◌, ◌≤◌, Bool, true, false, ◌&&◌, List, ◌∷◌, ◌++◌, map, length, get_or, set, sym, refl, ap, ◌∙◌, arith}
use mathlib.Core.List.{zip_with}
use Rattle.sequences.specs.Loops.{fold}
use Rattle.sequences.specs.Marks.{first_mark, marked, padded}
use Rattle.sequences.specs.Select.{filter, some_passes}
use Rattle.sequences.proofs.Loops.{fold-append}
use Rattle.sequences.proofs.Marks.{marked-first, marked-none, marked-map, marked-padded, zip_test}
use Rattle.sequences.proofs.Select.{filter_same}
use Rattle.timestamps.specs.Order.{Clocks}
use Rattle.occurrences.specs.declared.Occurrence.{Occurrence}
use Rattle.occurrences.specs.Combination.{combination_of, combined_of}
use Rattle.occurrences.specs.Occurrences.{is_before, no_occurrence}
use Rattle.occurrences.proofs.Combination.{combination_fold}
use Rattle.contexts.specs.Choice.{seq_candidates}
use Rattle.contexts.specs.Made.{accumulation_of, is_between}
use Rattle.contexts.specs.Steps.{Some, after_marks}

-- ---- one of those marked after the other; i is the first
module _ (p : Occurrence → Bool) (l : List Occurrence) (m : List Bool) (i : ℕ) (at : i ≡ first_mark m) (in_l : i < length l) (in-m : i < length m) where
  first_of : marked l m ≡ get_or l i no_occurrence ∷ marked l (set m (first_mark m) false)
  first_of = rw at (marked-first l m no_occurrence (omega arith) (omega arith))

  pub some-here : p (get_or l i no_occurrence) ≡ true → true ≡ some_passes p (marked l m)
  unfolding some_passes
  some-here e = rw (first_of, e)

  pub some-later : p (get_or l i no_occurrence) ≡ false → (rest : List Bool) → rest ≡ set m (first_mark m) false → some_passes p (marked l rest) ≡ some_passes p (marked l m)
  unfolding some_passes
  some-later e rest same = rw (first_of, e, same)

-- no mark is left
pub none-left : (p : Occurrence → Bool) (l : List Occurrence) (m : List Bool) → length l ≤ first_mark m → false ≡ some_passes p (marked l m)
unfolding some_passes
none-left p l m h = sym (ap (some_passes p) (marked-none l m h))

-- ---- the middles between
and-turned : (a b : Bool) → (a && b) ≡ (b && a)
and-turned true true = refl
and-turned true false = refl
and-turned false true = refl
and-turned false false = refl

module _ (clocks : Clocks) (lefts middles : List Occurrence) (o : Occurrence) where
  between_are : (m : List Bool) → m ≡ seq_candidates clocks middles o → marked middles (after_marks clocks lefts middles m) ≡ filter (is_between clocks lefts o) middles
  unfolding after_marks seq_candidates is_between
  between_are m e =
      ap (λ k. marked middles (padded 16 (zip_with (λ w c. c && some_passes (λ l. is_before clocks l w) lefts) middles k))) e
      ∙ ap (λ k. marked middles (padded 16 k)) (zip_test (λ w c. c && some_passes (λ l. is_before clocks l w) lefts) (λ w. is_before clocks w o) 16 middles)
      ∙ marked-padded 16 (map (λ w. is_before clocks w o && some_passes (λ l. is_before clocks l w) lefts) middles) middles
      ∙ marked-map (λ w. is_before clocks w o && some_passes (λ l. is_before clocks l w) lefts) middles
      ∙ filter_same _ _ middles (λ w i. and-turned (is_before clocks w o) (some_passes (λ l. is_before clocks l w) lefts))

  -- the lefts combined with the arrival, and then the middles between
  pub accumulation_is : (m found : List Bool) → m ≡ seq_candidates clocks middles o → Some lefts → found ≡ after_marks clocks lefts middles m
      → fold (combined_of clocks) (marked middles found) (fold (combined_of clocks) lefts o) ≡ accumulation_of clocks lefts middles o
  unfolding accumulation_of
  accumulation_is m found e some f =
      let (w, rest, g) = some in
      let between = filter (is_between clocks lefts o) middles in
      ap (λ k. fold (combined_of clocks) k (fold (combined_of clocks) lefts o)) (ap (marked middles) f ∙ between_are m e)
      ∙ sym (fold-append (combined_of clocks) lefts between o)
      ∙ ap (λ k. fold (combined_of clocks) (k ++ between) o) g
      ∙ combination_fold clocks o w (rest ++ between)
      ∙ ap (λ k. combination_of clocks (o ∷ k ++ between)) (sym g)
