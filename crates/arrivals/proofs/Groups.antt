-- The lefts of each finding that is accumulated: one after the other, or all.
use mathlib.Core.Bool.{Bool, true, false}
use mathlib.Core.List.{List, [], ◌∷◌, map}
use mathlib.Core.Path.{◌≡◌, refl, sym, ap, ◌∙◌}
use Prim.Native.Nat.{ℕ, zero, suc, ◌≤◌, ◌<◌}
use native.Mathlib.Omega.{arith}
use lib.ListN.{get_or, length, replicate, set}
use Rattle.sequences.specs.Loops.{fold}
use Rattle.sequences.specs.Marks.{first_mark, marked}
use Rattle.sequences.proofs.Loops.{fold-none, fold_next}
use Rattle.sequences.proofs.Marks.{marked-first, marked-none, marked-some}
use Rattle.timestamps.specs.Order.{Clocks}
use Rattle.occurrences.specs.declared.Occurrence.{Occurrence}
use Rattle.occurrences.specs.Occurrences.{no_occurrence}
use Rattle.contexts.specs.Made.{accumulation_of, groups_of}
use Rattle.contexts.specs.Steps.{Some}
use Rattle.contexts.specs.Table.{Findings, each, together}
use Rattle.contexts.proofs.Only.{marked_off}
use Rattle.emissions.specs.Emissions.{Emitting}

-- ---- one mark
marked_one : (l : List Occurrence) (n i : ℕ) → i < n → i < length l → marked l (set (replicate n false) i true) ≡ get_or l i no_occurrence ∷ []
unfolding marked
marked_one [] n i h k = absurd (omega arith)
marked_one (w ∷ l) zero i h k = absurd (omega arith)
marked_one (w ∷ l) (suc n) zero h k = ap (λ r. w ∷ r) (marked_off l n)
marked_one (w ∷ l) (suc n) (suc i) h k = marked_one l n i (omega arith) (omega arith)

-- ---- the next finding's lefts
abbrev Next : Findings → List Occurrence → (rest lefts others : List Bool) → Type 0
Next x l rest lefts others = (groups_of x (marked l rest) ≡ marked l lefts ∷ groups_of x (marked l others)) × Some (marked l lefts)

module _ (x : Findings) (l : List Occurrence) (rest lefts others none : List Bool) (in_l : first_mark rest < length l) (long : length rest ≡ 16) (in_16 : first_mark rest < 16) (off : none ≡ replicate 16 false) where
  first_one : lefts ≡ set none (first_mark rest) true → marked l lefts ≡ get_or l (first_mark rest) no_occurrence ∷ []
  first_one e = ap (marked l) (e ∙ ap (λ m. set m (first_mark rest) true) off) ∙ marked_one l 16 (first_mark rest) in_16 in_l

  pub next-each : x ≡ each → lefts ≡ set none (first_mark rest) true → others ≡ set rest (first_mark rest) false → Next x l rest lefts others
  unfolding groups_of
  next-each is one less = (
    rw (is, marked-first l rest no_occurrence in_l (omega arith), first_one one, less),
    (get_or l (first_mark rest) no_occurrence, [], first_one one),
  )

  pub next_together : x ≡ together → lefts ≡ rest → others ≡ none → Next x l rest lefts others
  unfolding groups_of
  next_together is same gone =
      let (w, those, e) = marked-some l rest in_l (omega arith) in
      let empty : marked l others ≡ [] = ap (marked l) (gone ∙ off) ∙ marked_off l 16 in
      (rw (is, empty, same, e), (w, those, ap (marked l) same ∙ e))

-- ---- a loop over them
module _ (f : Emitting → Occurrence → Emitting) (x : Findings) (clocks : Clocks) (k : List Occurrence) (o : Occurrence) (l : List Occurrence) (rest : List Bool) where
  abbrev made : List Bool → List Occurrence
  made m = map (λ lefts. accumulation_of clocks lefts k o) (groups_of x (marked l m))

  pub group_turn : (lefts others : List Bool) → groups_of x (marked l rest) ≡ marked l lefts ∷ groups_of x (marked l others) → (s s' : Emitting)
      → s' ≡ f s (accumulation_of clocks (marked l lefts) k o) → fold f (made others) s' ≡ fold f (made rest) s
  group_turn lefts others e s s' h =
      ap (fold f (made others)) h ∙ sym (fold_next f (accumulation_of clocks (marked l lefts) k o) (made others) s)
      ∙ ap (λ g. fold f (map (λ lefts. accumulation_of clocks lefts k o) g) s) (sym e)

  groups_none : (y : Findings) → groups_of y [] ≡ []
  unfolding groups_of
  groups_none each = refl
  groups_none together = refl

  pub group_end : (s : Emitting) → length l ≤ first_mark rest → fold f (made rest) s ≡ s
  group_end s h = ap (λ m. fold f (map (λ lefts. accumulation_of clocks lefts k o) (groups_of x m)) s) (marked-none l rest h)
      ∙ ap (λ g. fold f (map (λ lefts. accumulation_of clocks lefts k o) g) s) (groups_none x) ∙ fold-none f s
