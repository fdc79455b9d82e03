-- An only candidate is taken by every rule.
use Rattle.std.proofs.Common.{◌≡◌, ℕ, zero, suc, ◌<◌, ◌≤◌, Bool, true, false, ◌&&◌, List, [], ◌∷◌, length, get_or, set, replicate, sym, refl, ap, ◌∙◌, arith, get_or-set_other}
use mathlib.Core.List.{zip_with}
use native.Mathlib.Decide.{ℕ_discrete}
use lib.Bits.{bit_and}
use Rattle.sequences.specs.Marks.{first_mark, marked, padded}
use Rattle.sequences.specs.Select.{some_passes}
use Rattle.sequences.proofs.Booleans.{never_both}
use Rattle.sequences.proofs.Marks.{marked-first}
use Rattle.timestamps.specs.Composite.{IsComposite, members}
use Rattle.timestamps.specs.Order.{Clocks}
use Rattle.occurrences.specs.declared.Occurrence.{Occurrence}
use Rattle.occurrences.specs.Occurrences.{no_occurrence}
use Rattle.occurrences.proofs.Orders.{not_before_itself}
use Rattle.waiting_lists.specs.Marks.{marks_of}
use Rattle.waiting_lists.proofs.Marks.{length_marks, marks_and}
use Rattle.contexts.specs.Choice.{and_candidates, taken_of, takes}
use Rattle.contexts.specs.Table.{Taken, latest, earliest, every}
use Rattle.contexts.proofs.Steps.{all_taken}

-- where it is the only one, it keeps itself from nothing
takes_itself : (t : Taken) (clocks : Clocks) (w : Occurrence) → IsComposite clocks (members w.latest) → takes t clocks (w ∷ []) w ≡ true
unfolding takes some_passes
takes_itself latest clocks w c = rw (not_before_itself clocks w c.some.1)
takes_itself earliest clocks w c = rw (not_before_itself clocks w c.some.1)
takes_itself every clocks w c = refl

-- two tests that agree where there is a mark
zip_same : (f g : Occurrence → Bool) (l : List Occurrence) (m : List Bool) → ((i : ℕ) → i < length l → get_or m i false ≡ true → f (get_or l i no_occurrence) ≡ g (get_or l i no_occurrence))
    → zip_with (λ w c. c && f w) l m ≡ zip_with (λ w c. c && g w) l m
unfolding zip_with
zip_same f g [] m h = refl
zip_same f g (w ∷ l) [] h = refl
zip_same f g (w ∷ l) (true ∷ m) h = rw (h 0 (omega arith) refl) (ap (λ r. g w ∷ r) (zip_same f g l m (λ i k e. h (suc i) (omega arith) e)))
zip_same f g (w ∷ l) (false ∷ m) h = ap (λ r. false ∷ r) (zip_same f g l m (λ i k e. h (suc i) (omega arith) e))

-- without marks nobody is marked
pub marked_off : (l : List Occurrence) (n : ℕ) → marked l (replicate n false) ≡ []
unfolding marked
marked_off [] n = refl
marked_off (w ∷ l) zero = refl
marked_off (w ∷ l) (suc n) = marked_off l n

off_at : (n i : ℕ) → get_or (replicate n false) i false ≡ false
off_at zero i = refl
off_at (suc n) zero = refl
off_at (suc n) (suc i) = off_at n i

marked-within : (m : List Bool) (i : ℕ) → get_or m i false ≡ true → i < length m
marked-within [] i e = absurd (never_both e refl)
marked-within (b ∷ m) zero e = omega arith
marked-within (b ∷ m) (suc i) e = omega (arith, marked-within m i e)

-- where no mark is left without the first, that is the only one
module _ (m : List Bool) (n : ℕ) (only : set m (first_mark m) false ≡ replicate n false) where
  is-first : (i : ℕ) → get_or m i false ≡ true → i ≡ first_mark m
  is-first i e = elim (ℕ_discrete i (first_mark m)) [
    | yes s ↦ s
    | no d ↦ absurd (never_both e (sym (get_or-set_other m (first_mark m) i false false d) ∙ ap (λ k. get_or k i false) only ∙ off_at n i))
  ]

  only_marked : (l : List Occurrence) (i : ℕ) → i < length l → get_or m i false ≡ true → marked l m ≡ get_or l i no_occurrence ∷ []
  only_marked l i h e =
      let first = is-first i e in
      marked-first l m no_occurrence (omega arith) (omega (arith, marked-within m i e))
      ∙ ap (λ k. get_or l (first_mark m) no_occurrence ∷ marked l k) only
      ∙ ap (λ r. get_or l (first_mark m) no_occurrence ∷ r) (marked_off l n)
      ∙ ap (λ k. get_or l k no_occurrence ∷ []) (sym first)

-- so it is taken, if it waits
pub only_taken : (t : Taken) (clocks : Clocks) (waiting : List Occurrence) (c r : ℕ) → length waiting ≤ 16 → set (marks_of c) (first_mark (marks_of c)) false ≡ replicate 16 false
    → marks_of r ≡ and_candidates waiting → ((i : ℕ) → i < length waiting → IsComposite clocks (members (get_or waiting i no_occurrence).latest))
    → marks_of (bit_and c r) ≡ taken_of t clocks waiting (marks_of c)
unfolding and_candidates taken_of
only_taken t clocks waiting c r few only e stamped =
    marks_and c r ∙ ap (zip_with ◌&&◌ (marks_of c)) e ∙ all_taken 16 waiting (marks_of c) (length_marks c) few
    ∙ ap (padded 16) (zip_same (λ w. true) (takes t clocks (marked waiting (marks_of c))) waiting (marks_of c)
    (λ i h k. sym (ap (λ those. takes t clocks those (get_or waiting i no_occurrence)) (only_marked (marks_of c) 16 only waiting i h k) ∙ takes_itself t clocks (get_or waiting i no_occurrence) (stamped i h))))
