-- Which lefts no waiting middle blocks.
use Rattle.std.proofs.Common.{◌≡◌, ℕ, ◌+◌, ◌<◌, ◌≤◌, Bool, true, false, ◌&&◌, List, [], ◌∷◌, map, length, get_or, take, drop, refl, ap, add-one, arith, drop_of_length-le, length-take-le, get_or-take, take_all, drop-cons}
use Rattle.sequences.specs.Marks.{padded}
use Rattle.sequences.specs.Select.{some_passes}
use Rattle.timestamps.specs.Order.{Clocks}
use Rattle.occurrences.specs.declared.Occurrence.{Occurrence}
use Rattle.occurrences.specs.Occurrences.{is_before, is_weakly_before, no_occurrence}
use Rattle.contexts.specs.Choice.{absence_candidates, blocks, seq_candidates}

-- ---- a loop over the first n of a list that looks for one
module _ (p : Occurrence → Bool) (l : List Occurrence) (n : ℕ) (most : n ≤ length l) (i : ℕ) where
  module _ (more : i < n) where
    in_those : i < length (take n l)
    in_those = omega (arith, length-take-le n l most)

    here : get_or (take n l) i no_occurrence ≡ get_or l i no_occurrence
    here = get_or-take n l i no_occurrence more

    pub any_here : p (get_or l i no_occurrence) ≡ true → some_passes p (drop i (take n l)) ≡ true
    unfolding some_passes
    any_here e = rw (drop-cons (take n l) i no_occurrence in_those, here, e)

    pub any_later : p (get_or l i no_occurrence) ≡ false → some_passes p (drop i (take n l)) ≡ some_passes p (drop (i + 1) (take n l))
    unfolding some_passes
    any_later e = rw (add-one, drop-cons (take n l) i no_occurrence in_those, here, e)

  pub any_past : n ≤ i → some_passes p (drop i (take n l)) ≡ false
  unfolding some_passes
  any_past h = let past : length (take n l) ≤ i = omega (arith, length-take-le n l most) in rw (drop_of_length-le (take n l) past)

-- ---- by both words
module _ (clocks : Clocks) (x z y : Occurrence) (r : Bool) (e : r ≡ is_weakly_before clocks x y) where
  pub passed_by : r ≡ false → r ≡ blocks clocks x z y
  unfolding blocks
  passed_by h = rw (← e, h)

  pub blocked_by : r ≡ true → (s : Bool) → s ≡ is_weakly_before clocks y z → s ≡ blocks clocks x z y
  unfolding blocks
  blocked_by h s f = rw (← e, h) f

-- ---- for callers: without middles that block, those before it; with all of them, the candidates of absence
module _ (clocks : Clocks) (lefts middles : List Occurrence) (o : Occurrence) where
  pub none_block : absence_candidates clocks lefts (take 0 middles) o ≡ seq_candidates clocks lefts o
  unfolding absence_candidates seq_candidates some_passes
  none_block = ap (padded 16) (each lefts)
    where
      and_true : (b : Bool) → (b && true) ≡ b
      and_true true = refl
      and_true false = refl

      each : (l : List Occurrence) → map (λ w. is_before clocks w o && true) l ≡ map (λ w. is_before clocks w o) l
      each [] = refl
      each (w ∷ l) = rw (and_true (is_before clocks w o)) (ap (λ r. is_before clocks w o ∷ r) (each l))

  pub all_block : (n : ℕ) → n ≡ length middles → absence_candidates clocks lefts (take n middles) o ≡ absence_candidates clocks lefts middles o
  all_block n e = ap (λ l. absence_candidates clocks lefts l o) (take_all n middles (omega arith))
