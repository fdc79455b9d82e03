-- What an arrival makes, for every choice.
use Rattle.std.proofs.Common.{◌≡◌, ℕ, ◌<◌, ◌≤◌, Bool, List, [], ◌∷◌, length, refl, ap, ◌∙◌, arith}
use mathlib.Core.List.Memᴰ
use lib.ListN.{length-map}
use Rattle.sequences.specs.Loops.{fold}
use Rattle.sequences.specs.Marks.{first_mark, marked}
use Rattle.sequences.specs.Members.{◌is_in◌}
use Rattle.sequences.proofs.Marks.{marked-none, marked-some}
use Rattle.sequences.proofs.Members.{map_of, same_swap}
use Rattle.timestamps.specs.Order.{Clocks}
use Rattle.occurrences.specs.declared.Occurrence.{Occurrence}
use Rattle.occurrences.specs.Combination.{combination_of, combined_of}
use Rattle.occurrences.proofs.Combination.{combination_fold, combination_same, combination_two}
use Rattle.contexts.specs.Choice.{chosen}
use Rattle.contexts.specs.Made.{made_of}
use Rattle.contexts.specs.Table.{Findings, each, together, Context}
use Rattle.contexts.proofs.Choices.{none-taken}

-- of nothing nothing is made
pub made_none : (x : Findings) (clocks : Clocks) (o : Occurrence) → made_of x clocks [] o ≡ []
unfolding made_of
made_none each clocks o = refl
made_none together clocks o = refl

-- without candidates nothing is made
pub none_made : (row : Context) (clocks : Clocks) (waiting : List Occurrence) (candidates : List Bool) (o : Occurrence) → marked waiting candidates ≡ []
    → made_of row.finds clocks (marked waiting (chosen row clocks waiting candidates).taken) o ≡ []
none_made row clocks waiting candidates o none = ap (λ l. made_of row.finds clocks l o) (none-taken row clocks waiting candidates none) ∙ made_none row.finds clocks o

-- one for each taken, or at most one for all
pub made_each : (clocks : Clocks) (those : List Occurrence) (o : Occurrence) → length (made_of each clocks those o) ≡ length those
unfolding made_of
made_each clocks those o = length-map those (λ w. combined_of clocks w o)

pub made_together : (clocks : Clocks) (those : List Occurrence) (o : Occurrence) → length (made_of together clocks those o) ≤ 1
unfolding made_of
made_together clocks [] o = omega arith
made_together clocks (w ∷ those) o = omega arith

-- the arrival with all taken one after another: where one is taken that is made, and where none is nothing
module _ (clocks : Clocks) (o : Occurrence) (waiting : List Occurrence) (m : List Bool) (first n : ℕ) (at : first ≡ first_mark m) (many : n ≡ length waiting) where
  pub together_some : n ≤ 16 → length m ≡ 16 → first < n → fold (combined_of clocks) (marked waiting m) o ∷ [] ≡ made_of together clocks (marked waiting m) o
  unfolding made_of
  together_some few long h =
      let (w, rest, f) = marked-some waiting m (omega arith) (omega arith) in
      rw f (ap (λ x. x ∷ []) (combination_fold clocks o w rest))

  pub together_none : n ≤ first → made_of together clocks (marked waiting m) o ≡ []
  together_none h = ap (λ l. made_of together clocks l o) (marked-none waiting m (omega arith)) ∙ made_none together clocks o

-- no mark among 16 places: none of at most 16 is marked
pub none-marked : (waiting : List Occurrence) (m : List Bool) → length waiting ≤ 16 → 16 ≤ first_mark m → marked waiting m ≡ []
none-marked waiting m few h = marked-none waiting m (omega arith)

-- whatever is made is the combination of the arrival and one or more of those taken
pub record MadeOf (clocks : Clocks) (those : List Occurrence) (o made : Occurrence) : Type 0 where
  pub first : Occurrence
  pub more : List Occurrence
  pub within : (p : Occurrence) → p is_in (first ∷ more) → p is_in those
  pub combined : made ≡ combination_of clocks (o ∷ first ∷ more)

pub made_parts : (x : Findings) (clocks : Clocks) (those : List Occurrence) (o : Occurrence) {made : Occurrence} → made is_in made_of x clocks those o → MadeOf clocks those o made
unfolding made_of
made_parts each clocks those o m =
    let (w, i, e) = map_of (λ w. combined_of clocks w o) those m in
    record {
      first = w;
      more = [];
      within = λ p j. Memᴰ.cast (Memᴰ.eq_of_singleton j) i;
      combined = e ∙ combination_two clocks w o ∙ combination_same clocks (w ∷ o ∷ []) (o ∷ w ∷ []) (same_swap (w ∷ []) (o ∷ []));
    }
made_parts together clocks [] o m = absurd (Memᴰ.not-nil m)
made_parts together clocks (w ∷ those) o m = record { first = w; more = those; within = λ p j. j; combined = Memᴰ.eq_of_singleton m }
