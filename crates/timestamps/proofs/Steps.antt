-- An array of eight, one for each logger place, filled from the front.
use mathlib.Core.Path.{◌≡◌, refl, sym, ap, ◌∙◌}
use mathlib.Core.List.{List, ◌++◌, map, append-nil}
use Prim.Native.Nat.{ℕ, ◌+◌, ◌-◌, ◌≤◌, ◌<◌}
use native.Mathlib.Omega.{arith}
use lib.ListN.{length, replicate, set, take, length-map}
use Rattle.sequences.proofs.Arrays.{fill_map, fill_map_end}
use Rattle.sequences.proofs.Range.{length_range, get_or_range}
use Rattle.timestamps.specs.Composite.{logger_places}

unfoldable pub filled_to : {B : Type 0} → B → (ℕ → B) → ℕ → List B
filled_to z f k = take k (map f logger_places) ++ replicate (8 - k) z

module _ {B : Type 0} (z : B) (f : ℕ → B) where
  pub filled_start : replicate 8 z ≡ filled_to z f 0
  unfolding filled_to
  filled_start = refl

  pub filled_turn : (l : List B) (k : ℕ) (v : B) → k < 8 → l ≡ filled_to z f k → v ≡ f k → set l k v ≡ filled_to z f (k + 1)
  unfolding filled_to
  filled_turn l k v h e g =
      let n : length logger_places ≡ 8 = length_range 0 8 in
      ap (λ m. set m k v) e ∙ fill_map 8 z f logger_places k v 0 (omega arith) (omega arith) (g ∙ ap f (sym (get_or_range 0 8 k 0 h ∙ omega arith)))

  pub filled_end : (l : List B) (k : ℕ) → k ≤ 8 → 8 ≤ k → l ≡ filled_to z f k → l ≡ map f logger_places
  unfolding filled_to
  filled_end l k a b e =
      let n : length logger_places ≡ 8 = length_range 0 8 in
      e ∙ fill_map_end 8 z f logger_places k (omega arith) ∙ rw (length-map logger_places f, n) (append-nil (map f logger_places))
