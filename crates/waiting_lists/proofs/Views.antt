-- For callers: any map carries an append over (and a removal: `map-unmarked`, sequences), and nothing else comes into a list.
use mathlib.Core.Path.{◌≡◌, refl, ap}
use mathlib.Core.Bool.{Bool, true, false}
use mathlib.Core.List.Memᴰ
use mathlib.Core.List.{List, [], ◌∷◌, ◌++◌, map, map-append}
use mathlib.Core.Logic.{◌⊎◌, inl, inr, ⊎_elim}
use lib.Dec.{leb}
use lib.ListN.{length-map}
use Rattle.sequences.specs.Choice.{pick}
use Rattle.sequences.specs.Marks.{unmarked}
use Rattle.sequences.specs.Members.{◌is_in◌}
use Rattle.sequences.proofs.Booleans.{either_way}
use Rattle.sequences.proofs.Marks.{order_in, unmarked_order}
use Rattle.waiting_lists.specs.Waiting.{appended_to, is_full}

module _ {A B : Type 0} (f : A → B) where
  pub map_full : (l : List A) → is_full (map f l) ≡ is_full l
  unfolding is_full
  map_full l = ap (leb 16) (length-map l f)

  pub map-appended : (l : List A) (a : A) → map f (appended_to l a) ≡ appended_to (map f l) (f a)
  unfolding appended_to
  map-appended l a = rw (map_full l) (go (is_full l))
    where
      go : (full : Bool) → map f (pick full l (l ++ (a ∷ []))) ≡ pick full (map f l) (map f l ++ (f a ∷ []))
      go true = refl
      go false = map-append f l (a ∷ [])

-- what waits after an append waited before, or is the new one
pub appended_of : {A : Type 0} (l : List A) (a b : A) → b is_in appended_to l a → (b is_in l) ⊎ (b ≡ a)
unfolding appended_to
appended_of l a b m =
    ⊎_elim
    (λ y. inl (rw y at m))
    (λ n. ⊎_elim inl (λ i. inr (Memᴰ.eq_of_singleton i)) (Memᴰ.append_cases l (rw n at m)))
    (either_way (is_full l))

-- what is not marked was in the list
pub unmarked_of : {A : Type 0} {b : A} (l : List A) (m : List Bool) → b is_in unmarked l m → b is_in l
unmarked_of l m = order_in (unmarked_order l m)
