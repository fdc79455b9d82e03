-- The greatest elements of a list, for any relation. Document 01's join is this at "before".
use Rattle.std.specs.Prelude.{Bool, true, false, not, List, ◌≡◌}
use Rattle.sequences.specs.Select.{filter, some_passes}

-- those of a list that are below none of it
unfoldable pub maxima : {A : Type 0} → (A → A → Bool) → List A → List A
maxima R l = filter (λ a. not (some_passes (R a) l)) l

-- nothing is below itself, and below carries on through a middle element
pub record StrictOrder {A : Type 0} (R : A → A → Bool) : Type 0 where
  pub irreflexive : (a : A) → R a a ≡ false
  pub transitive : (a b c : A) → R a b ≡ true → R b c ≡ true → R a c ≡ true
