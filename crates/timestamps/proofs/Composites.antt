-- Composite stamps: the greatest of a list that has any are one; before and concurrent each give weakly before.
use mathlib.Core.Path.{◌≡◌, refl, ap, ap₂, ◌∙◌}
use mathlib.Core.Bool.{true, false, not, ◌&&◌}
use mathlib.Core.List.Memᴰ
use mathlib.Core.List.{List, [], ◌∷◌}
use mathlib.Core.Logic.{⊎_elim}
use Rattle.sequences.specs.Members.{◌is_in◌, SameMembers}
use Rattle.sequences.specs.Select.{some_passes, each_passes}
use Rattle.sequences.proofs.Booleans.{and_both, and_left, and_right, false_of_not_true, never_both, same_test}
use Rattle.sequences.proofs.Select.{all_in, all_of, any_in, any_of}
use Rattle.timestamps.specs.declared.Timestamp.{Timestamp}
use Rattle.timestamps.specs.Comparison.{all_before, all_concurrent, stamps_weakly_before}
use Rattle.timestamps.specs.Composite.{IsComposite}
use Rattle.timestamps.specs.Maxima.{maxima}
use Rattle.timestamps.specs.Order.{Clocks, before, concurrent}
use Rattle.timestamps.proofs.Maxima.{maxima_of, maxima_reach}
use Rattle.timestamps.proofs.Stamps.{before_strict}

module _ (clocks : Clocks) where
  -- ---- neither is before the other
  pub concurrent-is : (s t : Timestamp) → before clocks s t ≡ false → before clocks t s ≡ false → concurrent clocks s t ≡ true
  unfolding concurrent
  concurrent-is s t e f = and_both _ _ (ap not e) (ap not f)

  pub concurrent-not : (s t : Timestamp) → concurrent clocks s t ≡ true → before clocks s t ≡ false
  unfolding concurrent
  concurrent-not s t e = false_of_not_true _ (λ h. never_both (and_left (not (before clocks s t)) (not (before clocks t s)) e) (ap not h))

  pub concurrent-turned : (s t : Timestamp) → concurrent clocks s t ≡ true → before clocks t s ≡ false
  unfolding concurrent
  concurrent-turned s t e = false_of_not_true _ (λ h. never_both (and_right (not (before clocks s t)) (not (before clocks t s)) e) (ap not h))

  -- none of a composite is before one of it
  pub apart : (l : List Timestamp) → IsComposite clocks l → (s t : Timestamp) → s is_in l → t is_in l → before clocks s t ≡ false
  apart l c s t i j = concurrent-not s t (c.pairwise s t i j)

  -- ---- what is a composite
  pub one_composite : (s : Timestamp) → IsComposite clocks (s ∷ [])
  one_composite s = record {
    some = (s, Memᴰ.head refl);
    pairwise = λ x y i j. ap₂ (concurrent clocks) (Memᴰ.eq_of_singleton i) (Memᴰ.eq_of_singleton j)
        ∙ concurrent-is s s ((before_strict clocks).irreflexive s) ((before_strict clocks).irreflexive s);
  }

  pub maxima-composite : (l : List Timestamp) (s : Timestamp) → s is_in l → IsComposite clocks (maxima (before clocks) l)
  maxima-composite l s m = record {
    some = ⊎_elim (λ i. (s, i)) (λ t. (t.0, t.1)) (maxima_reach (before clocks) (before_strict clocks) l s m);
    pairwise = λ x y i j. concurrent-is x y (none x y i j) (none y x j i);
  }
    where
      none : (x y : Timestamp) → x is_in maxima (before clocks) l → y is_in maxima (before clocks) l → before clocks x y ≡ false
      none x y i j = (maxima_of (before clocks) l x i).1 y (maxima_of (before clocks) l y j).0

  -- the same stamps in whatever order
  pub composite-same : {l m : List Timestamp} → SameMembers l m → IsComposite clocks m → IsComposite clocks l
  composite-same e c = record {
    some = (c.some.0, e.1 c.some.0 c.some.1);
    pairwise = λ s t i j. c.pairwise s t (e.0 s i) (e.0 t j);
  }

  -- ---- weakly before
  module _ (a b : List Timestamp) where
    pub weakly : ((s t : Timestamp) → s is_in a → t is_in b → before clocks t s ≡ true → ⊥) → stamps_weakly_before clocks a b ≡ true
    unfolding stamps_weakly_before
    weakly f = ap not (false_of_not_true _ (λ h.
        let (t, j, e) = any_of (λ t. some_passes (λ s. before clocks t s) a) b h in
        let (s, i, g) = any_of (λ s. before clocks t s) a e in
        f s t i j g))

    pub not-weakly : {s t : Timestamp} → s is_in a → t is_in b → before clocks t s ≡ true → stamps_weakly_before clocks a b ≡ false
    unfolding stamps_weakly_before
    not-weakly {s} {t} i j e = ap not (any_in (λ t. some_passes (λ s. before clocks t s) a) b j (any_in (λ s. before clocks t s) a i e))

    pub before-weakly : IsComposite clocks a → all_before clocks a b ≡ true → stamps_weakly_before clocks a b ≡ true
    unfolding all_before
    before-weakly c h = weakly (λ s t i j g.
        let (u, k, e) = any_of (λ s. before clocks s t) a (all_of (λ t. some_passes (λ s. before clocks s t) a) b h j) in
        never_both ((before_strict clocks).transitive u t s e g) (apart a c u s k i))

    pub concurrent-weakly : all_concurrent clocks a b ≡ true → stamps_weakly_before clocks a b ≡ true
    unfolding all_concurrent
    concurrent-weakly h = weakly (λ s t i j g.
        let e = all_of (λ s. concurrent clocks s t) a (all_of (λ t. each_passes (λ s. concurrent clocks s t) a) b h j) i in
        never_both g (concurrent-turned s t e))

  weakly_of : (a b : List Timestamp) → stamps_weakly_before clocks a b ≡ true → (s t : Timestamp) → s is_in a → t is_in b → before clocks t s ≡ false
  weakly_of a b h s t i j = false_of_not_true _ (λ e. never_both h (not-weakly a b i j e))

  -- concurrent is weakly before both ways
  pub concurrent-both : (a b : List Timestamp) → all_concurrent clocks a b ≡ (stamps_weakly_before clocks a b && stamps_weakly_before clocks b a)
  unfolding all_concurrent
  concurrent-both a b = same_test _ _
      (λ h. and_both _ _ (concurrent-weakly a b h) (weakly b a (λ t s j i e. never_both e (concurrent-not s t (all_of (λ s. concurrent clocks s t) a (all_of (λ t. each_passes (λ s. concurrent clocks s t) a) b h j) i)))))
      (λ h. all_in (λ t. each_passes (λ s. concurrent clocks s t) a) b (λ t j. all_in (λ s. concurrent clocks s t) a (λ s i.
      concurrent-is s t (weakly_of b a (and_right (stamps_weakly_before clocks a b) _ h) t s j i) (weakly_of a b (and_left _ (stamps_weakly_before clocks b a) h) s t i j))))
