-- The theory of greatest elements, over any strict order and lists of every length.
use mathlib.Core.Path.{◌≡◌, refl, sym, ap, ◌∙◌}
use mathlib.Core.Bool.{Bool, true, false, not}
use mathlib.Core.List.Memᴰ
use mathlib.Core.List.{List, [], ◌∷◌, ◌++◌}
use mathlib.Core.Logic.{◌⊎◌, inl, inr, ⊎_elim}
use borrow.Author.Tests.{not-true}
use Rattle.sequences.specs.Members.{◌is_in◌, SameMembers}
use Rattle.sequences.specs.Select.{some_passes}
use Rattle.sequences.proofs.Booleans.{either_way, never_both, false_of_not_true}
use Rattle.sequences.proofs.Select.{filter_in, filter_of, any_none, none_of_any}
use Rattle.timestamps.specs.Maxima.{maxima, StrictOrder}

module _ {A : Type 0} (R : A → A → Bool) where
  -- ---- membership says exactly that: an element of the list that is below none of it
  pub maxima_of : (l : List A) (a : A) → a is_in maxima R l → (a is_in l) × ((b : A) → b is_in l → R a b ≡ false)
  unfolding maxima
  maxima_of l a m =
      let f : (a is_in l) × (not (some_passes (R a) l) ≡ true) = filter_of (λ x. not (some_passes (R x) l)) l m in
      (f.0, λ b n. none_of_any (R a) l (not-true (some_passes (R a) l) f.1) n)

  pub maxima_in : (l : List A) (a : A) → a is_in l → ((b : A) → b is_in l → R a b ≡ false) → a is_in maxima R l
  unfolding maxima
  maxima_in l a m h = filter_in (λ x. not (some_passes (R x) l)) l m (rw (any_none (R a) l h))

  -- ---- k covers l: it has only elements of l, and each element of l is in k or below one of k
  pub record Covers (k l : List A) : Type 0 where
    pub within : (a : A) → a is_in k → a is_in l
    pub reached : (a : A) → a is_in l → (a is_in k) ⊎ ((c : A) × (c is_in k) × (R a c ≡ true))

  pub covers_same : {k l : List A} → SameMembers k l → Covers k l
  covers_same s = record { within = s.0; reached = λ a m. inl (s.1 a m) }

  pub covers_append : (k l m n : List A) → Covers k l → Covers m n → Covers (k ++ m) (l ++ n)
  covers_append k l m n p q = record {
    within = λ a i. ⊎_elim (λ x. Memᴰ.append_left n (p.within a x)) (λ y. Memᴰ.append_right l (q.within a y)) (Memᴰ.append_cases k i);
    reached = λ a i. ⊎_elim (λ x. first a (p.reached a x)) (λ y. second a (q.reached a y)) (Memᴰ.append_cases l i);
  }
    where
      first : (a : A) → (a is_in k) ⊎ ((c : A) × (c is_in k) × (R a c ≡ true)) → (a is_in (k ++ m)) ⊎ ((c : A) × (c is_in (k ++ m)) × (R a c ≡ true))
      first a (inl i) = inl (Memᴰ.append_left m i)
      first a (inr t) = inr (t.0, Memᴰ.append_left m t.1, t.2)

      second : (a : A) → (a is_in m) ⊎ ((c : A) × (c is_in m) × (R a c ≡ true)) → (a is_in (k ++ m)) ⊎ ((c : A) × (c is_in (k ++ m)) × (R a c ≡ true))
      second a (inl i) = inl (Memᴰ.append_right k i)
      second a (inr t) = inr (t.0, Memᴰ.append_right k t.1, t.2)

module _ {A : Type 0} (R : A → A → Bool) (𝓞 : StrictOrder R) where
  pub covers_trans : (k l m : List A) → Covers R k l → Covers R l m → Covers R k m
  covers_trans k l m p q = record {
    within = λ a i. q.within a (p.within a i);
    reached = λ a i. ⊎_elim (λ x. p.reached a x) (λ t. above a t.0 t.2 (p.reached t.0 t.1)) (q.reached a i);
  }
    where
      above : (a c : A) → R a c ≡ true → (c is_in k) ⊎ ((d : A) × (d is_in k) × (R c d ≡ true)) → (a is_in k) ⊎ ((d : A) × (d is_in k) × (R a d ≡ true))
      above a c e (inl i) = inr (c, i, e)
      above a c e (inr t) = inr (t.0, t.1, 𝓞.transitive a c t.0 e t.2)

  -- ---- what covers a list has its greatest elements
  pub maxima_covered : (k l : List A) → Covers R k l → SameMembers (maxima R k) (maxima R l)
  maxima_covered k l p = (up, down)
    where
      beyond : (a b : A) → ((c : A) → c is_in k → R a c ≡ false) → (b is_in k) ⊎ ((c : A) × (c is_in k) × (R b c ≡ true)) → R a b ≡ true → ⊥
      beyond a b h (inl i) e = never_both e (h b i)
      beyond a b h (inr t) e = never_both (𝓞.transitive a b t.0 e t.2) (h t.0 t.1)

      up : (a : A) → a is_in maxima R k → a is_in maxima R l
      up a m =
          let (i, h) = maxima_of R k a m in
          maxima_in R l a (p.within a i) (λ b j. false_of_not_true (R a b) (beyond a b h (p.reached b j)))

      kept : (a : A) → ((b : A) → b is_in l → R a b ≡ false) → (a is_in k) ⊎ ((c : A) × (c is_in k) × (R a c ≡ true)) → a is_in k
      kept a h (inl i) = i
      kept a h (inr t) = absurd (never_both t.2 (h t.0 (p.within t.0 t.1)))

      down : (a : A) → a is_in maxima R l → a is_in maxima R k
      down a m =
          let (i, h) = maxima_of R l a m in
          maxima_in R k a (kept a h (p.reached a i)) (λ b j. h b (p.within b j))

  -- ---- every element is one of the greatest or below one of them
  -- from c upwards through l: what is reached is below none of l
  record Climbed (c : A) (l : List A) : Type 0 where
    top : A
    from : (top ≡ c) ⊎ (top is_in l)
    over : (c ≡ top) ⊎ (R c top ≡ true)
    best : (x : A) → x is_in l → R top x ≡ false

  climb : (c : A) (l : List A) → Climbed c l
  climb c [] = record { top = c; from = inl refl; over = inl refl; best = λ x m. absurd (Memᴰ.not-nil m) }
  climb c (x ∷ l) = ⊎_elim (λ y. onward y (climb x l)) (λ n. staying n (climb c l)) (either_way (R c x))
    where
      back : (t y : A) → (x ≡ t) ⊎ (R x t ≡ true) → R t x ≡ true → ⊥
      back t y (inl e) r = never_both (ap (R x) e ∙ ap (λ z. R x z) (sym e) ∙ ap (λ z. R z x) e ∙ r) (𝓞.irreflexive x)
      back t y (inr u) r = never_both (𝓞.transitive x t x u r) (𝓞.irreflexive x)

      onward : R c x ≡ true → Climbed x l → Climbed c (x ∷ l)
      onward y k = record {
        top = k.top;
        from = ⊎_elim (λ e. inr (Memᴰ.head e)) (λ i. inr (Memᴰ.tail i)) k.from;
        over = inr (⊎_elim (λ e. ap (R c) (sym e) ∙ y) (λ u. 𝓞.transitive c x k.top y u) k.over);
        best = λ z m. ⊎_elim
            (λ e. ap (R k.top) e ∙ false_of_not_true (R k.top x) (back k.top x k.over))
            (λ i. k.best z i)
            (Memᴰ.cases_cons m);
      }

      past : (t : A) → R c x ≡ false → (c ≡ t) ⊎ (R c t ≡ true) → R t x ≡ true → ⊥
      past t n (inl e) r = never_both (ap (λ z. R z x) e ∙ r) n
      past t n (inr u) r = never_both (𝓞.transitive c t x u r) n

      staying : R c x ≡ false → Climbed c l → Climbed c (x ∷ l)
      staying n k = record {
        top = k.top;
        from = ⊎_elim (λ e. inl e) (λ i. inr (Memᴰ.tail i)) k.from;
        over = k.over;
        best = λ z m. ⊎_elim
            (λ e. ap (R k.top) e ∙ false_of_not_true (R k.top x) (past k.top n k.over))
            (λ i. k.best z i)
            (Memᴰ.cases_cons m);
      }

  pub maxima_reach : (l : List A) (a : A) → a is_in l → (a is_in maxima R l) ⊎ ((c : A) × (c is_in maxima R l) × (R a c ≡ true))
  maxima_reach l a m =
      let k : Climbed a l = climb a l in
      let i : k.top is_in l = ⊎_elim (λ e. Memᴰ.cast e m) (λ j. j) k.from in
      let g : k.top is_in maxima R l = maxima_in R l k.top i k.best in
      ⊎_elim (λ e. inl (Memᴰ.cast e g)) (λ u. inr (k.top, g, u)) k.over

  pub maxima_covers : (l : List A) → Covers R (maxima R l) l
  maxima_covers l = record { within = λ a m. (maxima_of R l a m).0; reached = maxima_reach l }

  -- ---- the greatest of the greatest of two parts are those of the whole
  pub maxima-++ : (l m : List A) → SameMembers (maxima R (maxima R l ++ maxima R m)) (maxima R (l ++ m))
  maxima-++ l m = maxima_covered (maxima R l ++ maxima R m) (l ++ m) (covers_append R (maxima R l) l (maxima R m) m (maxima_covers l) (maxima_covers m))

  -- ---- lists with the same members have the same greatest elements
  pub maxima-same : (l m : List A) → SameMembers l m → SameMembers (maxima R l) (maxima R m)
  maxima-same l m s = maxima_covered l m (covers_same R s)
