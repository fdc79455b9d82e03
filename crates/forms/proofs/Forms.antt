-- Forms: what stands at a place is what was laid out there, and the other way round.
use mathlib.Core.Path.{◌≡◌, refl, sym, ap, subst, ◌∙◌}
use mathlib.Core.List.{List, [], ◌∷◌, ◌++◌, append_assoc, append-nil}
use Prim.Native.Nat.{ℕ, zero, suc, ◌+◌, ◌*◌, ◌≤◌, ◌<◌}
use native.Mathlib.Numerals.{add-one}
use native.Mathlib.Omega.{arith}
use native.Mathlib.Nat.{not-suc-le-zero, le_of_suc-le-suc, mul-suc, add-zero, mul-zero}
use lib.ListN.{length, get_or, take, drop, length-append}
use lib.Seq.{take-add, drop-drop, take_at, drop_at}
use Rattle.forms.specs.Bytes.{big_endian, Bytes}
use Rattle.forms.specs.Forms.{Form, number, pair, via, each, values}
use Rattle.forms.proofs.Numbers.{length-big_endian, value-big_endian, value_bound, big_endian-value, bytes-big_endian, bytes-append, bytes_take, bytes_drop, length_part}

pub record Laws {A : Type 0} (f : Form A) : Type 0 where
  pub long : (a : A) → length (f.bytes a) ≡ f.width
  pub back : (a : A) (b y : List ℕ) (at : ℕ) → f.fits a → drop at b ≡ f.bytes a ++ y → f.value b at ≡ a
  pub forth : (b : List ℕ) (at : ℕ) → Bytes b → at + f.width ≤ length b → f.bytes (f.value b at) ≡ take f.width (drop at b)
  pub fit : (b : List ℕ) (at : ℕ) → Bytes b → at + f.width ≤ length b → f.fits (f.value b at)
  pub small : (a : A) → f.fits a → Bytes (f.bytes a)

pub number_laws : (w : ℕ) → Laws (number w)
number_laws w =
    record {
      long = length-big_endian w;
      back = λ a b y at h e. rw (e, take_at (big_endian w a) y w (length-big_endian w a)) (value-big_endian w a h);
      forth = λ b at h r. rw (length_part b at w r) at (big_endian-value (take w (drop at b)) (bytes_take w (drop at b) (bytes_drop at b h)));
      fit = λ b at h r. rw (length_part b at w r) at (value_bound (take w (drop at b)) (bytes_take w (drop at b) (bytes_drop at b h)));
      small = λ v h. bytes-big_endian w v;
    }

module _ {A B : Type 0} (f : Form A) (g : Form B) (F : Laws f) (G : Laws g) where
  pub pair_laws : Laws (pair f g)
  pair_laws =
      record {
        long = λ p. omega (arith, length-append (f.bytes p.0) (g.bytes p.1), F.long p.0, G.long p.1);
        back = λ p b y at h e.
            let e' : drop at b ≡ f.bytes p.0 ++ (g.bytes p.1 ++ y) = e ∙ append_assoc (f.bytes p.0) (g.bytes p.1) y in
            let k : drop (at + f.width) b ≡ g.bytes p.1 ++ y =
            sym (drop-drop f.width at b) ∙ rw e' (drop_at (f.bytes p.0) (g.bytes p.1 ++ y) f.width (F.long p.0)) in
            let q : f.value b at ≡ p.0 = F.back p.0 b (g.bytes p.1 ++ y) at h.0 e' in
            let r : g.value b (at + f.width) ≡ p.1 = G.back p.1 b y (at + f.width) h.1 k in
            λ i. (q i, r i);
        forth = λ b at h r.
            rw (F.forth b at h (omega arith), G.forth b (at + f.width) h (omega arith), take-add f.width g.width (drop at b), drop-drop f.width at b);
        fit = λ b at h r. (F.fit b at h (omega arith), G.fit b (at + f.width) h (omega arith));
        small = λ p h. bytes-append (f.bytes p.0) (g.bytes p.1) (F.small p.0 h.0) (G.small p.1 h.1);
      }

pub via_laws : {A B : Type 0} (to : A → B) (from : B → A) (f : Form A) → Laws f → ((a : A) → from (to a) ≡ a) → ((b : B) → to (from b) ≡ b) → Laws (via to from f)
via_laws to from f F l r =
    record {
      long = λ b. F.long (from b);
      back = λ a b y at h e. ap to (F.back (from a) b y at h e) ∙ r a;
      forth = λ b at h k. ap f.bytes (l (f.value b at)) ∙ F.forth b at h k;
      fit = λ b at h k. subst f.fits (sym (l (f.value b at))) (F.fit b at h k);
      small = λ b h. F.small (from b) h;
    }

-- ---- entries one after the other
module _ {A : Type 0} (f : Form A) where
  pub each_snoc : (l : List A) (a : A) → each f (l ++ (a ∷ [])) ≡ each f l ++ f.bytes a
  unfolding each
  each_snoc [] a = append-nil (f.bytes a)
  each_snoc (x ∷ l) a = rw (each_snoc l a) (sym (append_assoc (f.bytes x) (each f l) (f.bytes a)))

  pub length-each : Laws f → (l : List A) → length (each f l) ≡ f.width * length l
  unfolding each
  length-each F [] = sym (mul-zero f.width)
  length-each F (a ∷ l) = omega (arith, length-append (f.bytes a) (each f l), F.long a, length-each F l, mul-suc f.width (length l))

  pub length-values : (b : List ℕ) (at n : ℕ) → length (values f b at n) ≡ n
  unfolding values
  length-values b at zero = refl
  length-values b at (suc n) = ap suc (length-values b (at + f.width) n)

  values_suc : (b : List ℕ) (n at : ℕ) → values f b at (suc n) ≡ values f b at n ++ (f.value b (at + f.width * n) ∷ [])
  unfolding values
  values_suc b zero at = rw (mul-zero, add-zero)
  values_suc b (suc n) at =
      let e : at + f.width + f.width * n ≡ at + f.width * suc n = omega (arith, mul-suc f.width n) in
      rw (← e) (ap (λ l. f.value b at ∷ l) (values_suc b n (at + f.width)))

  -- one value more
  pub values_snoc : (b : List ℕ) (at n : ℕ) → values f b at (n + 1) ≡ values f b at n ++ (f.value b (at + f.width * n) ∷ [])
  values_snoc b at n = rw add-one (values_suc b n at)

  -- the value at a place of theirs
  pub get_or-values : (b : List ℕ) (at n i : ℕ) (d : A) → i < n → get_or (values f b at n) i d ≡ f.value b (at + f.width * i)
  unfolding values
  get_or-values b at zero i d h = absurd (not-suc-le-zero h)
  get_or-values b at (suc n) zero d h = rw (mul-zero, add-zero)
  get_or-values b at (suc n) (suc i) d h =
      let e : at + f.width + f.width * i ≡ at + f.width * suc i = omega (arith, mul-suc f.width i) in
      rw (← e) (get_or-values b (at + f.width) n i d (le_of_suc-le-suc h))
