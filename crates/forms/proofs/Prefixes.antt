-- What is laid out can be told from what follows it: two layouts that begin the same bytes are of one value.
use mathlib.Core.Path.{◌≡◌, refl, sym, ap, ◌∙◌}
use mathlib.Core.List.Memᴰ
use mathlib.Core.List.{List, [], ◌∷◌, ◌++◌, append_assoc}
use Prim.Native.Nat.{ℕ, ◌+◌, ◌*◌, ◌<◌}
use native.Mathlib.Omega.{arith}
use lib.ListN.{length, drop, length-append}
use lib.Seq.{drop_at}
use Rattle.sequences.specs.Members.{◌is_in◌}
use Rattle.forms.specs.Bytes.{big_endian}
use Rattle.forms.specs.Forms.{Form, number, each, section_bytes}
use Rattle.forms.proofs.Forms.{Laws, number_laws, length-each}

-- each entry of a list fits a form
abbrev pub AllFit : {A : Type 0} → Form A → List A → Type 0
AllFit {A} f l = (a : A) → a is_in l → f.fits a

pub form_tells : {A : Type 0} (f : Form A) → Laws f → (a c : A) (x y : List ℕ) → f.fits a → f.fits c → f.bytes a ++ x ≡ f.bytes c ++ y → (a ≡ c) × (x ≡ y)
form_tells f L a c x y h k e = (
  sym (L.back a (f.bytes a ++ x) x 0 h refl) ∙ L.back c (f.bytes a ++ x) y 0 k e,
  sym (drop_at (f.bytes a) x f.width (L.long a)) ∙ ap (drop f.width) e ∙ drop_at (f.bytes c) y f.width (L.long c),
)

module _ {A : Type 0} (f : Form A) (L : Laws f) where
  each_tells : (l m : List A) (x y : List ℕ) → length l ≡ length m → AllFit f l → AllFit f m → each f l ++ x ≡ each f m ++ y → (l ≡ m) × (x ≡ y)
  unfolding each
  each_tells [] [] x y n h k e = (refl, e)
  each_tells [] (c ∷ m) x y n h k e = absurd (omega arith)
  each_tells (a ∷ l) [] x y n h k e = absurd (omega arith)
  each_tells (a ∷ l) (c ∷ m) x y n h k e =
      let e' : f.bytes a ++ (each f l ++ x) ≡ f.bytes c ++ (each f m ++ y) = sym (append_assoc (f.bytes a) (each f l) x) ∙ e ∙ append_assoc (f.bytes c) (each f m) y in
      let s = form_tells f L a c (each f l ++ x) (each f m ++ y) (h a (Memᴰ.head refl)) (k c (Memᴰ.head refl)) e' in
      let t = each_tells l m x y (omega arith) (λ b i. h b (Memᴰ.tail i)) (λ b i. k b (Memᴰ.tail i)) s.1 in
      (λ i. s.0 i ∷ t.0 i, t.1)

  pub section_tells : (l m : List A) (x y : List ℕ) → length l < 65536 → length m < 65536 → AllFit f l → AllFit f m
      → section_bytes f l ++ x ≡ section_bytes f m ++ y → (l ≡ m) × (x ≡ y)
  unfolding section_bytes
  section_tells l m x y a b h k e =
      let c = big_endian 2 (length l) in
      let d = big_endian 2 (length m) in
      let s = form_tells (number 2) (number_laws 2) (length l) (length m) (each f l ++ x) (each f m ++ y) a b (sym (append_assoc c (each f l) x) ∙ e ∙ append_assoc d (each f m) y) in
      each_tells l m x y s.0 h k s.1

  pub length-section : (l : List A) → length (section_bytes f l) ≡ 2 + f.width * length l
  unfolding section_bytes
  length-section l = omega (arith, length-append (big_endian 2 (length l)) (each f l), (number_laws 2).long (length l), length-each f L l)
