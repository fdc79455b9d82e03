-- One piece of a file: how a reader's answer and the definition `piece` agree.
use mathlib.Core.Path.{◌≡◌, refl, sym, ◌∙◌}
use mathlib.Core.List.{List}
use mathlib.Core.Bool.{Bool, true, false, ◌&&◌}
use Prim.Native.Nat.{ℕ, ◌+◌, ◌≤◌, ◌<◌}
use native.Mathlib.Omega.{arith}
use lib.ListN.{length}
use lib.Dec.{leb, eqb}
use borrow.Author.Tests.{leb-true, le-leb, lt-leb, eqb-true, ne_eqb}
use Rattle.sequences.specs.Choice.{pick}
use Rattle.forms.specs.Bytes.{value_at}
use Rattle.forms.specs.Forms.{Form, number}
use Rattle.forms.specs.Sections.{unless, within, outside, Read, got, bad, then, judged, piece}
use Rattle.forms.specs.Views.{number_read, read_of, seen}
use Rattle.std.specs.declared.result.Result.TheVariants.{Ok, Err}
use Rattle.forms.specs.declared.NumberFault.TheVariants.{CutShort, Outside}

-- ---- tests
-- no fault: the test holds, and what follows has none
pub unless-none : (t : Bool) (k next : ℕ) → 0 < k → unless t k next ≡ 0 → (t ≡ true) × (next ≡ 0)
unless-none true k next h e = (refl, e)
unless-none false k next h e = absurd (omega arith)

module _ (low high v : ℕ) where
  pub within_low : v < low → within low high v ≡ false
  within_low h = rw (lt-leb low v h)

  pub within-high : low ≤ v → high < v → within low high v ≡ false
  within-high h k = rw (le-leb low v h, lt-leb v high k)

  pub within_in : low ≤ v → v ≤ high → within low high v ≡ true
  within_in h k = rw (le-leb low v h, le-leb v high k)

  pub within_of : within low high v ≡ true → (low ≤ v) × (v ≤ high)
  within_of h = go (leb low v) refl (leb v high) refl h
    where
      go : (t : Bool) → leb low v ≡ t → (u : Bool) → leb v high ≡ u → (t && u) ≡ true → (low ≤ v) × (v ≤ high)
      go true e true k h = (leb-true _ _ e, leb-true _ _ k)
      go true e false k h = let z : ◌≡◌ {A = ℕ} 0 1 = cc in absurd (omega arith)
      go false e u k h = let z : ◌≡◌ {A = ℕ} 0 1 = cc in absurd (omega arith)

  pub outside_in : (k : ℕ) → low ≤ v → v ≤ high → outside low high k v ≡ 0
  outside_in k l h = rw (within_in l h)

  pub outside-none : (k : ℕ) → 0 < k → outside low high k v ≡ 0 → (low ≤ v) × (v ≤ high)
  outside-none k h e = within_of (unless-none (within low high v) k 0 h e).0

-- ---- an answer of a fault, a value and a place
module _ {A : Type 0} (k : ℕ) (a : A) (at : ℕ) (r : Read A) (e : seen k a at ≡ r) where
  pub seen-got : eqb k 0 ≡ true → r ≡ got a at
  unfolding seen
  seen-got z = sym e ∙ rw z

  pub seen-bad : eqb k 0 ≡ false → r ≡ bad k at
  unfolding seen
  seen-bad z = sym e ∙ rw z

pub bad-seen : {A : Type 0} (k : ℕ) (a : A) (at : ℕ) → eqb k 0 ≡ false → seen k a at ≡ bad k at
unfolding seen
bad-seen k a at z = rw z

pub got-seen : {A : Type 0} (a : A) (at : ℕ) → seen 0 a at ≡ got a at
unfolding seen
got-seen a at = refl

pub seen-then : {A B : Type 0} (h : A → B) (k : ℕ) (a : A) (at : ℕ) → seen k (h a) at ≡ then (seen k a at) (λ x next. got (h x) next)
unfolding seen
seen-then h k a at = go (eqb k 0)
  where
    go : (t : Bool) → pick t (got (h a) at) (bad k at) ≡ then (pick t (got a at) (bad k at)) (λ x next. got (h x) next)
    go true = refl
    go false = refl

-- ---- pieces
-- what is known of one that was got
pub record Piece {A : Type 0} (f : Form A) (fault : A → ℕ) (b : List ℕ) (at : ℕ) (a : A) (next : ℕ) : Type 0 where
  pub room : at + f.width ≤ length b
  pub is : f.value b at ≡ a
  pub after : at + f.width ≡ next
  pub right : fault a ≡ 0

module _ {A : Type 0} (f : Form A) (cut : ℕ) (fault : A → ℕ) (b : List ℕ) (at : ℕ) where
  pub piece-got : (a : A) (next : ℕ) → piece f cut fault b at ≡ got a next → Piece f fault b at a next
  unfolding piece
  piece-got a next h = go (leb (at + f.width) (length b)) refl (eqb (fault (f.value b at)) 0) refl h
    where
      go : (t : Bool) → leb (at + f.width) (length b) ≡ t → (u : Bool) → eqb (fault (f.value b at)) 0 ≡ u
          → pick t (pick u (got (f.value b at) (at + f.width)) (bad (fault (f.value b at)) at)) (bad cut at) ≡ got a next → Piece f fault b at a next
      go true e true k h =
          let s : f.value b at ≡ a = cc in
          let n : at + f.width ≡ next = cc in
          record { room = leb-true _ _ e; is = s; after = n; right = rw s at (eqb-true (fault (f.value b at)) 0 k) }
      go true e false k h = let z : ◌≡◌ {A = ℕ} 0 1 = cc in absurd (omega arith)
      go false e u k h = let z : ◌≡◌ {A = ℕ} 0 1 = cc in absurd (omega arith)

  -- it is not complete
  pub piece_short : length b < at + f.width → piece f cut fault b at ≡ bad cut at
  unfolding piece
  piece_short h = rw (lt-leb _ _ h)

  pub piece-judged : at + f.width ≤ length b → piece f cut fault b at ≡ judged (fault (f.value b at)) (f.value b at) (at + f.width) at
  unfolding piece
  piece-judged h = rw (le-leb _ _ h)

  pub piece_is : (a : A) → at + f.width ≤ length b → f.value b at ≡ a → fault a ≡ 0 → piece f cut fault b at ≡ got a (at + f.width)
  piece_is a h e k = piece-judged h ∙ rw (e, k)

  pub piece_wrong : (a : A) → at + f.width ≤ length b → f.value b at ≡ a → 0 < fault a → piece f cut fault b at ≡ bad (fault a) at
  piece_wrong a h e k = let some = ne_eqb (fault a) 0 (omega arith) in piece-judged h ∙ rw (e, some)

  -- as a reader gives them
  pub seen_right : (a : A) → at + f.width ≤ length b → a ≡ f.value b at → eqb (fault a) 0 ≡ true → seen 0 a (at + f.width) ≡ piece f cut fault b at
  unfolding seen
  seen_right a h e k = sym (piece_is a h (sym e) (eqb-true (fault a) 0 k))

  pub seen_wrong : (a : A) → at + f.width ≤ length b → a ≡ f.value b at → eqb (fault a) 0 ≡ false → (x : A) → seen (fault a) x at ≡ piece f cut fault b at
  unfolding seen
  seen_wrong a h e k x = rw (piece-judged h, ← e, k)

-- pieces whose faults agree where there is room
pub piece-same : {A : Type 0} (f : Form A) (cut : ℕ) (g h : A → ℕ) (b : List ℕ) (at : ℕ) → (at + f.width ≤ length b → g (f.value b at) ≡ h (f.value b at))
    → piece f cut g b at ≡ piece f cut h b at
unfolding piece
piece-same f cut g h b at e = go (leb (at + f.width) (length b)) refl
  where
    go : (t : Bool) → leb (at + f.width) (length b) ≡ t
        → pick t (judged (g (f.value b at)) (f.value b at) (at + f.width) at) (bad cut at)
        ≡ pick t (judged (h (f.value b at)) (f.value b at) (at + f.width) at) (bad cut at)
    go true k = rw (e (leb-true _ _ k))
    go false k = refl

-- ---- a number from low to high
module _ (w low high : ℕ) (b : List ℕ) (at : ℕ) where
  pub number_short : length b < at + w → Err CutShort ≡ number_read w low high b at
  unfolding number_read
  number_short h = rw (lt-leb _ _ h)

  pub number_out : at + w ≤ length b → within low high (value_at w b at) ≡ false → Err Outside ≡ number_read w low high b at
  unfolding number_read
  number_out h k = rw (le-leb _ _ h, k)

  pub number_in : (v : ℕ) → at + w ≤ length b → v ≡ value_at w b at → within low high v ≡ true → Ok v ≡ number_read w low high b at
  unfolding number_read
  number_in v h e k = rw (le-leb _ _ h, ← e, k)

  -- with the file's faults it is a piece
  pub number-piece : (cut wrong : ℕ) → 0 < wrong → read_of cut wrong w at (number_read w low high b at) ≡ piece (number w) cut (outside low high wrong) b at
  unfolding number_read piece
  number-piece cut wrong p = go (leb (at + w) (length b)) (within low high (value_at w b at)) (ne_eqb wrong 0 (omega arith))
    where
      go : (t u : Bool) → eqb wrong 0 ≡ false
          → read_of cut wrong w at (pick t (pick u (Ok (value_at w b at)) (Err Outside)) (Err CutShort))
          ≡ pick t (pick (eqb (pick u 0 wrong) 0) (got (value_at w b at) (at + w)) (bad (pick u 0 wrong) at)) (bad cut at)
      go true true z = refl
      go true false z = rw z
      go false u z = refl

  -- what is known of a value that was read
  pub number-value : (v : ℕ) → number_read w low high b at ≡ Ok v → (at + w ≤ length b) × (low ≤ v) × (v ≤ high)
  unfolding number_read
  number-value v h = go (leb (at + w) (length b)) refl (within low high (value_at w b at)) refl h
    where
      go : (t : Bool) → leb (at + w) (length b) ≡ t → (u : Bool) → within low high (value_at w b at) ≡ u
          → pick t (pick u (Ok (value_at w b at)) (Err Outside)) (Err CutShort) ≡ Ok v → (at + w ≤ length b) × (low ≤ v) × (v ≤ high)
      go true e true k h =
          let s : value_at w b at ≡ v = cc in
          let r = within_of low high v (rw s at k) in
          (leb-true _ _ e, r.0, r.1)
      go true e false k h = let z : ◌≡◌ {A = ℕ} 0 1 = cc in absurd (omega arith)
      go false e u k h = let z : ◌≡◌ {A = ℕ} 0 1 = cc in absurd (omega arith)
