-- Laws of `Wrote` and `Beyond`.
use mathlib.Core.Path.{◌≡◌, refl, sym, ap, ◌∙◌}
use mathlib.Core.List.{List, [], ◌++◌, append_assoc, append-nil}
use Prim.Native.Nat.{ℕ, ◌+◌, ◌-◌, ◌≤◌}
use native.Mathlib.Nat.{add_assoc, add-zero}
use native.Mathlib.Omega.{arith}
use lib.ListN.{length, take, drop, length-append, length-take, length-drop, take-append-drop}
use lib.Seq.{take-append-le, take_at, drop_at, length-take-le, drop-drop}
use borrow.Rule.Slice.PartMut.{put_mid}
use Rattle.detections.specs.Writing.{put, Wrote, Beyond}

-- ---- putting
put-none : (l : List ℕ) (at : ℕ) → put l at [] ≡ l
unfolding put
put-none l at = rw (add-zero, append-nil) (take-append-drop at l)

-- what stands before the place after bs
front : (l bs : List ℕ) (at : ℕ) → at ≤ length l → length (take at l ++ bs) ≡ at + length bs
front l bs at h = length-append (take at l) bs ∙ ap (λ k. k + length bs) (length-take-le at l h)

-- two puts, the second after the first
put-put : (l : List ℕ) (at : ℕ) (bs cs : List ℕ) → at ≤ length l → put (put l at bs) (at + length bs) cs ≡ put l at (bs ++ cs)
unfolding put
put-put l at bs cs h =
    let n = front l bs at h in
    let t : take (at + length bs) (take at l ++ bs ++ drop (at + length bs) l) ≡ take at l ++ bs = take_at (take at l ++ bs) _ (at + length bs) n in
    let d : drop (at + length bs + length cs) (take at l ++ bs ++ drop (at + length bs) l) ≡ drop (at + length bs + length cs) l =
    sym (drop-drop (length cs) (at + length bs) (take at l ++ bs ++ drop (at + length bs) l))
    ∙ ap (drop (length cs)) (drop_at (take at l ++ bs) (drop (at + length bs) l) (at + length bs) n)
    ∙ drop-drop (length cs) (at + length bs) l in
    rw (t, d, length-append bs cs, add_assoc) (simp append_assoc)

length-put : (l : List ℕ) (at : ℕ) (bs : List ℕ) → at + length bs ≤ length l → length (put l at bs) ≡ length l
unfolding put
length-put l at bs h =
    length-append (take at l ++ bs) _ ∙ omega (arith, length-append (take at l) bs, length-take at l, length-drop (at + length bs) l)

-- ---- what was written
-- nothing
pub wrote_none : (l : List ℕ) (at : ℕ) → Wrote l at [] at l
wrote_none l at = record { next = sym (add-zero at); now = sym (put-none l at) }

-- the bytes bs in place of as many
pub wrote_part : {l bs cs : List ℕ} {at n : ℕ} → at + length bs ≤ length l → n ≡ length bs → cs ≡ bs → Wrote l at bs (at + length bs) (put_mid at n l cs)
unfolding put
wrote_part {l} {bs} {cs} {at} {n} h e same = record { next = refl; now = rw (same, e, drop-drop (length bs) at l) (sym (append_assoc (take at l) bs (drop (at + length bs) l))) }

-- one piece, and then another
pub wrote_then : {l l₁ l₂ bs cs : List ℕ} {at r₁ r₂ : ℕ} → at ≤ length l → Wrote l at bs r₁ l₁ → Wrote l₁ r₁ cs r₂ l₂ → Wrote l at (bs ++ cs) r₂ l₂
wrote_then {l} {l₁} {l₂} {bs} {cs} {at} h a b =
    record {
      next = omega (arith, a.next, b.next, length-append bs cs);
      now = b.now ∙ rw (a.now, a.next) (put-put l at bs cs h);
    }

-- the output up to the place after it
pub wrote_prefix : {l l' bs : List ℕ} {at r : ℕ} → at ≤ length l → Wrote l at bs r l' → take r l' ≡ take at l ++ bs
unfolding put
wrote_prefix {l} {l'} {bs} {at} h w = rw (w.now, w.next) (take_at (take at l ++ bs) _ (at + length bs) (front l bs at h))

-- from that place on nothing has changed
pub wrote_rest : {l l' bs : List ℕ} {at r : ℕ} → at ≤ length l → Wrote l at bs r l' → drop r l' ≡ drop r l
unfolding put
wrote_rest {l} {l'} {bs} {at} h w = rw (w.now, w.next) (drop_at (take at l ++ bs) (drop (at + length bs) l) (at + length bs) (front l bs at h))

-- the output from the place on
pub wrote_there : {l l' bs : List ℕ} {at r : ℕ} → at ≤ length l → Wrote l at bs r l' → drop at l' ≡ bs ++ drop r l
unfolding put
wrote_there {l} {l'} {bs} {at} h w =
    rw (w.now, w.next, append_assoc) (drop_at (take at l) (bs ++ drop (at + length bs) l) at (length-take-le at l h))

-- the output before the place
wrote_before : {l l' bs : List ℕ} {at r : ℕ} (n : ℕ) → n ≤ at → at ≤ length l → Wrote l at bs r l' → take n l' ≡ take n l
unfolding put
wrote_before {l} {l'} {bs} {at} n k h w =
    let m : n ≤ length (take at l) = omega (arith, k, length-take-le at l h) in
    ap (take n) (w.now ∙ append_assoc (take at l) bs (drop (at + length bs) l))
    ∙ take-append-le n (take at l) (bs ++ drop (at + length bs) l) m
    ∙ sym (take-append-le n (take at l) (drop at l) m)
    ∙ ap (take n) (take-append-drop at l)

-- one piece, and then another in front of it
pub wrote_front : {l l₁ l₂ bs cs : List ℕ} {at from r r₂ : ℕ} → from ≡ at + length bs → from ≤ length l → Wrote l from cs r l₁ → Wrote l₁ at bs r₂ l₂ → Wrote l at (bs ++ cs) r l₂
unfolding put
wrote_front {l} {l₁} {l₂} {bs} {cs} {at} {from} {r} e h a b =
    let n : r ≡ at + length (bs ++ cs) = omega (arith, e, a.next, length-append bs cs) in
    let t : take at l₁ ≡ take at l = wrote_before at (omega (arith, e)) h a in
    let d : drop (at + length bs) l₁ ≡ cs ++ drop (at + length (bs ++ cs)) l = ap (λ k. drop k l₁) (sym e) ∙ wrote_there h a ∙ ap (λ k. cs ++ drop k l) n in
    record { next = n; now = b.now ∙ rw (t, d) (simp append_assoc) }

pub wrote_length : {l l' bs : List ℕ} {at r : ℕ} → at + length bs ≤ length l → Wrote l at bs r l' → length l' ≡ length l
wrote_length {l} {l'} {bs} {at} h w = ap length w.now ∙ length-put l at bs h

-- ---- a function that writes piece by piece: `all` from place at₀ on, of which `rest` is left
pub record Writes (l₀ : List ℕ) (at₀ : ℕ) (all l : List ℕ) (at : ℕ) (rest : List ℕ) : Type 0 where
  pub same : length l ≡ length l₀
  pub room : at + length rest ≤ length l
  pub onward : (r : ℕ) (l' : List ℕ) → Wrote l at rest r l' → Wrote l₀ at₀ all r l'

pub writes_start : (l all : List ℕ) (at : ℕ) → at + length all ≤ length l → Writes l at all l at all
writes_start l all at h = record { same = refl; room = h; onward = λ r l' w. w }

module _ {l₀ all l rest : List ℕ} {at₀ at : ℕ} (w : Writes l₀ at₀ all l at rest) where
  pub writes_room : (piece rest' : List ℕ) → rest ≡ piece ++ rest' → at + length piece ≤ length l
  writes_room piece rest' e = omega (arith, w.room, ap length e, length-append piece rest')

  pub writes_turn : {piece rest' l' : List ℕ} {at' : ℕ} → rest ≡ piece ++ rest' → Wrote l at piece at' l' → Writes l₀ at₀ all l' at' rest'
  writes_turn {piece} {rest'} {l'} {at'} e v =
      let n = wrote_length (writes_room piece rest' e) v in
      let h : at ≤ length l = omega (arith, w.room) in
      record {
        same = n ∙ w.same;
        room = omega (arith, w.room, v.next, n, ap length e, length-append piece rest');
        onward = λ r m u. w.onward r m (rw e (wrote_then h v u));
      }

  pub writes_end : rest ≡ [] → Wrote l₀ at₀ all at l
  writes_end e = w.onward at l (rw e (wrote_none l at))

-- ---- what lies beyond
-- no finding
pub beyond_none : {l : List ℕ} {at count : ℕ} → at ≤ length l → count ≤ at → Beyond l l at count at
beyond_none h k = record { later = omega arith; within = h; few = k; rest = refl }

drop-later : (x y : List ℕ) (a b : ℕ) → a ≤ b → drop a x ≡ drop a y → drop b x ≡ drop b y
drop-later x y a b h e =
    let n : b ≡ a + (b - a) = omega arith in
    rw n (sym (drop-drop (b - a) a x) ∙ ap (drop (b - a)) e ∙ drop-drop (b - a) a y)

-- some findings, and then more
pub beyond_then : {l l₁ l₂ : List ℕ} {at at₁ at₂ c₁ c₂ : ℕ} → Beyond l l₁ at c₁ at₁ → Beyond l₁ l₂ at₁ c₂ at₂ → Beyond l l₂ at c₂ at₂
beyond_then {l} {l₁} {l₂} {at} {at₁} {at₂} a b =
    record {
      later = omega (arith, a.later, b.later);
      within = b.within;
      few = b.few;
      rest = b.rest ∙ drop-later l₁ l at₁ at₂ b.later a.rest;
    }

-- one finding more, of at least one byte
pub beyond_wrote : {l l' bs : List ℕ} {at r count : ℕ} → at + length bs ≤ length l → 1 ≤ length bs → count ≤ at → Wrote l at bs r l' → Beyond l l' at (count + 1) r
beyond_wrote {l} {l'} {bs} {at} {r} {count} h k f w =
    record {
      later = omega (arith, w.next);
      within = omega (arith, w.next, wrote_length h w);
      few = omega (arith, w.next);
      rest = wrote_rest (omega arith) w;
    }

-- the output: what is written, and then what was there
pub beyond_whole : {l l' : List ℕ} {at count' at' : ℕ} → Beyond l l' at count' at' → l' ≡ take at' l' ++ drop at' l
beyond_whole {l} {l'} {at' = at'} b = sym (take-append-drop at' l') ∙ ap (λ x. take at' l' ++ x) b.rest
