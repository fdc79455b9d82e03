-- Pieces of text, written into a page.
use mathlib.Core.Path.{◌≡◌, refl, sym, ap, subst, ◌∙◌}
use mathlib.Core.List.{List, [], ◌∷◌, ◌++◌, append_assoc, append-nil}
use Prim.Native.Nat.{ℕ, ◌+◌, ◌-◌, ◌^◌, ◌≤◌, ◌<◌}
use native.Mathlib.Omega.{arith}
use lib.ListN.{length, take, drop, set, length-drop}
use lib.Seq.{sets-eq, take_all, take-length, drop-length, drop-drop}
use Rattle.detections.specs.Writing.{put, Wrote}
use Rattle.detections.proofs.Writing.{wrote_then}
use Rattle.std.specs.Fmt as std
use Rattle.listing.specs.Text.{number_text}
use Rattle.listing.proofs.Digits.{decimal-is}

-- a copy into the part of the page from a place on
pub wrote_part : (l bs d : List ℕ) (at n : ℕ) → at + length bs ≤ length l → n ≡ length bs
    → d ≡ take (length bs) bs ++ drop (length bs) (take (length l - at) (drop at l))
    → Wrote l at bs (at + n) (take at l ++ (d ++ drop (length l - at) (drop at l)))
unfolding put
wrote_part l bs d at n h m e =
    let k : length (drop at l) ≡ length l - at = length-drop at l in
    let t : take (length l - at) (drop at l) ≡ drop at l = take_all (length l - at) (drop at l) (omega (arith, k)) in
    let z : drop (length l - at) (drop at l) ≡ [] = ap (λ j. drop j (drop at l)) (sym k) ∙ drop-length (drop at l) in
    record {
      next = ap (λ j. at + j) m;
      now = rw (z, e, t, take-length, drop-drop, append-nil) (simp append_assoc);
    }

-- bytes over those from a place on
pub wrote_mid : (l bs d : List ℕ) (at : ℕ) → d ≡ bs → Wrote l at bs (at + length bs) (take at l ++ (d ++ drop (at + length bs - at) (drop at l)))
unfolding put
wrote_mid l bs d at e =
    let k : at + (at + length bs - at) ≡ at + length bs = omega arith in
    record { next = refl; now = rw (e, drop-drop (at + length bs - at) at l, k) (simp append_assoc) }

-- one byte
wrote_one : (l : List ℕ) (at a : ℕ) → at < length l → Wrote l at (a ∷ []) (at + 1) (set l at a)
unfolding put
wrote_one l at a h = record { next = refl; now = sets-eq (a ∷ []) l at (omega arith) }

-- a mark, and then the digits of a number
pub wrote_number : {l l' ds : List ℕ} {at r : ℕ} (separator n : ℕ) → at < length l → n < 2 ^ 64 → ds ≡ std.decimal n
    → Wrote (set l at separator) (at + 1) ds r l' → Wrote l at (number_text separator n) r l'
unfolding number_text
wrote_number {l} {l'} {ds} {at} {r} separator n h b e w =
    subst (λ x. Wrote l at (separator ∷ x) r l') (e ∙ decimal-is n b) (wrote_then (omega arith) (wrote_one l at separator h) w)
