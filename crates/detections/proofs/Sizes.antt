-- A finding's bytes: their parts and how many they are.
use mathlib.Core.Path.{◌≡◌, refl, sym, ap, ap₂, ◌∙◌}
use mathlib.Core.List.{List, [], ◌∷◌, ◌++◌, append_assoc, append-nil}
use Prim.Native.Nat.{ℕ, zero, suc, ◌+◌, ◌*◌, ◌-◌, ◌/◌, ◌%◌, ◌^◌, ◌≤◌, ◌<◌}
use native.Mathlib.Nat.{div-one}
use native.Mathlib.Omega.{arith}
use lib.ListN.{length, length-append}
use borrow.Author.Tests.{lt-ltb, le-ltb}
use Rattle.forms.specs.Bytes.{big_endian}
use Rattle.forms.specs.Forms.{number, pair, section_bytes}
use Rattle.forms.proofs.Numbers.{length-big_endian}
use Rattle.forms.proofs.Forms.{Laws, number_laws, pair_laws, via_laws}
use Rattle.forms.proofs.Prefixes.{length-section}
use Rattle.detections.specs.Findings.{Finding, to_stamp, from_stamp, stamp, finding_bytes, findings_bytes}
use Rattle.detections.specs.Steps.{stamp_bytes}
use Rattle.detections.specs.Writing.{Wrote, Beyond}
use Rattle.detections.proofs.Writing.{beyond_wrote}

pub stamp_laws : Laws stamp
stamp_laws = via_laws to_stamp from_stamp (pair (number 2) (number 8)) (pair_laws (number 2) (number 8) (number_laws 2) (number_laws 8)) (λ a. refl) (λ s. refl)

-- ---- numbers
pub length_two : (v : ℕ) → length (big_endian 2 v) ≡ 2
length_two v = length-big_endian 2 v

-- the bytes of a number as the code takes them, the highest first; the lowest without a shift
abbrev pub bytes_down : ℕ → ℕ → List ℕ
bytes_down zero v = v % 256 ∷ []
bytes_down (suc w) v = v / 256 ^ suc w % 256 ∷ bytes_down w v

pub bytes_down_lem : (w v : ℕ) → bytes_down w v ≡ big_endian (suc w) v
unfolding big_endian
bytes_down_lem zero v = rw div-one
bytes_down_lem (suc w) v = ap (λ l. v / 256 ^ suc w % 256 ∷ l) (bytes_down_lem w v)

-- of a number that needs more than two its lowest two
pub lowest_two : (v : ℕ) → bytes_down 1 (v % 65536) ≡ big_endian 2 v
lowest_two v = ap₂ (λ a b. a ∷ b ∷ []) (omega arith) (omega arith) ∙ bytes_down_lem 1 v

-- ---- a stamp, if there is one
module _ (logger w : ℕ) where
  pub stamp_yes : 0 < w → stamp_bytes logger w ≡ big_endian 2 logger ++ big_endian 8 (w - 1)
  unfolding stamp_bytes
  stamp_yes h = rw (lt-ltb 0 w h)

  pub stamp_no : w ≤ 0 → stamp_bytes logger w ≡ []
  unfolding stamp_bytes
  stamp_no h = rw (le-ltb 0 w h)

  pub length-stamp : 0 < w → length (stamp_bytes logger w) ≡ 10
  length-stamp h = rw (stamp_yes h) (omega (arith, length-append (big_endian 2 logger) (big_endian 8 (w - 1)), length-big_endian 2 logger, length-big_endian 8 (w - 1)))

-- ---- the whole
pub length_parts : (f : Finding)
    → length (finding_bytes f) ≡ 2 + length (section_bytes stamp f.stamps) + length (section_bytes (number 2) f.events)
unfolding finding_bytes
length_parts f =
    let a = big_endian 2 f.node in
    let b = section_bytes stamp f.stamps in
    let c = section_bytes (number 2) f.events in
    omega (arith, length-append (a ++ b) c, length-append a b, length_two f.node)

pub length-finding : (f : Finding) → length (finding_bytes f) ≡ 6 + 10 * length f.stamps + 2 * length f.events
length-finding f = omega (arith, length_parts f, length-section stamp stamp_laws f.stamps, length-section (number 2) (number_laws 2) f.events)

pub finding-least : (f : Finding) → 6 ≤ length (finding_bytes f)
finding-least f = omega (arith, length-finding f)

-- ---- findings one after the other
pub findings-append : (fs gs : List Finding) → findings_bytes (fs ++ gs) ≡ findings_bytes fs ++ findings_bytes gs
unfolding findings_bytes
findings-append [] gs = refl
findings-append (f ∷ fs) gs = rw (findings-append fs gs) (sym (append_assoc (finding_bytes f) (findings_bytes fs) (findings_bytes gs)))

-- one more
pub findings-more : (fs : List Finding) (f : Finding) → findings_bytes (fs ++ (f ∷ [])) ≡ findings_bytes fs ++ finding_bytes f
unfolding findings_bytes
findings-more fs f = findings-append fs (f ∷ []) ∙ rw (append-nil (finding_bytes f))

-- six bytes for each, at least
pub findings-least : (fs : List Finding) → 6 * length fs ≤ length (findings_bytes fs)
unfolding findings_bytes
findings-least [] = omega arith
findings-least (f ∷ fs) = omega (arith, length-append (finding_bytes f) (findings_bytes fs), finding-least f, findings-least fs)

-- ---- one finding more in an output, after count of them
pub beyond_finding : (f : Finding) {l l' : List ℕ} {at r count : ℕ} → at + length (finding_bytes f) ≤ length l → count ≤ at → Wrote l at (finding_bytes f) r l' → Beyond l l' at (count + 1) r
beyond_finding f h k w = beyond_wrote h (omega (arith, finding-least f)) k w
