-- Bytes tell findings apart: two findings that fit and have the same bytes are the same, and so are two lists of them.
use mathlib.Core.Path.{◌≡◌, refl, sym, ap, ◌∙◌}
use mathlib.Core.List.Memᴰ
use mathlib.Core.List.{List, [], ◌∷◌, ◌++◌, append_assoc}
use Prim.Native.Nat.{ℕ}
use native.Mathlib.Omega.{arith}
use lib.ListN.{length, length-append}
use Rattle.forms.specs.Bytes.{big_endian}
use Rattle.forms.specs.Forms.{number, section_bytes}
use Rattle.forms.proofs.Forms.{number_laws}
use Rattle.forms.proofs.Prefixes.{form_tells, section_tells}
use Rattle.detections.specs.Findings.{Finding, stamp, finding_bytes, findings_bytes, FindingFits}
use Rattle.detections.proofs.Sizes.{stamp_laws, finding-least}
use Rattle.readings.specs.Reader.{AllFit}

-- ---- one finding
-- whatever follows
pub finding-first : (f g : Finding) (x y : List ℕ) → FindingFits f → FindingFits g → finding_bytes f ++ x ≡ finding_bytes g ++ y → (f ≡ g) × (x ≡ y)
unfolding finding_bytes
finding-first f g x y h k e =
    let S = section_bytes stamp f.stamps in
    let E = section_bytes (number 2) f.events in
    let T = section_bytes stamp g.stamps in
    let F = section_bytes (number 2) g.events in
    let e' : big_endian 2 f.node ++ (S ++ (E ++ x)) ≡ big_endian 2 g.node ++ (T ++ (F ++ y)) = simp append_assoc at e in
    let n = form_tells (number 2) (number_laws 2) f.node g.node (S ++ (E ++ x)) (T ++ (F ++ y)) h.node k.node e' in
    let s = section_tells stamp stamp_laws f.stamps g.stamps (E ++ x) (F ++ y) h.stamp-count k.stamp-count
    (λ a m. ((h.stamps a m).logger, (h.stamps a m).tick)) (λ a m. ((k.stamps a m).logger, (k.stamps a m).tick)) n.1 in
    let t = section_tells (number 2) (number_laws 2) f.events g.events x y h.event-count k.event-count h.events k.events s.1 in
    (λ i. record { node = n.0 i; stamps = s.0 i; events = t.0 i }, t.1)

pub finding_told : (f g : Finding) → FindingFits f → FindingFits g → finding_bytes f ≡ finding_bytes g → f ≡ g
finding_told f g h k e = (finding-first f g [] [] h k (ap (λ b. b ++ []) e)).0

-- ---- findings one after the other
-- as many of them, whatever follows
pub findings-first : (fs gs : List Finding) (x y : List ℕ) → AllFit fs → AllFit gs → length fs ≡ length gs
    → findings_bytes fs ++ x ≡ findings_bytes gs ++ y → (fs ≡ gs) × (x ≡ y)
unfolding findings_bytes
findings-first [] [] x y h k n e = (refl, e)
findings-first [] (g ∷ gs) x y h k n e = absurd (omega arith)
findings-first (f ∷ fs) [] x y h k n e = absurd (omega arith)
findings-first (f ∷ fs) (g ∷ gs) x y h k n e =
    let e' : finding_bytes f ++ (findings_bytes fs ++ x) ≡ finding_bytes g ++ (findings_bytes gs ++ y) =
    sym (append_assoc (finding_bytes f) (findings_bytes fs) x) ∙ e ∙ append_assoc (finding_bytes g) (findings_bytes gs) y in
    let s = finding-first f g (findings_bytes fs ++ x) (findings_bytes gs ++ y) (h f (Memᴰ.head refl)) (k g (Memᴰ.head refl)) e' in
    let t = findings-first fs gs x y (λ a m. h a (Memᴰ.tail m)) (λ a m. k a (Memᴰ.tail m)) (omega arith) s.1 in
    (λ i. s.0 i ∷ t.0 i, t.1)

-- or all of them, with nothing after
pub findings_told : (fs gs : List Finding) → AllFit fs → AllFit gs → findings_bytes fs ≡ findings_bytes gs → fs ≡ gs
unfolding findings_bytes
findings_told [] [] h k e = refl
findings_told [] (g ∷ gs) h k e = absurd (omega (arith, ap length e, length-append (finding_bytes g) (findings_bytes gs), finding-least g))
findings_told (f ∷ fs) [] h k e = absurd (omega (arith, ap length e, length-append (finding_bytes f) (findings_bytes fs), finding-least f))
findings_told (f ∷ fs) (g ∷ gs) h k e =
    let s = finding-first f g (findings_bytes fs) (findings_bytes gs) (h f (Memᴰ.head refl)) (k g (Memᴰ.head refl)) e in
    let t = findings_told fs gs (λ a m. h a (Memᴰ.tail m)) (λ a m. k a (Memᴰ.tail m)) s.1 in
    λ i. s.0 i ∷ t i
