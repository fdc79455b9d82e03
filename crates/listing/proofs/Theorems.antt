-- The lines that the program makes of some bytes are those of the findings that the bytes hold.
use mathlib.Core.Path.{◌≡◌, refl, sym, ap, ◌∙◌}
use mathlib.Core.List.Memᴰ
use mathlib.Core.List.{List, [], ◌∷◌, ◌++◌, append_assoc}
use Prim.Native.Nat.{ℕ, ◌+◌, ◌≤◌}
use native.Mathlib.Omega.{arith}
use lib.ListN.{length, drop, length-append, length-drop}
use lib.Seq.{drop-drop, drop-append_seam}
use Rattle.sequences.specs.Members.{◌is_in◌}
use Rattle.detections.specs.Findings.{Finding, finding_bytes, findings_bytes}
use Rattle.readings.specs.Reader.{WithinLimits}
use Rattle.readings.proofs.Theorems.{laid_out_is_read}
use Rattle.listing.specs.Text.{lines_text, lines_at}

-- findings within the limits, one after the other from a place on
pub lines_of_findings : (fs : List Finding) (b y : List ℕ) (at : ℕ) → ((f : Finding) → f is_in fs → WithinLimits f) → at ≤ length b → drop at b ≡ findings_bytes fs ++ y
    → lines_at b at (length fs) ≡ lines_text fs
unfolding lines_at lines_text findings_bytes
lines_of_findings [] b y at w h e = refl
lines_of_findings (f ∷ fs) b y at w h e =
    let e₁ : drop at b ≡ finding_bytes f ++ (findings_bytes fs ++ y) = simp append_assoc at e in
    let n : length (drop at b) ≡ length (finding_bytes f) + length (findings_bytes fs ++ y) = ap length e₁ ∙ length-append (finding_bytes f) (findings_bytes fs ++ y) in
    let e₂ : drop (at + length (finding_bytes f)) b ≡ findings_bytes fs ++ y =
    sym (drop-drop (length (finding_bytes f)) at b) ∙ ap (drop (length (finding_bytes f))) e₁ ∙ drop-append_seam (finding_bytes f) (findings_bytes fs ++ y) in
    let rest = lines_of_findings fs b y (at + length (finding_bytes f)) (λ g m. w g (Memᴰ.tail m)) (omega (arith, n, length-drop at b)) e₂ in
    rw (laid_out_is_read f b (findings_bytes fs ++ y) at (w f (Memᴰ.head refl)) h e₁, rest)
