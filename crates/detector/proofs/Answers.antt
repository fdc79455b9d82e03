-- The answer.
use mathlib.Core.List.{List, ◌++◌}
use mathlib.Core.Path.{◌≡◌, sym, ap, ◌∙◌}
use Prim.Native.Nat.{ℕ, ◌≤◌}
use lib.ListN.{drop, length, take, take-append-drop}
use lib.Seq.{length-take-le}
use Rattle.progress.specs.Progress.{Progress}
use Rattle.detector.specs.declared.Run.{Run}
use Rattle.detector.specs.Steps.{Says}

pub says_is : (a p : Progress) (out out' : List ℕ) (at : ℕ) (r : Run) → p ≡ a → p.bytes ≡ take at out' → r.limit ≡ p.limit → r.event ≡ p.event
    → r.findings ≡ p.findings → r.bytes ≡ at → at ≤ length out' → drop at out' ≡ drop at out → Says a out r out'
says_is a p out out' at r e b x y z w h d =
    let n : length (take at out') ≡ at = length-take-le at out' h in
    rw (← e) (record {
      limit = x;
      event = y;
      findings = z;
      bytes = rw b (w ∙ sym n);
      written = rw (b, n) (sym (take-append-drop at out') ∙ ap (λ m. take at out' ++ m) d);
    })
