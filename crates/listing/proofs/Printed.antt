-- What is printed of two files: the lines of the findings that were written, each with exact latest stamps; none of a file that is turned back.
use mathlib.Core.List.{List, ◌++◌}
use mathlib.Core.Path.{◌≡◌, sym, ap, ◌∙◌}
use Prim.Native.Nat.{ℕ}
use native.Mathlib.Omega.{arith}
use lib.ListN.{drop, length}
use Rattle.forms.specs.Bytes.{Bytes}
use Rattle.working.specs.declared.Answer.{Answer}
use Rattle.working.specs.Latest.{LatestExact}
use Rattle.working.specs.Working.{Answers, worked}
use Rattle.working.proofs.Theorems.{worked-exact}
use Rattle.listing.specs.Printed.{Printed}
use Rattle.listing.specs.Text.{lines_at}
use Rattle.listing.proofs.Theorems.{lines_of_findings}

pub findings_printed : (plan passage : List ℕ) (room : ℕ) → Bytes plan → Bytes passage → (out out' : List ℕ) (r : Answer)
    → Answers (worked plan passage room) out r out' → Printed plan passage room out' r
unfolding LatestExact
findings_printed plan passage room B C out out' r a =
    let w = worked-exact plan passage room B C in
    let rest : List ℕ = drop (length (worked plan passage room).bytes) out in
    let n : r.findings ≡ length w.findings = a.findings ∙ sym w.many in
    record {
      findings = w.findings;
      written = w.laid;
      exact = w.each;
      lines = ap (lines_at out' 0) n
          ∙ lines_of_findings w.findings out' rest 0 (λ f m. (w.each f m).limits) (omega arith) (a.written ∙ ap (λ x. x ++ rest) w.laid);
    }
