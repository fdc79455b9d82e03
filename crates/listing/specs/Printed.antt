-- What is printed of two files.
use Rattle.std.specs.Prelude.{List, ◌≡◌, ℕ}
use Rattle.sequences.specs.Members.{◌is_in◌}
use Rattle.plans.specs.Layout.{plan_clocks}
use Rattle.plans.specs.Reader.{read_plan}
use Rattle.detections.specs.Findings.{Finding, findings_bytes}
use Rattle.working.specs.declared.Answer.{Answer}
use Rattle.working.specs.Latest.{ExactFinding, entries_of}
use Rattle.working.specs.Working.{worked}
use Rattle.listing.specs.Text.{lines_text, lines_at}

-- the findings: their bytes were written, each has exact latest stamps, and their lines are those of the output
pub record Printed (plan passage : List ℕ) (room : ℕ) (out' : List ℕ) (r : Answer) : Type 0 where
  pub findings : List Finding
  pub written : (worked plan passage room).bytes ≡ findings_bytes findings
  pub exact : (f : Finding) → f is_in findings → ExactFinding (plan_clocks (read_plan plan).plan) (entries_of plan passage) f
  pub lines : lines_at out' 0 r.findings ≡ lines_text findings
