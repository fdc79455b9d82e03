-- Document 01, demand 3, over the run: what waits, what was made and what was written, each an occurrence with a property P.
use Rattle.std.specs.Prelude.{List, ◌⊎◌, ◌≡◌, true, ℕ, ◌<◌, length}
use Rattle.sequences.specs.Members.{◌is_in◌}
use Rattle.occurrences.specs.declared.Occurrence.{Occurrence}
use Rattle.detections.specs.Findings.{Finding, findings_bytes}
use Rattle.detections.specs.Views.{finding_of}
use Rattle.emissions.specs.Emissions.{reached}
use Rattle.progress.specs.Progress.{NodeLists, Progress}

-- every occurrence of a list has the property
abbrev pub All : (Occurrence → Type 0) → List Occurrence → Type 0
All P l = (o : Occurrence) → o is_in l → P o

-- a finding is that of an occurrence made by one of n nodes
pub record Shown (P : Occurrence → Type 0) (loggers : List ℕ) (n : ℕ) (f : Finding) : Type 0 where
  pub place : ℕ
  pub node : place < n
  pub made : Occurrence
  pub same : f ≡ finding_of loggers place made.latest made.events
  pub holds : P made

-- the bytes are those of `count` findings
pub record Written (P : Occurrence → Type 0) (loggers : List ℕ) (n count : ℕ) (bytes : List ℕ) : Type 0 where
  pub findings : List Finding
  pub many : length findings ≡ count
  pub laid : bytes ≡ findings_bytes findings
  pub each : (f : Finding) → f is_in findings → Shown P loggers n f

-- after i events, or where one of the three limits ended the work
pub record Kept (P : Occurrence → Type 0) (loggers : List ℕ) (n i : ℕ) (p : Progress) : Type 0 where
  pub waiting : (w : NodeLists) → w is_in p.waiting → All P w.left × All P w.middle
  pub made : (l : List Occurrence) → l is_in p.made → All P l
  pub written : Written P loggers n p.findings p.bytes
  pub event : (reached p.limit ≡ true) ⊎ (p.event ≡ i)
