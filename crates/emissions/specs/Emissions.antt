-- Document 01, "How an event is worked" and 31 to 33: what a node makes goes to the output and to later nodes.
use Rattle.std.specs.Prelude.{Bool, true, false, List, [], ◌∷◌, ◌++◌, Option, None, Some, ◌≡◌, ℕ, ◌+◌, ◌≤◌, leb, ltb, length, take}
use Rattle.sequences.specs.Choice.{pick}
use Rattle.sequences.specs.Loops.{fold}
use Rattle.detections.specs.Findings.{finding_bytes}
use Rattle.detections.specs.Views.{finding_of}
use Rattle.occurrences.specs.declared.Occurrence.{Occurrence}
use Rattle.occurrences.specs.Packed.{Holds, Notes}
use Rattle.emissions.specs.declared.Limit.{Limit}
use Rattle.emissions.specs.declared.Limit.TheVariants.{ListFull, NodeFull, OutputFull}
use Rattle.emissions.specs.declared.Made.{Made}

-- document 01's number of each limit
unfoldable pub number_of : Limit → ℕ
number_of ListFull = 31
number_of NodeFull = 32
number_of OutputFull = 33

-- a limit has ended the work
abbrev pub reached : Option Limit → Bool
reached None = false
reached (Some limit) = true

-- a node's findings from this event so far; all findings of the passage, their bytes, and the limit that ended the work, if one was met
pub record Emitting : Type 0 where
  pub made : List Occurrence
  pub findings : ℕ
  pub bytes : List ℕ
  pub limit : Option Limit

-- the work ends under this limit; what was made before stays
abbrev pub ended : Emitting → Limit → Emitting
ended e limit = record { made = e.made; findings = e.findings; bytes = e.bytes; limit = Some limit }

-- an occurrence's bytes as a finding of the node at a place
abbrev pub bytes_of : List ℕ → ℕ → Occurrence → List ℕ
bytes_of loggers place o = finding_bytes (finding_of loggers place o.latest o.events)

-- one finding within `room` output bytes: 32 where this node has made 8 from this event, 33 where it does not fit whole in the output left.
-- After a limit nothing happens
unfoldable pub emitted : ℕ → List ℕ → ℕ → Emitting → Occurrence → Emitting
emitted room loggers place e o =
    pick (reached e.limit) e
    (pick (leb 8 (length e.made)) (ended e NodeFull)
    (pick (ltb room (length e.bytes + length (bytes_of loggers place o))) (ended e OutputFull)
    (record {
      made = e.made ++ (o ∷ []);
      findings = e.findings + 1;
      bytes = e.bytes ++ bytes_of loggers place o;
      limit = None;
    })))

-- findings one after the other
unfoldable pub emitted_all : ℕ → List ℕ → ℕ → Emitting → List Occurrence → Emitting
emitted_all room loggers place e l = fold (emitted room loggers place) l e

-- ---- what the code's value stands for, beside the output: what the node made, the findings of the passage and the bytes written
pub record Emits {ticks globals : List ℕ} (t : Notes ticks globals) (met : Option Limit) (m : Made) (out : List ℕ) (s : Emitting) : Type 0 where
  pub made : Holds t m.row m.count s.made
  pub findings : s.findings ≡ m.findings
  pub bytes : s.bytes ≡ take m.bytes out
  pub limit : s.limit ≡ met

-- the place in the output is within it, and there are no more findings than bytes
abbrev pub InOutput : Made → (out : List ℕ) → Type 0
InOutput m out = (m.bytes ≤ length out) × (m.findings ≤ m.bytes)
