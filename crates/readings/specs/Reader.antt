-- Reading a finding back. What is read is a finding within the limits that every finding written keeps.
use Rattle.std.specs.Prelude.{ℕ, ◌≤◌, ◌<◌, Bool, true, false, ◌&&◌, List, [], length, ltb}
use Rattle.sequences.specs.Members.{◌is_in◌}
use Rattle.sequences.specs.Select.{each_passes}
use Rattle.sequences.specs.Range.{Rising}
use Rattle.forms.specs.Forms.{number}
use Rattle.forms.specs.Sections.{unless, Read, got, bad, then, piece, Section, section}
use Rattle.detections.specs.declared.Stamp.{Stamp}
use Rattle.detections.specs.Findings.{Finding, FindingFits, StampFits, stamp}

-- ---- limits: at most 8 stamps; at most 128 events, their numbers below 128 and rising
pub record WithinLimits (f : Finding) : Type 0 where
  pub node : f.node < 65536
  pub stamp-count : length f.stamps ≤ 8
  pub stamps : (s : Stamp) → s is_in f.stamps → StampFits s
  pub event-count : length f.events ≤ 128
  pub events : (n : ℕ) → n is_in f.events → n < 128
  pub rising : Rising f.events

-- each of a list of findings has numbers that fit into their bytes, so that the bytes tell them apart
abbrev pub AllFit : List Finding → Type 0
AllFit fs = (f : Finding) → f is_in fs → FindingFits f

-- ---- the sections, with one fault, 1, for all that is not in order
abbrev pub stamp_section : Section Stamp
stamp_section =
    record {
      least = 0;
      most = 8;
      entry = stamp;
      count_fault = 1;
      entry_fault = λ before s. 0;
      cut = 1;
    }

-- above all before it, and below 128
abbrev pub is_next : List ℕ → ℕ → Bool
is_next before n = each_passes (λ m. ltb m n) before && ltb n 128

abbrev pub event_section : Section ℕ
event_section =
    record {
      least = 0;
      most = 128;
      entry = number 2;
      count_fault = 1;
      entry_fault = λ before n. unless (is_next before n) 1 0;
      cut = 1;
    }

-- ---- the whole
unfoldable pub finding_at : List ℕ → ℕ → Read Finding
finding_at b at =
    then (piece (number 2) 1 (λ node. 0) b at) λ node at₁.
    then (section stamp_section b at₁) λ stamps at₂.
    then (section event_section b at₂) λ events at₃.
    got (record { node = node; stamps = stamps; events = events }) at₃

-- the answer: whether a whole finding stands there, the place after it, and the finding; else the place of the number, count or
-- entry that is not in order, and a finding with nothing in it
pub record FindingAnswer : Type 0 where
  pub whole : Bool
  pub next : ℕ
  pub finding : Finding

abbrev pub found : Finding → ℕ → FindingAnswer
found f next = record { whole = true; next = next; finding = f }

abbrev pub not_found : ℕ → FindingAnswer
not_found at = record { whole = false; next = at; finding = record { node = 0; stamps = []; events = [] } }

abbrev pub answered : Read Finding → FindingAnswer
answered (got f next) = found f next
answered (bad fault at) = not_found at

unfoldable pub read_finding : List ℕ → ℕ → FindingAnswer
read_finding b at = answered (finding_at b at)
