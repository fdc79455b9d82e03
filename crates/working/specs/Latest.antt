-- Document 01, demand 3: the latest stamps of every finding written are exactly those among the stamps of the events it lists that
-- are before none of the others.
use Rattle.std.specs.Prelude.{Bool, false, List, map, ◌≡◌, ℕ, ◌<◌, get_or, length, take}
use Rattle.sequences.specs.Members.{◌is_in◌}
use Rattle.sequences.specs.Range.{Rising}
use Rattle.timestamps.specs.Order.{Clocks, before}
use Rattle.plans.specs.Layout.{plan_clocks}
use Rattle.plans.specs.Reader.{read_plan}
use Rattle.passages.specs.declared.EventEntry.{EventEntry}
use Rattle.passages.specs.Limits.{no_entry}
use Rattle.passages.specs.Reader.{read_passage}
use Rattle.detections.specs.declared.Stamp.{Stamp}
use Rattle.detections.specs.Findings.{Finding, findings_bytes}
use Rattle.readings.specs.Reader.{WithinLimits}
use Rattle.working.specs.declared.Answer.{Answer}

-- the stamp of an event: the logger number and local tick of its passage entry
abbrev pub entry_stamp : EventEntry → Stamp
entry_stamp e = record { logger = e.logger; tick = e.tick }

-- the stamps of the events with these numbers
unfoldable pub stamps_from : List EventEntry → List ℕ → List Stamp
stamps_from entries numbers = map (λ j. entry_stamp (get_or entries j no_entry)) numbers

-- before, among stamps as they are written: a logger is told by its number as well as by its place
abbrev pub stamp_before : Clocks → Stamp → Stamp → Bool
stamp_before clocks s t = before clocks (record { logger = s.logger; tick = s.tick }) (record { logger = t.logger; tick = t.tick })

-- one of the stamps, and before none of them
pub record IsLatest (clocks : Clocks) (stamps : List Stamp) (s : Stamp) : Type 0 where
  pub among : s is_in stamps
  pub before-none : (t : Stamp) → t is_in stamps → stamp_before clocks s t ≡ false

-- a finding of a passage: it lists at least one event and only events of the passage, and its stamps, by rising logger, are exactly
-- the latest of theirs
pub record ExactFinding (clocks : Clocks) (entries : List EventEntry) (f : Finding) : Type 0 where
  pub limits : WithinLimits f
  pub some : (j : ℕ) × (j is_in f.events)
  pub within : (j : ℕ) → j is_in f.events → j < length entries
  pub none_besides : (s : Stamp) → s is_in f.stamps → IsLatest clocks (stamps_from entries f.events) s
  pub every_one : (s : Stamp) → IsLatest clocks (stamps_from entries f.events) s → s is_in f.stamps
  pub rising : Rising (map (λ (s : Stamp). s.logger) f.stamps)

-- the bytes are those of `count` findings, each of them exact
pub record WrittenExact (clocks : Clocks) (entries : List EventEntry) (count : ℕ) (bytes : List ℕ) : Type 0 where
  pub findings : List Finding
  pub many : length findings ≡ count
  pub laid : bytes ≡ findings_bytes findings
  pub each : (f : Finding) → f is_in findings → ExactFinding clocks entries f

-- the entries of a passage under a plan; none where a file is turned back
abbrev pub entries_of : (plan passage : List ℕ) → List EventEntry
entries_of plan passage = (read_passage (read_plan plan).plan passage).events

-- the one claim about a plan and a passage, both as bytes, and what was written: so many findings, in these bytes
unfoldable pub LatestExact : (plan passage : List ℕ) (count : ℕ) (bytes : List ℕ) → Type 0
LatestExact plan passage count bytes = WrittenExact (plan_clocks (read_plan plan).plan) (entries_of plan passage) count bytes

-- what is promised of the findings in the output
abbrev pub LatestWritten : (plan passage : List ℕ) (r : Answer) (out : List ℕ) → Type 0
LatestWritten plan passage r out = LatestExact plan passage r.findings (take r.bytes out)
