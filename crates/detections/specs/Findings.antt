-- Document 01, "Files": a finding, as written.
use Rattle.std.specs.Prelude.{ℕ, ◌^◌, ◌<◌, List, [], ◌∷◌, ◌++◌, length}
use Rattle.sequences.specs.Members.{◌is_in◌}
use Rattle.forms.specs.Bytes.{big_endian}
use Rattle.forms.specs.Forms.{Form, number, pair, via, section_bytes}
use Rattle.detections.specs.declared.Stamp.{Stamp}

pub record Finding : Type 0 where
  -- the place of its node
  pub node : ℕ
  -- its latest stamps, by rising logger
  pub stamps : List Stamp
  -- the numbers of its events, rising
  pub events : List ℕ

-- a stamp: logger number 2 bytes, local tick 8 bytes
abbrev pub to_stamp : ℕ × ℕ → Stamp
to_stamp p = record { logger = p.0; tick = record { 0 = p.1 } }

abbrev pub from_stamp : Stamp → ℕ × ℕ
from_stamp s = (s.logger, s.tick.0)

abbrev pub stamp : Form Stamp
stamp = via to_stamp from_stamp (pair (number 2) (number 8))

-- node place, 2 bytes; the stamps after their count; the event numbers, 2 bytes each, after their count
unfoldable pub finding_bytes : Finding → List ℕ
finding_bytes f = big_endian 2 f.node ++ section_bytes stamp f.stamps ++ section_bytes (number 2) f.events

-- findings, one after the other
unfoldable pub findings_bytes : List Finding → List ℕ
findings_bytes [] = []
findings_bytes (f ∷ fs) = finding_bytes f ++ findings_bytes fs

-- ---- every number fits its bytes
pub record StampFits (s : Stamp) : Type 0 where
  pub logger : s.logger < 65536
  pub tick : s.tick.0 < 2 ^ 64

pub record FindingFits (f : Finding) : Type 0 where
  pub node : f.node < 65536
  pub stamp-count : length f.stamps < 65536
  pub stamps : (s : Stamp) → s is_in f.stamps → StampFits s
  pub event-count : length f.events < 65536
  pub events : (n : ℕ) → n is_in f.events → n < 65536
