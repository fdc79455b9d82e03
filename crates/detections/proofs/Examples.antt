-- The finding of document 01's example D1, computed by the definitions: node 0 at 2:110 from events 1 and 2.
use mathlib.Core.Path.{◌≡◌, refl}
use mathlib.Core.List.{List, [], ◌∷◌}
use Prim.Native.Nat.{ℕ}
use lib.ListN.{length}
use Rattle.sequences.specs.Range.{numbers_from}
use Rattle.sequences.specs.Select.{filter, some_passes}
use Rattle.timestamps.specs.Composite.{members, tick_of, composite_of}
use Rattle.timestamps.specs.Examples.{stamped}
use Rattle.event_sets.specs.declared.EventSet.{EventSet}
use Rattle.event_sets.specs.Sets.{is_set, has, elements}
use Rattle.forms.specs.Bytes.{big_endian}
use Rattle.forms.specs.Forms.{each, section_bytes}
use Rattle.detections.specs.Findings.{Finding, finding_bytes}
use Rattle.detections.specs.Views.{finding_of}

-- loggers 1 and 2 at places 0 and 1; the latest timestamp is of place 1; bits 1 and 2 are set
abbrev loggers : List ℕ
loggers = 1 ∷ 2 ∷ 0 ∷ 0 ∷ 0 ∷ 0 ∷ 0 ∷ 0 ∷ []

abbrev events_one_two : EventSet
events_one_two = record { low = 6; high = 0 }

abbrev pub D1 : Finding
D1 = record { node = 0; stamps = record { logger = 2; tick = record { 0 = 110 } } ∷ []; events = 1 ∷ 2 ∷ [] }

d1_finding : finding_of loggers 0 (composite_of (stamped 1 110 ∷ [])) events_one_two ≡ D1
unfolding finding_of members composite_of tick_of some_passes filter numbers_from elements has is_set
d1_finding = refl

-- 20 bytes
abbrev pub bytes : List ℕ
bytes =
    0 ∷ 0
    ∷ 0 ∷ 1 ∷ 0 ∷ 2 ∷ 0 ∷ 0 ∷ 0 ∷ 0 ∷ 0 ∷ 0 ∷ 0 ∷ 0x6E
    ∷ 0 ∷ 2 ∷ 0 ∷ 1 ∷ 0 ∷ 2 ∷ []

d1_bytes : finding_bytes D1 ≡ bytes
unfolding finding_bytes section_bytes each big_endian
d1_bytes = refl

d1_size : length (finding_bytes D1) ≡ 20
unfolding finding_bytes section_bytes each big_endian
d1_size = refl
