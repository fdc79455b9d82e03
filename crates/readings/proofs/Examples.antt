-- Document 01's example D1 read back, and bytes that are no finding, computed by the definitions.
use mathlib.Core.Path.{◌≡◌, refl}
use mathlib.Core.List.{[], ◌∷◌, ◌++◌}
use Rattle.sequences.specs.Select.{each_passes}
use Rattle.forms.specs.Bytes.{value_of}
use Rattle.forms.specs.Sections.{piece, entries, section}
use Rattle.detections.proofs.Examples.{D1, bytes}
use Rattle.readings.specs.Reader.{finding_at, read_finding, found, not_found}

-- with bytes before it and after it
d1_read : read_finding (7 ∷ bytes ++ (9 ∷ [])) 1 ≡ found D1 21
unfolding read_finding finding_at section entries piece value_of each_passes
d1_read = refl

-- cut short in its last event, with events that fall, with an event 128
cut_short : read_finding (0 ∷ 0 ∷ 0 ∷ 0 ∷ 0 ∷ 2 ∷ 0 ∷ 1 ∷ 0 ∷ []) 0 ≡ not_found 8
unfolding read_finding finding_at section entries piece value_of each_passes
cut_short = refl

falling : read_finding (0 ∷ 0 ∷ 0 ∷ 0 ∷ 0 ∷ 2 ∷ 0 ∷ 2 ∷ 0 ∷ 1 ∷ []) 0 ≡ not_found 8
unfolding read_finding finding_at section entries piece value_of each_passes
falling = refl

over : read_finding (0 ∷ 0 ∷ 0 ∷ 0 ∷ 0 ∷ 1 ∷ 0 ∷ 128 ∷ []) 0 ≡ not_found 6
unfolding read_finding finding_at section entries piece value_of each_passes
over = refl
