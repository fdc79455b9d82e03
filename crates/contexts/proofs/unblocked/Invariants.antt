-- The marks before place i are those of the lefts that are free.
use Rattle.std.proofs.Common.{◌≡◌, ℕ, Bool, not, ◌&&◌, List, map, take}
use Rattle.contexts.specs.Choice.{blocks}
use Rattle.occurrences.specs.Occurrences.{is_before}
use Rattle.occurrences.specs.Packed.{Notes, NotesOf, Stands}
use Rattle.occurrences.specs.declared.Occurrence.{Occurrence}
use Rattle.sequences.specs.Marks.{padded}
use Rattle.sequences.specs.Select.{some_passes}
use Rattle.waiting_lists.specs.Lists.{Waits}
use Rattle.waiting_lists.specs.Marks.{marks_of}
use Rattle.contexts.proofs.unblocked.Given as goal

-- one that is before it, and not blocked
abbrev pub free : {ticks globals : List ℕ} → Notes ticks globals → List Occurrence → Occurrence → Occurrence → Bool
free t l x w = is_before t.clocks w x && not (some_passes (blocks t.clocks w x) l)

abbrev pub invariant-loop-i : goal.invariant-loop-i
invariant-loop-i v =
    (t : NotesOf v.notes) (k l : List Occurrence) (x : Occurrence) → Waits t v.lefts k → Waits t v.middles l → Stands t v.o x
    → marks_of v.marks ≡ padded 16 (take v.i (map (free t (take v.blockers l) x) k))
