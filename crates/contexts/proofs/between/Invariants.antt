-- The marks before place i are those of the middles between.
use Rattle.std.proofs.Common.{◌≡◌, ℕ, Bool, ◌&&◌, List, take}
use Rattle.occurrences.specs.Occurrences.{is_before}
use Rattle.occurrences.specs.Packed.{Notes, NotesOf}
use Rattle.occurrences.specs.declared.Occurrence.{Occurrence}
use Rattle.sequences.specs.Marks.{marked, padded}
use Rattle.sequences.specs.Select.{some_passes}
use Rattle.waiting_lists.specs.Lists.{Waits}
use Rattle.waiting_lists.specs.Marks.{marks_of}
use mathlib.Core.List.{zip_with}
use Rattle.contexts.proofs.between.Given as goal

abbrev pub after : {ticks globals : List ℕ} → Notes ticks globals → List Occurrence → Occurrence → Bool → Bool
after t lefts m c = c && some_passes (λ w. is_before t.clocks w m) lefts

abbrev pub invariant-loop-i : goal.invariant-loop-i
invariant-loop-i v =
    (t : NotesOf v.notes) (k l : List Occurrence) → Waits t v.lefts k → Waits t v.middles l
    → marks_of v.found ≡ padded 16 (take v.i (zip_with (after t (marked k (marks_of v.marks))) l (marks_of v.earlier)))
