-- No middle before place j blocks it; only the first `blockers` of them are looked at.
use Rattle.std.proofs.Common.{◌≡◌, List, take, drop}
use Rattle.contexts.specs.Choice.{blocks}
use Rattle.occurrences.specs.Packed.{NotesOf, Stands}
use Rattle.occurrences.specs.Steps.{LowestOf}
use Rattle.occurrences.specs.declared.Occurrence.{Occurrence}
use Rattle.sequences.specs.Select.{some_passes}
use Rattle.waiting_lists.specs.Lists.{Waits}
use Rattle.contexts.proofs.is_blocked.Given as goal

abbrev pub invariant-loop-j : goal.invariant-loop-j
invariant-loop-j v =
    (t : NotesOf v.notes) (l : List Occurrence) (x z : Occurrence) → LowestOf v.notes v.left v.low.0 → LowestOf v.notes v.o v.first.0 → Waits t v.middles l
    → Stands t v.left x → Stands t v.o z → some_passes (blocks t.clocks x z) (drop v.j (take v.blockers l)) ≡ some_passes (blocks t.clocks x z) (take v.blockers l)
