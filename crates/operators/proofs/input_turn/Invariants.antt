-- Those before place o-index came to the node, and no limit was met.
use Rattle.arrivals.specs.Meetings.{setting_of}
use Rattle.detections.specs.Writing.{Beyond}
use Rattle.occurrences.specs.Packed.{NotesOf, Stand}
use Rattle.occurrences.specs.declared.Occurrence.{Occurrence}
use Rattle.operators.specs.Turns.{Turned, arrives, in_order}
use Rattle.operators.specs.Views.{HoldsTurned, Takes}
use Rattle.plans.specs.declared.Node.{Node}
use Rattle.sequences.specs.Loops.{fold}
use Rattle.std.specs.Prelude.{None}
use Prim.Native.Nat.{ℕ}
use lib.ListN.{length, take}
use mathlib.Core.List.{List}
use Rattle.operators.proofs.input_turn.Given as goal

abbrev pub invariant-loop-o : goal.invariant-loop-o
invariant-loop-o v =
    Beyond v.initial.out v.out v.initial.made.bytes v.made.findings v.made.bytes
    × ((t : NotesOf v.setting.notes.now) (node : Node) (x : Turned) (l : List Occurrence) (event : ℕ) → Takes node v.turn → Stand t v.arrivals l
    → HoldsTurned t None v.turn.split v.initial.lists v.initial.made v.initial.out x
    → HoldsTurned t None v.turn.split v.lists v.made v.out
    (fold (arrives (setting_of (length v.initial.out) t.clocks v.setting.loggers.now) node v.turn.place) (take v.o-index (in_order event v.turn.input 0 l)) x))
