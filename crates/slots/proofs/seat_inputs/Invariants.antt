-- The inputs before i are seated, whatever the other nodes are.
use mathlib.Core.List.{List}
use mathlib.Core.Path.{◌≡◌}
use Prim.Native.Nat.{◌≤◌, ◌+◌, ◌*◌}
use lib.ListN.{get_or, length}
use Rattle.plans.specs.declared.Node.{Node}
use Rattle.plans.specs.Limits.{no_node}
use Rattle.plans.specs.Views.{node_of}
use Rattle.slots.specs.Steps.{Filling}
use Rattle.slots.proofs.seat_inputs.Given as goal

abbrev pub invariant-loop-i : goal.invariant-loop-i
invariant-loop-i v =
    (length v.seats ≡ 187) × (length v.takers ≡ 50) × (v.l ≤ v.start + 17 * v.i)
    × ((nodes : List Node) → get_or nodes v.k no_node ≡ node_of v.row → Filling v.places nodes v.k 0 v.initial.seats v.initial.takers v.start → Filling v.places nodes v.k v.i v.seats v.takers v.l)
