-- The inputs of the nodes before k are seated.
use Prim.Native.Nat.{◌≤◌}
use Rattle.slots.specs.Steps.{Filling}
use Rattle.slots.proofs.Made.{first_nodes}
use Rattle.slots.proofs.seat_nodes.Given as goal

abbrev pub invariant-loop-k : goal.invariant-loop-k
invariant-loop-k v = (v.k ≤ v.n) × Filling v.places (first_nodes v.n v.nodes) v.k 0 v.seats v.takers v.l
