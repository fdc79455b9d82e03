-- The nodes before k have their context, and where what they make begins.
use Prim.Native.Nat.{◌≤◌}
use Rattle.slots.proofs.Made.{Making, first_nodes}
use Rattle.slots.proofs.seat_made.Given as goal

abbrev pub invariant-loop-k : goal.invariant-loop-k
invariant-loop-k l = (l.k ≤ l.n) × Making (first_nodes l.n l.nodes) l.takers l.initial.seats l.seats l.k l.m
