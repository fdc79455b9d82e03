-- The places before k are cleared.
use Rattle.open_calls.proofs.Clearing.{ClearedTo}
use Rattle.open_calls.proofs.JoinNotes.raise_to.Given as goal

abbrev pub invariant-loop-k : goal.invariant-loop-k
invariant-loop-k l = ClearedTo l.initial.self l.global l.k l.self
