-- The places before k are cleared.
use Rattle.std.proofs.Common.{arith}
use Rattle.open_calls.proofs.Clearing.{cleared_end, cleared-start, cleared_turn}
use Rattle.open_calls.proofs.JoinNotes.raise_to.Goals as goal

pub loop-k-init : goal.loop-k-init
loop-k-init c = cleared-start _ _ (record { ticks = omega arith; globals = omega arith })

pub loop-k-preserved : goal.loop-k-preserved
loop-k-preserved c = cleared_turn _ _ _ _ c.loop-k-test.true c.loop-k.invariant _ c.leave.ensures

pub returns : goal.returns
returns c = cleared_end _ _ _ _ c.loop-k-test.false c.loop-k.invariant
