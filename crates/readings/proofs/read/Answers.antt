-- `readings::read`: the node, the stamps and the events in turn.
use native.Mathlib.Omega.{arith}
use Rattle.std.proofs.lemmas.Result.{err_from_is_err_and}
use Rattle.readings.proofs.Reading.{node-cut, bad-stamps, bad-events, whole-finding}
use Rattle.readings.proofs.read.Goals as goal

pub returns-then-left-lt2 : goal.returns-then-left-lt2
returns-then-left-lt2 c = node-cut c.args.bytes.now c.args.at (omega arith)

pub returns-in_err-stamps : goal.returns-in_err-stamps
returns-in_err-stamps c =
    let a = c.args in
    let (e, returned, is) = err_from_is_err_and c.from_residual.result c.from_residual.ensures.1 in
    rw (returned, is) (bad-stamps a.bytes.now a.at c.number_at-node.result (omega arith) c.number_at-node.ensures _ c.in_err-stamps.ensures)

pub returns-in_err-events : goal.returns-in_err-events
returns-in_err-events c =
    let a = c.args in
    let (e, returned, is) = err_from_is_err_and c.from_residual-in_err-events.result c.from_residual-in_err-events.ensures.1 in
    rw (returned, is) (bad-events a.bytes.now a.at c.number_at-node.result (omega arith) c.number_at-node.ensures _ _ c.in_ok-stamps.ensures _ c.in_err-events.ensures)

pub returns : goal.returns
returns c =
    let a = c.args in
    whole-finding a.bytes.now a.at c.number_at-node.result (omega arith) c.number_at-node.ensures _ _ c.in_ok-stamps.ensures _ _ c.in_ok-events.ensures
