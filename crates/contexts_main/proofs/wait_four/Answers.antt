-- One after the other.
use Rattle.std.proofs.Common.{[], arith}
use Rattle.contexts_main.proofs.wait_four.Goals as goal

pub returns : goal.returns
returns c = λ ticks globals t none many l0 l1 l3 l4.
    let a = c.add.ensures ticks globals t [] none (omega (arith, many)) l0 in
    let b = c.add-2.ensures ticks globals t _ a (omega (arith, many)) l1 in
    let d = c.add-3.ensures ticks globals t _ b (omega (arith, many)) l3 in
    (_, c.add-4.ensures ticks globals t _ d (omega (arith, many)) l4)
