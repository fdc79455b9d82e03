-- The inputs of the nodes before k are seated.
use mathlib.Core.Path.{◌≡◌}
use native.Mathlib.Omega.{arith}
use Rattle.slots.proofs.Fillings.{filling_all, filling_most, filling_start}
use Rattle.slots.proofs.Made.{node_at, nodes-size}
use Rattle.plans.proofs.Slots.{slotted-at}
use borrow.Author.Rules.{rules}
use Rattle.slots.proofs.seat_nodes.Goals as goal

pub loop-k-init : goal.loop-k-init
loop-k-init c = (search rules, rw (c.requires.2, c.requires.3) (filling_start _ _))

pub seat_inputs-l-requires : goal.seat_inputs-l-requires
seat_inputs-l-requires c =
    let a = c in
    let pre = a.requires in
    let f = a.loop-k.invariant.1 in
    (search rules, filling_most _ _ _ _ _ _ pre.1 f, pre.1, f.size, f.taken.size, slotted-at _ _ pre.4 a.loop-k.k c.loop-k-test.true)

pub loop-k-preserved : goal.loop-k-preserved
loop-k-preserved c =
    let t = c in
    let a = t in
    let args = a.args in
    (search rules, c.seat_inputs-l.ensures _ (node_at args.n args.nodes.now a.loop-k.k t.loop-k-test.true) a.loop-k.invariant.1)

pub bounds-seats-n : goal.bounds-seats-n
bounds-seats-n c = omega (arith, c.loop-k.invariant.1.size)

pub returns : goal.returns
returns c =
    let s = c.loop-k in
    let pre = c.requires in
    let args = c.args in
    let done : s.k ≡ args.n = omega (arith, c.loop-k-test.false, s.invariant.0) in
    filling_all _ _ _ _ _ _ (nodes-size args.n args.nodes.now (search rules)) pre.0 pre.1 (rw done at s.invariant.1)
