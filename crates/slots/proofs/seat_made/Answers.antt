-- The nodes before k have their context, and where what they make begins.
use mathlib.Core.Path.{◌≡◌}
use native.Mathlib.Omega.{arith}
use Rattle.slots.proofs.Made.{making_all, making_most, making_start, making_turn, node_at, nodes-size}
use Rattle.slots.proofs.Rooms.{made-room-fits}
use borrow.Author.Rules.{rules}
use Rattle.slots.proofs.seat_made.Goals as goal

pub loop-k-init : goal.loop-k-init
loop-k-init c = (search rules, making_start _ _ _ c.requires.1)

pub overflow_add-m : goal.overflow_add-m
overflow_add-m c =
    let s = c.loop-k in
    omega (arith, making_most _ _ _ _ _ _ s.invariant.1, made-room-fits _ _ c.made_room-m.ensures)

pub loop-k-preserved : goal.loop-k-preserved
loop-k-preserved c =
    let t = c in
    let s = t.loop-k in
    let args = t.args in
    let size = nodes-size args.n args.nodes.now (search rules) in
    let at = node_at args.n args.nodes.now s.k t.loop-k-test.true in
    (search rules, making_turn _ _ _ _ _ _ s.invariant.1 _ _ (omega (arith, size)) (omega (arith, size)) (rw at) c.made_room-m.ensures)

pub returns : goal.returns
returns c =
    let s = c.loop-k in
    let args = c.args in
    let size = nodes-size args.n args.nodes.now (search rules) in
    let done : s.k ≡ args.n = omega (arith, c.loop-k-test.false, s.invariant.0) in
    making_all _ _ _ _ _ _ (rw done at s.invariant.1) (omega (arith, size)) size
