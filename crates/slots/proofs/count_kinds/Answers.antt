-- There are places enough for the events so far.
use mathlib.Core.Path.{◌≡◌}
use Prim.Native.Nat.{◌<◌}
use native.Mathlib.Omega.{arith}
use lib.ListN.{get_or, length-set, length-take, take}
use lib.Seq.{get_or-take}
use borrow.Author.Rules.{rules}
use Rattle.slots.proofs.Rooms.{enough-start, enough_turn}
use Rattle.slots.proofs.count_kinds.Goals as goal

pub loop-kind-init : goal.loop-kind-init
loop-kind-init c = (search rules, rw c.requires.2 (enough-start _))

pub loop-kind-preserved : goal.loop-kind-preserved
loop-kind-preserved c =
    let i = c.loop-kind.kind-index in
    let kinds = c.args.kinds.now in
    let below : i < c.args.count = omega (arith, length-take c.args.count kinds) in
    let kind : get_or (take c.args.count kinds) i 0 ≡ get_or kinds i 0 = get_or-take c.args.count kinds i 0 below in
    (simp length-set c.loop-kind.invariant.0, enough_turn _ _ _ _ _ c.loop-kind.invariant.1 c.loop-kind.invariant.0 kind (omega (arith, kind, c.requires.1 i below)) (omega arith))
