-- The inputs before i are seated, whatever the other nodes are.
use mathlib.Core.Path.{◌≡◌, ap, ◌∙◌}
use Prim.Native.Nat.{◌+◌, ◌*◌}
use native.Mathlib.Omega.{arith}
use Rattle.plans.specs.Views.{slot_at}
use Rattle.plans.proofs.Slots.{slot_same}
use Rattle.slots.proofs.Fillings.{filling_next, filling_turn}
use Rattle.slots.proofs.Made.{node-input}
use Rattle.slots.proofs.Takers.{one_shl}
use borrow.Author.Rules.{rules}
use Rattle.slots.proofs.seat_inputs.Goals as goal

pub overflow_cast-slot : goal.overflow_cast-slot
overflow_cast-slot c = omega (arith, c.requires.5 c.loop-i.i (omega arith))

pub loop-i-preserved : goal.loop-i-preserved
loop-i-preserved c =
    let s = c.loop-i in
    let args = c.args in
    let pre = c.requires in (
      search rules,
      search rules,
      search rules,
      λ nodes e f. filling_turn _ nodes _ _ _ _ _ _ _ _ _ (s.invariant.3 nodes e f) (search rules) (search rules)
          (rw e (c.actions_of-actions.ensures.1 s.i (search rules)))
          (slot_same args.k _ pre.0 (pre.5 s.i (search rules)) ∙ rw e (ap (slot_at args.k) (node-input args.row.now s.i (search rules))))
          c.room_of-l.ensures.0 (one_shl (4 * args.k + s.i) (search rules)),
    )

pub returns : goal.returns
returns c =
    let s = c.loop-i in
    let done : s.i ≡ 3 = omega arith in
    λ nodes e f. filling_next _ nodes _ _ _ _ (rw done at (s.invariant.3 nodes e f))
