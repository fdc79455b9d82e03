-- Those before it stay, and those after it come down on them.
use Prim.Native.Nat.{◌*◌}
use borrow.Author.Rules.{rules}
use native.Mathlib.Omega.{arith}
use lib.Pow.{pow_pos}
use Rattle.event_sets.proofs.Words.{one_shl}
use Rattle.waiting_lists.proofs.Orders.{after, after_shl, glued_low, without_fits, without_later}
use Rattle.waiting_lists.proofs.without_place.Goals as goal

pub nonzero_rem-result : goal.nonzero_rem-result
nonzero_rem-result c = rw (one_shl (4 * c.args.i) (search rules)) (pow_pos (4 * c.args.i))

pub overflow_add-result : goal.overflow_add-result
overflow_add-result c =
    let f = c.ranges.order.fits in
    let h = c.requires in
    let w = without_fits c.args.order c.args.i h f in
    rw (one_shl (4 * c.args.i) (search rules), after_shl c.args.order c.args.i h f) (record { fits = omega (arith, w) })

pub returns : goal.returns
returns c =
    let f = c.ranges.order.fits in
    let h = c.requires in
    rw (one_shl (4 * c.args.i) (search rules), after_shl c.args.order c.args.i h f) (
      glued_low c.args.order c.args.i (after c.args.order c.args.i h),
      (λ j k l. without_later c.args.order c.args.i h j k),
      without_fits c.args.order c.args.i h f,
    )
