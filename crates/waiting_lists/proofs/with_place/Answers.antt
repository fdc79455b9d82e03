-- Those before it stay, and those from there on go up above it.
use Prim.Native.Nat.{◌+◌, ◌*◌}
use borrow.Author.Rules.{rules}
use lib.Pow.{pow_pos}
use Rattle.event_sets.proofs.Words.{one_shl}
use Rattle.waiting_lists.proofs.Orders.{from, from_shl, glued_low, place_shl, with_fits, with_fits_first, with_glued, with_later, with_there}
use Rattle.waiting_lists.proofs.with_place.Goals as goal

pub nonzero_rem-result : goal.nonzero_rem-result
nonzero_rem-result c = rw (one_shl (4 * c.args.i) (search rules)) (pow_pos (4 * c.args.i))

pub overflow_add-result : goal.overflow_add-result
overflow_add-result c =
    let (h, p, f) = c.requires in
    rw (one_shl (4 * c.args.i) (search rules), place_shl c.args.order c.args.i c.args.place h f p) (record { fits = with_fits_first c.args.order c.args.i c.args.place h f p })

pub overflow_add-result-2 : goal.overflow_add-result-2
overflow_add-result-2 c =
    let (h, p, f) = c.requires in
    rw (
      one_shl (4 * c.args.i) (search rules),
      place_shl c.args.order c.args.i c.args.place h f p,
      from_shl c.args.order c.args.i c.args.place h f p,
      with_glued c.args.order c.args.i c.args.place h f p,
    ) (record { fits = with_fits c.args.order c.args.i c.args.place h f p })

pub returns : goal.returns
returns c =
    let (h, p, f) = c.requires in
    rw (
      one_shl (4 * c.args.i) (search rules),
      place_shl c.args.order c.args.i c.args.place h f p,
      from_shl c.args.order c.args.i c.args.place h f p,
      with_glued c.args.order c.args.i c.args.place h f p,
    ) (
      glued_low c.args.order c.args.i (from c.args.order c.args.i c.args.place h f p * 16 + c.args.place),
      with_there c.args.order c.args.i c.args.place h f p,
      (λ j k l. with_later c.args.order c.args.i c.args.place h f p j k),
    )
