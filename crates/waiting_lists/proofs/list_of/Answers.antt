-- Two numbers in front of the places.
use mathlib.Core.Path.{ap}
use mathlib.Core.List.{[]}
use Prim.Native.Nat.{ℕ}
use lib.ListN.{get_or}
use Rattle.waiting_lists.specs.declared.WaitingList.{WaitingList}
use Rattle.waiting_lists.specs.Lists.{list_of}
use Rattle.waiting_lists.proofs.list_of.Goals as goal

pub returns : goal.returns
unfolding list_of
returns c =
    let front = get_or c.args.w.now 0 [] in
    let list : ℕ → WaitingList = λ order. record { order = order; len = get_or front 1 0 } in
    ap list c.order_of.ensures
