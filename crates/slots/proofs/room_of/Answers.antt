-- By the input, by whether an arrival may come to wait, and by the slot.
use mathlib.Core.Path.{sym, ◌∙◌}
use native.Mathlib.Omega.{arith}
use Rattle.slots.proofs.Rooms.{room-kind, room-node, room-none, room-third}
use Rattle.slots.proofs.room_of.Goals as goal

pub returns-then-input-ge2 : goal.returns-then-input-ge2
returns-then-input-ge2 c = room-third _ c.requires _ _ _ c.if-input-ge2.true

pub returns-then-not-may_wait : goal.returns-then-not-may_wait
returns-then-not-may_wait c = let a = c in room-none _ a.requires _ _ _ a.if-input-ge2.false (sym a.may_wait.ensures ∙ c.if-not-may_wait.true)

pub overflow_cast-result : goal.overflow_cast-result
overflow_cast-result c = let start = c in omega (arith, start.requires start.args.slot)

pub overflow_add-result : goal.overflow_add-result
overflow_add-result c = let start = c in omega (arith, start.requires start.args.slot)

pub returns-then-slot-lt34 : goal.returns-then-slot-lt34
returns-then-slot-lt34 c =
    let a = c in
    room-kind _ a.requires _ _ _ a.if-input-ge2.false (sym a.may_wait.ensures ∙ c.if-not-may_wait.false) c.if-slot-lt34.true

pub returns-else-slot-lt34 : goal.returns-else-slot-lt34
returns-else-slot-lt34 c =
    let a = c in room-node _ a.requires _ _ _ a.if-input-ge2.false (sym a.may_wait.ensures ∙ c.if-not-may_wait.false) c.if-slot-lt34.false
