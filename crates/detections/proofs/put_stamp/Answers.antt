-- A stamp is its logger number and its tick; nothing is written where there is none.
use Rattle.std.proofs.Common.{◌≡◌, ℕ}
use Rattle.timestamps.specs.Notes.{ticks_of}
use Rattle.timestamps.proofs.Notes.{tick_noted}
use Prim.Native.Nat.{◌<◌, ◌≤◌}
use native.Mathlib.Omega.{arith}
use lib.ListN.{get_or, length}
use Rattle.forms.specs.Bytes.{big_endian}
use Rattle.detections.proofs.Sizes.{stamp_yes, stamp_no, length-stamp}
use Rattle.detections.proofs.Writing.{wrote_none, wrote_then}
use Rattle.detections.proofs.put_stamp.Goals as goal

pub put_u16-a-requires : goal.put_u16-a-requires
put_u16-a-requires c =
    let some : 0 < get_or (ticks_of c.args.notes.now) c.args.event 0 = rw (tick_noted c.args.notes.now c.args.event) c.if-notes-event-gt0.true in
    omega (arith, length-stamp c.args.logger (get_or (ticks_of c.args.notes.now) c.args.event 0) some)

pub put_u64-requires : goal.put_u64-requires
unfolding big_endian
put_u64-requires c =
    let some : 0 < get_or (ticks_of c.args.notes.now) c.args.event 0 = rw (tick_noted c.args.notes.now c.args.event) c.if-notes-event-gt0.true in
    omega (arith, length-stamp c.args.logger (get_or (ticks_of c.args.notes.now) c.args.event 0) some)

pub returns-then-notes-event-gt0 : goal.returns-then-notes-event-gt0
returns-then-notes-event-gt0 c =
    let in-out : c.args.at ≤ length c.args.out.now = omega (arith, c.requires.1) in
    let some : 0 < get_or (ticks_of c.args.notes.now) c.args.event 0 = rw (tick_noted c.args.notes.now c.args.event) c.if-notes-event-gt0.true in
    rw (stamp_yes c.args.logger (get_or (ticks_of c.args.notes.now) c.args.event 0) some, tick_noted c.args.notes.now c.args.event) (wrote_then in-out c.put_u16-a.ensures c.put_u64.ensures)

pub returns-else-notes-event-gt0 : goal.returns-else-notes-event-gt0
returns-else-notes-event-gt0 c =
    let none : get_or (ticks_of c.args.notes.now) c.args.event 0 ≤ 0 = rw (tick_noted c.args.notes.now c.args.event) c.if-notes-event-gt0.false in
    rw (stamp_no _ _ none) (wrote_none _ _)
