-- It is passed on; it waits; or it meets its candidates, and a limit ends the work, it is gone, or it waits.
use Rattle.arrivals.proofs.Actions.{may_wait-first}
use Rattle.arrivals.proofs.Carried.{carried_nothing, carried_pass, carried_wait}
use Rattle.arrivals.specs.Meetings.{setting_of}
use Rattle.arrivals.specs.Views.{Spare}
use Rattle.contexts.specs.Table.{row_of}
use Rattle.occurrences.proofs.Packed.{stands-within}
use Rattle.operators.proofs.Carried.{arrives-is}
use Rattle.operators.proofs.Sides.{appended_emits, appended-is, half_is, held_of, own_back, turned_of_lem}
use Rattle.operators.specs.Turns.{sides_of, turned_of}
use Rattle.operators.specs.Views.{HoldsTurned}
use Rattle.waiting_lists.specs.Lists.{Waits}
use Rattle.waiting_lists.specs.Waiting.{appended_to}
use lib.ListN.{drop, length, length-drop}
use lib.Seq.{length-take-le}
use mathlib.Core.List.{List}
use mathlib.Core.Path.{◌∙◌, ap, subst, sym}
use native.Mathlib.Omega.{arith}
use Prim.Native.Nat.{ℕ, ◌-◌, ◌<◌}
use Rattle.operators.proofs.act.Goals as goal

-- ---- it is passed on
pub emit_one-requires : goal.emit_one-requires
emit_one-requires c =
    let ((t, x, y, h, p), fits, spares) = c.requires in
    (stands-within _ t _ _ p, t.no_tick, fits)

pub returns-then-turn-eq-PASS-clause-acts : goal.returns-then-turn-eq-PASS-clause-acts
returns-then-turn-eq-PASS-clause-acts c = λ t node x one takes i p h.
    let turn = c.args.turn in
    let s = setting_of (length c.args.out.now) t.clocks c.args.setting.now.loggers.now in
    let side = sides_of turn.input x in
    subst (HoldsTurned t _ _ _ _ _)
    (ap (turned_of turn.input) (carried_pass s turn.place (row_of turn.context) side.own side.other x.emit one _ c.if-turn-eq-PASS.true)
    ∙ arrives-is s node turn.place x one turn.input turn.action turn.context h.emit.limit i takes.action takes.context)
    (turned_of_lem t turn.input turn.split _ _ _ (held_of t turn.input turn.split x h) (c.emit_one.ensures.emits _ t x.emit one.occurrence h.emit p))

pub part_of-own-requires : goal.part_of-own-requires
part_of-own-requires c =
    let ((t, x, y, h, p), fits, spares) = c.requires in
    h.waits.inside

-- ---- it waits on its own side
pub wait-requires : goal.wait-requires
wait-requires c =
    let turn = c.args.turn in
    let ((t, x, y, h, p), fits, spares) = c.requires in
    let side = held_of t turn.input turn.split x h in
    subst (λ (w : List (List ℕ)). (0 < length w) × Spare w 1) (sym (half_is _ _ c.args.lists.now c.part_of-own.result h.waits.inside c.part_of-own.ensures))
    (side.own-waits.some, spares (sym (may_wait-first _ c.if-turn-eq-WAIT.true)))

pub returns-then-turn-eq-WAIT-clause-acts : goal.returns-then-turn-eq-WAIT-clause-acts
returns-then-turn-eq-WAIT-clause-acts c = λ t node x one takes i p h.
    let turn = c.args.turn in
    let lists = c.args.lists.now in
    let s = setting_of (length c.args.out.now) t.clocks c.args.setting.now.loggers.now in
    let side = held_of t turn.input turn.split x h in
    let own = c.part_of-own.result in
    let half = c.part_of-own.ensures in
    let sides = sides_of turn.input x in
    let w = c.wait.ensures _ _ t sides.own one.occurrence (subst (λ (k : List (List ℕ)). Waits t k sides.own) (sym (half_is _ _ lists own h.waits.inside half)) side.own-waits) p in
    let long = length-take-le (own.to - own.from) (drop own.from lists) (omega (arith, length-drop own.from lists, half.up, half.within)) in
    let then = own_back t turn.input turn.split lists c.wait.new.list sides.own sides.other side own.from own.to (c.wait.auto.list ∙ long) half.from half.to (appended_to sides.own one.occurrence) w.0 in
    subst (HoldsTurned t _ _ _ _ _)
    (ap (turned_of turn.input)
    (appended-is sides.own sides.other x.emit one.occurrence ∙ carried_wait s turn.place (row_of turn.context) sides.own sides.other x.emit one _ c.if-turn-eq-WAIT.true h.emit.limit)
    ∙ arrives-is s node turn.place x one turn.input turn.action turn.context h.emit.limit i takes.action takes.context)
    (turned_of_lem t turn.input turn.split _ _ _ then (appended_emits t x.emit sides.own _ h.emit w.1))

-- ---- it does nothing
pub returns-then-turn-ge-NOTHING-clause-acts : goal.returns-then-turn-ge-NOTHING-clause-acts
returns-then-turn-ge-NOTHING-clause-acts c = λ t node x one takes i p h.
    let turn = c.args.turn in
    let s = setting_of (length c.args.out.now) t.clocks c.args.setting.now.loggers.now in
    let side = sides_of turn.input x in
    subst (HoldsTurned t _ _ _ _ _)
    (ap (turned_of turn.input) (carried_nothing s turn.place (row_of turn.context) side.own side.other x.emit one _ c.if-turn-ge-NOTHING.true h.emit.limit)
    ∙ arrives-is s node turn.place x one turn.input turn.action turn.context h.emit.limit i takes.action takes.context)
    (turned_of_lem t turn.input turn.split _ _ _ (held_of t turn.input turn.split x h) h.emit)
