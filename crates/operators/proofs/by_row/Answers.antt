-- By the row, and a limit ends the work, it is gone, or it waits.
use Rattle.arrivals.proofs.Carried.{row_gone, row_joins, row_stopped}
use Rattle.arrivals.specs.Meetings.{setting_of}
use Rattle.contexts.specs.Table.{row_of}
use Rattle.emissions.specs.Emissions.{reached}
use Rattle.operators.proofs.Carried.{arrives-is, waits_may}
use Rattle.operators.proofs.Halves.{held, mine, mine-still, others, others-wait, own-long, own_part_lem, own-then, then-held, then-long}
use Rattle.operators.proofs.Sides.{appended_emits, appended-is, turned_of_lem}
use Rattle.operators.proofs.Spares.{spare_on}
use Rattle.operators.specs.Turns.{turned_of}
use Rattle.operators.specs.Views.{HoldsTurned}
use Rattle.sequences.specs.Marks.{unmarked}
use Rattle.std.proofs.lemmas.Result.{err_from_is_err_and}
use Rattle.waiting_lists.proofs.Waits.{waits-length}
use Rattle.waiting_lists.specs.Marks.{marks_of}
use Rattle.waiting_lists.specs.Waiting.{appended_to}
use lib.ListN.{length}
use mathlib.Core.Path.{◌∙◌, ap, refl, subst, sym}
use native.Mathlib.Omega.{arith}
use Rattle.operators.proofs.by_row.Goals as goal

pub emit_made-requires : goal.emit_made-requires
emit_made-requires c =
    let a = c.args in
    let ((t, x, y, h, p), fits, spares, halves) = c.requires in
    ((t, others a.turn a.own a.other t x h halves, x.emit, y, others-wait a.turn a.own a.other t x h halves, h.emit, p), fits)

pub returns-in_err-emit_made-clause-acts : goal.returns-in_err-emit_made-clause-acts
returns-in_err-emit_made-clause-acts c =
    let a = c.args in
    let turn = a.turn in
    let (some, fits, spares, halves) = c.requires in
    let p = err_from_is_err_and c.from_residual.result c.from_residual.ensures.1 in
    rw (p.1, p.2) (λ t node x one looks keeps apart takes i q h chose.
    let then = c.in_err-emit_made.ensures.emits t _ x.emit one.occurrence (others-wait turn a.own a.other t x h halves) h.emit q in
    let s = setting_of (length a.out.now) t.clocks a.setting.now.loggers.now in
    subst (HoldsTurned t _ _ _ _ _)
    (ap (turned_of turn.input)
    (row_stopped s turn.place (row_of turn.context) (mine turn a.own a.other t x h halves) (others turn a.own a.other t x h halves) x.emit one _ _ _ chose.are chose.taken looks keeps apart (ap reached then.limit))
    ∙ arrives-is s node turn.place x one turn.input turn.action turn.context h.emit.limit i takes.action takes.context)
    (turned_of_lem t turn.input turn.split _ _ _ (held turn a.own a.other t x h halves) then))

-- ---- it is gone
pub returns-then-not-waits-clause-acts : goal.returns-then-not-waits-clause-acts
returns-then-not-waits-clause-acts c =
    let a = c.args in
    let turn = a.turn in
    let (some, fits, spares, halves) = c.requires in
    λ t node x one looks keeps apart takes i q h chose.
    let those = others-wait turn a.own a.other t x h halves in
    let then = c.in_ok-emit_made.ensures.emits t _ x.emit one.occurrence those h.emit q in
    let s = setting_of (length a.out.now) t.clocks a.setting.now.loggers.now in
    let less = then-held turn a.own a.other t x h halves c.remove_from.new.w c.remove_from.auto.w _ (c.remove_from.ensures _ _ t _ those) in
    subst (HoldsTurned t _ _ _ _ _)
    (ap (turned_of turn.input)
    (row_gone s turn.place (row_of turn.context) (mine turn a.own a.other t x h halves) (others turn a.own a.other t x h halves) x.emit one _ _ _ chose.are chose.taken looks keeps apart (marks_of a.choice.removed) chose.removed
    (ap reached then.limit) (sym c.waits.ensures ∙ c.if-not-waits.true))
    ∙ arrives-is s node turn.place x one turn.input turn.action turn.context h.emit.limit i takes.action takes.context)
    (turned_of_lem t turn.input turn.split _ _ _ less then)

-- ---- it waits
pub wait-requires : goal.wait-requires
wait-requires c =
    let a = c.args in
    let turn = a.turn in
    let ((t, x, y, h, p), fits, spares, halves) = c.requires in
    let gone = c.remove_from.ensures _ _ t _ (others-wait turn a.own a.other t x h halves) in
    let many = c.remove_from.auto.w in
    let still = mine-still turn a.own a.other t x h halves c.remove_from.new.w many _ gone in
    let may = waits_may _ _ _ c.waits.result c.waits.ensures c.if-not-waits.false in
    let before = waits-length t _ _ (held turn a.own a.other t x h halves).own-waits in
    let after = waits-length t _ _ still in
    let long = own-long turn _ a.own a.other halves h.waits.inside in
    let part = own_part_lem turn _ a.own a.other halves h.waits.inside a.lists.now refl in (
      still.some,
      spare_on _ _ 1 0 1 (spares may) (long _ (then-long turn a.own a.other t x h halves c.remove_from.new.w many) ∙ sym (long _ refl) ∙ ap length part) (omega (arith, before, after)) (omega arith),
    )

pub returns-clause-acts : goal.returns-clause-acts
returns-clause-acts c =
    let a = c.args in
    let turn = a.turn in
    let (some, fits, spares, halves) = c.requires in
    λ t node x one looks keeps apart takes i q h chose.
    let those = others-wait turn a.own a.other t x h halves in
    let then = c.in_ok-emit_made.ensures.emits t _ x.emit one.occurrence those h.emit q in
    let s = setting_of (length a.out.now) t.clocks a.setting.now.loggers.now in
    let gone = c.remove_from.ensures _ _ t _ those in
    let many = c.remove_from.auto.w in
    let w = c.wait.ensures _ _ t _ one.occurrence (mine-still turn a.own a.other t x h halves c.remove_from.new.w many _ gone) q in
    let more =
    own-then turn _ a.own a.other halves h.waits.inside _ (then-long turn a.own a.other t x h halves c.remove_from.new.w many) t _ _
    (then-held turn a.own a.other t x h halves c.remove_from.new.w many _ gone) _ (appended_to (mine turn a.own a.other t x h halves) one.occurrence) w.0 c.wait.auto.list in
    subst (HoldsTurned t _ _ _ _ _)
    (ap (turned_of turn.input)
    (appended-is (mine turn a.own a.other t x h halves) (unmarked (others turn a.own a.other t x h halves) (marks_of a.choice.removed)) _ one.occurrence
    ∙ row_joins s turn.place (row_of turn.context) (mine turn a.own a.other t x h halves) (others turn a.own a.other t x h halves) x.emit one _ _ _ chose.are chose.taken looks keeps apart (marks_of a.choice.removed) chose.removed
    (ap reached then.limit) (sym c.waits.ensures ∙ c.if-not-waits.false))
    ∙ arrives-is s node turn.place x one turn.input turn.action turn.context h.emit.limit i takes.action takes.context)
    (turned_of_lem t turn.input turn.split _ _ _ more (appended_emits t _ (mine turn a.own a.other t x h halves) _ then w.1))
