-- It accumulates, and a limit ends the work, or both sides are less.
use Rattle.arrivals.proofs.Carried.{gathered_gone, gathered_stopped}
use Rattle.arrivals.specs.Meetings.{setting_of}
use Rattle.contexts.specs.Table.{row_of}
use Rattle.emissions.specs.Emissions.{reached}
use Rattle.operators.proofs.Carried.{arrives-is}
use Rattle.operators.proofs.Halves.{held, mine, mine-still, mine-wait, others, others-wait, own-then, then-held, then-long}
use Rattle.operators.proofs.Sides.{turned_of_lem}
use Rattle.operators.specs.Turns.{turned_of}
use Rattle.operators.specs.Views.{HoldsTurned}
use Rattle.std.proofs.lemmas.Result.{err_from_is_err_and}
use Rattle.waiting_lists.specs.Marks.{marks_of}
use lib.ListN.{length}
use mathlib.Core.Path.{◌∙◌, ap, subst}
use Rattle.operators.proofs.accumulate.Goals as goal

pub before_arrival-earlier-requires : goal.before_arrival-earlier-requires
before_arrival-earlier-requires c =
    let a = c.args in
    let ((t, x, y, h, p), fits, halves) = c.requires in
    (t, mine a.turn a.own a.other t x h halves, y, mine-wait a.turn a.own a.other t x h halves, p)

pub emit_accumulated-requires : goal.emit_accumulated-requires
emit_accumulated-requires c =
    let a = c.args in
    let ((t, x, y, h, p), fits, halves) = c.requires in
    ((t, mine a.turn a.own a.other t x h halves, others a.turn a.own a.other t x h halves, x.emit, y, mine-wait a.turn a.own a.other t x h halves, others-wait a.turn a.own a.other t x h halves, h.emit, p), fits)

pub returns-in_err-emit_accumulated-clause-acts : goal.returns-in_err-emit_accumulated-clause-acts
returns-in_err-emit_accumulated-clause-acts c =
    let a = c.args in
    let turn = a.turn in
    let (some, fits, halves) = c.requires in
    let p = err_from_is_err_and c.from_residual.result c.from_residual.ensures.1 in
    rw (p.1, p.2) (λ t node x one five takes i q h chose.
    let own = mine-wait turn a.own a.other t x h halves in
    let early = c.before_arrival-earlier.ensures t _ _ own q in
    let then = c.in_err-emit_accumulated.ensures.emits t _ _ x.emit one.occurrence own (others-wait turn a.own a.other t x h halves) h.emit q early in
    let s = setting_of (length a.out.now) t.clocks a.setting.now.loggers.now in
    subst (HoldsTurned t _ _ _ _ _)
    (ap (turned_of turn.input)
    (gathered_stopped s turn.place (row_of turn.context) (mine turn a.own a.other t x h halves) (others turn a.own a.other t x h halves) x.emit one _ _ _ chose.are chose.taken five (ap reached then.limit))
    ∙ arrives-is s node turn.place x one turn.input turn.action turn.context h.emit.limit i takes.action takes.context)
    (turned_of_lem t turn.input turn.split _ _ _ (held turn a.own a.other t x h halves) then))

pub returns-clause-acts : goal.returns-clause-acts
returns-clause-acts c =
    let a = c.args in
    let turn = a.turn in
    let (some, fits, halves) = c.requires in
    λ t node x one five takes i q h chose.
    let own = mine-wait turn a.own a.other t x h halves in
    let early = c.before_arrival-earlier.ensures t _ _ own q in
    let those = others-wait turn a.own a.other t x h halves in
    let then = c.in_ok-emit_accumulated.ensures.emits t _ _ x.emit one.occurrence own those h.emit q early in
    let s = setting_of (length a.out.now) t.clocks a.setting.now.loggers.now in
    let gone = c.remove_from.ensures _ _ t _ those in
    let many = c.remove_from.auto.w in
    let still = mine-still turn a.own a.other t x h halves c.remove_from.new.w many _ gone in
    let both =
    own-then turn _ a.own a.other halves h.waits.inside _ (then-long turn a.own a.other t x h halves c.remove_from.new.w many) t _ _
    (then-held turn a.own a.other t x h halves c.remove_from.new.w many _ gone) _ _ (c.remove_from-2.ensures _ _ t _ still) c.remove_from-2.auto.w in
    subst (HoldsTurned t _ _ _ _ _)
    (ap (turned_of turn.input)
    (gathered_gone s turn.place (row_of turn.context) (mine turn a.own a.other t x h halves) (others turn a.own a.other t x h halves) x.emit one _ _ _ chose.are chose.taken five (marks_of c.before_arrival-earlier.result) early
    (ap reached then.limit))
    ∙ arrives-is s node turn.place x one turn.input turn.action turn.context h.emit.limit i takes.action takes.context)
    (turned_of_lem t turn.input turn.split _ _ _ both then)
