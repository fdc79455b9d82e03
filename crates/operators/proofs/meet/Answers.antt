-- It deletes, or its candidates and the choice are carried out.
use Rattle.arrivals.proofs.Actions.{looked_candidates, looked_deletes}
use Rattle.arrivals.proofs.Carried.{carried_delete}
use Rattle.arrivals.specs.Meetings.{setting_of}
use Rattle.contexts.specs.Table.{row_of}
use Rattle.operators.proofs.Carried.{arrives-is}
use Rattle.operators.proofs.Halves.{mine, mine-wait, others, others-wait, then-held}
use Rattle.operators.proofs.Sides.{turned_of_lem}
use Rattle.operators.specs.Turns.{turned_of}
use Rattle.operators.specs.Views.{HoldsTurned}
use lib.ListN.{length}
use mathlib.Core.Path.{◌∙◌, ap, subst}
use Rattle.operators.proofs.meet.Goals as goal

pub candidates_of-candidates-requires : goal.candidates_of-candidates-requires
candidates_of-candidates-requires c =
    let a = c.args in
    let ((t, x, y, h, p), fits, spares, halves) = c.requires in
    (t, mine a.turn a.own a.other t x h halves, others a.turn a.own a.other t x h halves, y, mine-wait a.turn a.own a.other t x h halves, others-wait a.turn a.own a.other t x h halves, p)

pub returns-then-turn-eq-DELETE-clause-acts : goal.returns-then-turn-eq-DELETE-clause-acts
returns-then-turn-eq-DELETE-clause-acts c =
    let a = c.args in
    let turn = a.turn in
    let (some, fits, spares, halves) = c.requires in
    λ t node x one looks takes i q h.
    let own = mine-wait turn a.own a.other t x h halves in
    let those = others-wait turn a.own a.other t x h halves in
    let found = c.candidates_of-candidates.ensures t _ _ one.occurrence own those q looks in
    let s = setting_of (length a.out.now) t.clocks a.setting.now.loggers.now in
    let less = then-held turn a.own a.other t x h halves c.remove_from.new.w c.remove_from.auto.w _ (c.remove_from.ensures _ _ t _ those) in
    subst (HoldsTurned t _ _ _ _ _)
    (ap (turned_of turn.input)
    (carried_delete s turn.place (row_of turn.context) (mine turn a.own a.other t x h halves) (others turn a.own a.other t x h halves) x.emit one turn.action c.if-turn-eq-DELETE.true h.emit.limit _
    (found ∙ looked_deletes turn.action t.clocks (mine turn a.own a.other t x h halves) (others turn a.own a.other t x h halves) one.occurrence c.if-turn-eq-DELETE.true))
    ∙ arrives-is s node turn.place x one turn.input turn.action turn.context h.emit.limit i takes.action takes.context)
    (turned_of_lem t turn.input turn.split _ _ _ less h.emit)

pub choice_of-choice-requires : goal.choice_of-choice-requires
choice_of-choice-requires c =
    let a = c.args in
    let ((t, x, y, h, p), fits, spares, halves) = c.requires in
    (t, others a.turn a.own a.other t x h halves, others-wait a.turn a.own a.other t x h halves)

pub returns-clause-acts : goal.returns-clause-acts
returns-clause-acts c =
    let a = c.args in
    let turn = a.turn in
    let (some, fits, spares, halves) = c.requires in
    λ t node x one looks takes i q h.
    let own = mine-wait turn a.own a.other t x h halves in
    let those = others-wait turn a.own a.other t x h halves in
    let chosen = c.choice_of-choice.ensures t _ those in
    c.carry_out.ensures.acts t node x one looks c.if-turn-eq-DELETE.false takes i q h
    (record {
      are = c.candidates_of-candidates.ensures t _ _ one.occurrence own those q looks
          ∙ looked_candidates turn.action t.clocks (mine turn a.own a.other t x h halves) (others turn a.own a.other t x h halves) one.occurrence c.if-turn-eq-DELETE.false;
      taken = chosen.0;
      removed = chosen.1;
    })
