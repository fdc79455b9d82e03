-- Turned back, or the run.
use Rattle.gateway.proofs.Working.{both-accepted, noted_themselves, passage-refused, ran_noted}
use Rattle.plans.specs.Layout.{plan_clocks}
use Rattle.plans.specs.Views.{answer_of}
use Rattle.std.specs.Prelude.{Ok}
use Rattle.working.proofs.Answers.{answers_same}
use Rattle.working.specs.Working.{turned_back}
use lib.ListN.{length-take}
use lib.Seq.{length-take-le}
use mathlib.Core.Path.{◌∙◌, ap, refl, sym}
use native.Mathlib.Omega.{arith}
use Rattle.gateway.proofs.work_under.Goals as goal

pub slice_bounds-check_passage-end : goal.slice_bounds-check_passage-end
slice_bounds-check_passage-end c = sym (length-take-le _ _ (omega (arith, c.requires.0.kinds-most)))

pub slice_bounds-check_passage-end-2 : goal.slice_bounds-check_passage-end-2
slice_bounds-check_passage-end-2 c = sym (length-take-le _ _ (omega (arith, c.requires.0.loggers-most)))

pub check_passage-check-requires : goal.check_passage-check-requires
check_passage-check-requires c =
    let known = c.requires.0 in (
      omega (arith, length-take c.args.read.kind_count c.args.kinds.now, known.kinds-most),
      omega (arith, length-take c.args.read.logger_count c.args.loggers.now, known.loggers-most),
      known.rising.0,
      known.rising.1,
      c.requires.1,
    )

pub returns-in-Err : goal.returns-in-Err
returns-in-Err c =
    let a = answer_of (Ok c.args.read) c.args.loggers.now c.args.kinds.now c.args.nodes.now in
    let refusal = c.in-Err.refusal in
    let checked = c.in-Err.ensures a.plan refl refl refl in
    answers_same _ _ _ _ _
    (passage-refused _ _ a refl refusal checked.0 ∙ ap (λ n. turned_back n refusal.place) (sym c.number.ensures))
    (c.turned_back.ensures _)

pub run_in_rows-run-requires : goal.run_in_rows-run-requires
run_in_rows-run-requires c =
    let a = answer_of (Ok c.args.read) c.args.loggers.now c.args.kinds.now c.args.nodes.now in
    let checked = c.in-Ok.ensures a.plan refl refl refl in
    (c.requires.0.nodes-most, (plan_clocks a.plan, noted_themselves _ _ _ _ _ _ _ checked.1), c.requires.0.slotted)

pub returns : goal.returns
returns c =
    let a = answer_of (Ok c.args.read) c.args.loggers.now c.args.kinds.now c.args.nodes.now in
    let checked = c.in-Ok.ensures a.plan refl refl refl in
    answers_same _ _ _ _ _
    (both-accepted _ _ a refl _ checked.0)
    (c.ended.ensures _ _ _ (ran_noted _ _ _ _ _ _ _ checked.1 a.plan _ _ _ (c.run_in_rows-run.ensures a.plan c.numbers_by_place-numbers.ensures refl (noted_themselves _ _ _ _ _ _ _ checked.1))))
