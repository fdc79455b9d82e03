-- The plan is read, and the passage is worked under it; or the plan is turned back.
use Rattle.plans.specs.Faults.{number_of}
use Rattle.plans.specs.Reader.{refused}
use Rattle.plans.proofs.Faults.{some_number}
use Rattle.working.proofs.Theorems.{told}
use Rattle.working.specs.Working.{plan_worked, turned_back, worked}
use borrow.Author.Tests.{ne_eqb}
use lib.ListN.{length}
use mathlib.Core.Path.{◌∙◌, ap, sym}
use native.Mathlib.Omega.{arith}
use Rattle.gateway.proofs.Working.{plan-refused, read_held}
use Rattle.gateway.proofs.work.Goals as goal

pub work_in_tables-requires : goal.work_in_tables-requires
work_in_tables-requires c =
    let e = c.in-Ok.ensures in
    read_held c.args.plan.now c.in-Ok.read _ _ c.read_plan.new.nodes (λ i. omega (arith, c.type_inv.plan i)) e.answer e.counts.0 e.counts.1 e.counts.2 e.slotted

pub returns-in-Ok : goal.returns-in-Ok
unfolding worked
returns-in-Ok c =
    let a = c.args in
    let both =
    told a.plan.now a.passage.now (length a.output.now) _ _ _ _
    (λ i. omega (arith, c.type_inv.plan i)) (λ i. omega (arith, c.type_inv.passage i))
    (ap (plan_worked (length a.output.now) a.passage.now) (sym c.in-Ok.ensures.answer))
    c.work_in_tables.ensures in
    record { answers = both.0; latest = both.1 }

pub returns-in-Err : goal.returns-in-Err
unfolding worked
returns-in-Err c =
    let a = c.args in
    let r = c.in-Err.refusal in
    let some = ne_eqb (number_of r.fault) 0 (omega (arith, some_number r.fault)) in
    let both =
    told a.plan.now a.passage.now (length a.output.now) _ _ _ _
    (λ i. omega (arith, c.type_inv.plan i)) (λ i. omega (arith, c.type_inv.passage i))
    (ap (plan_worked (length a.output.now) a.passage.now) (sym c.in-Err.ensures.answer)
    ∙ plan-refused (length a.output.now) a.passage.now (refused (number_of r.fault) r.place) some
    ∙ ap (λ n. turned_back n r.place) (sym c.number.ensures))
    (c.turned_back.ensures _) in
    record { answers = both.0; latest = both.1 }
