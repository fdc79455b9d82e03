-- `plans::read_number`: what `forms` read, with the faults of the plan.
use mathlib.Core.Path.{sym, ap, ◌∙◌}
use native.Mathlib.Omega.{arith}
use Rattle.forms.specs.Views.{read_of}
use Rattle.forms.proofs.Pieces.{number-piece, number-value}
use Rattle.plans.specs.Faults.{number_of}
use Rattle.plans.proofs.Faults.{some_number}
use Rattle.plans.proofs.read_number.Goals as goal

pub overflow_add-result : goal.overflow_add-result
overflow_add-result c =
    let a = c.args in
    omega (arith, (number-value a.width a.low a.high a.bytes.now a.at c.in-Ok.value (sym c.in-Ok.ensures)).0)

pub returns-in-Ok-clause-is : goal.returns-in-Ok-clause-is
returns-in-Ok-clause-is c =
    let a = c.args in
    let k = number_of a.wrong in
    ap (read_of 1 k a.width a.at) c.in-Ok.ensures ∙ number-piece a.width a.low a.high a.bytes.now a.at 1 k (some_number a.wrong)

pub returns-in-Ok-clause-most : goal.returns-in-Ok-clause-most
returns-in-Ok-clause-most c =
    let a = c.args in
    (number-value a.width a.low a.high a.bytes.now a.at c.in-Ok.value (sym c.in-Ok.ensures)).2

pub returns-in-Err-CutShort-clause-is : goal.returns-in-Err-CutShort-clause-is
returns-in-Err-CutShort-clause-is c =
    let a = c.args in
    let k = number_of a.wrong in
    rw c.at.ensures
    (ap (read_of 1 k a.width a.at) (rw c.in-Err-CutShort.field-0-is at c.in-Err-CutShort.ensures)
    ∙ number-piece a.width a.low a.high a.bytes.now a.at 1 k (some_number a.wrong))

pub returns-in-Err-Outside-clause-is : goal.returns-in-Err-Outside-clause-is
returns-in-Err-Outside-clause-is c =
    let a = c.args in
    let k = number_of a.wrong in
    rw c.at-in-Err-Outside.ensures
    (ap (read_of 1 k a.width a.at) (rw c.in-Err-Outside.field-0-is at c.in-Err-Outside.ensures)
    ∙ number-piece a.width a.low a.high a.bytes.now a.at 1 k (some_number a.wrong))
