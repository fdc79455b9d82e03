-- `readings::read_u16`: what `forms` read, with one fault.
use mathlib.Core.Path.{sym}
use native.Mathlib.Omega.{arith}
use Rattle.forms.proofs.Pieces.{number-value}
use Rattle.readings.proofs.Reading.{number-bad, number-got}
use Rattle.readings.proofs.read_u16.Goals as goal

pub overflow_add-result : goal.overflow_add-result
overflow_add-result c =
    let a = c.args in
    omega (arith, (number-value 2 a.low a.high a.bytes.now a.at c.in-Ok.value (sym c.in-Ok.ensures)).0)

pub returns-in-Ok-clause-is : goal.returns-in-Ok-clause-is
returns-in-Ok-clause-is c = number-got c.args.bytes.now c.args.at c.args.low c.args.high c.in-Ok.value c.in-Ok.ensures

pub returns-in-Ok-clause-within : goal.returns-in-Ok-clause-within
returns-in-Ok-clause-within c =
    let a = c.args in
    (number-value 2 a.low a.high a.bytes.now a.at c.in-Ok.value (sym c.in-Ok.ensures)).2

pub returns-in-Err-clause-is : goal.returns-in-Err-clause-is
returns-in-Err-clause-is c = number-bad c.args.bytes.now c.args.at c.args.low c.args.high _ c.in-Err.ensures
