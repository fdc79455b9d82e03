-- `forms::read_number`: at each return the tests say which case of `number_read` holds.
use mathlib.Core.Path.{sym, ap, ◌∙◌}
use native.Mathlib.Omega.{arith}
use Rattle.forms.specs.Sections.{within}
use Rattle.forms.proofs.Pieces.{number_short, number_out, number_in}
use Rattle.forms.proofs.read_number.Goals as goal

pub returns-then-left-width : goal.returns-then-left-width
returns-then-left-width c =
    let a = c.args in
    number_short a.width a.low a.high a.bytes.now a.at (omega arith)

pub returns-then-is_within : goal.returns-then-is_within
returns-then-is_within c =
    let a = c.args in
    let n = c.number_at-v in
    number_in a.width a.low a.high a.bytes.now a.at n.result (omega arith) n.ensures (sym c.is_within.ensures ∙ c.if-is_within.true)

pub returns-else-is_within : goal.returns-else-is_within
returns-else-is_within c =
    let a = c.args in
    let n = c.number_at-v in
    number_out a.width a.low a.high a.bytes.now a.at (omega arith)
    (ap (within a.low a.high) (sym n.ensures) ∙ sym c.is_within.ensures ∙ c.if-is_within.false)
