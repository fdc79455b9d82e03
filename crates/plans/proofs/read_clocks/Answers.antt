-- `plans::read_clocks`: the count must be 1, and one entry.
use mathlib.Core.Path.{refl, sym}
use native.Mathlib.Omega.{arith}
use Rattle.std.proofs.lemmas.Result.{err_from_is_err_and}
use Rattle.forms.proofs.Sections.{section_one, section_stop}
use Rattle.plans.specs.Reader.{clocks}
use Rattle.plans.proofs.read_clocks.Goals as goal

pub returns-in_err-at : goal.returns-in_err-at
returns-in_err-at c =
    let p = err_from_is_err_and c.from_residual.result c.from_residual.ensures.1 in
    rw (p.1, p.2) (sym (section_stop clocks c.args.bytes.now c.args.start _ _ (sym c.in_err-at.ensures.is)))

pub returns : goal.returns
returns c = section_one clocks c.args.bytes.now c.args.start _ _ c.in_ok-at.ensures.is refl refl (omega arith) _ c.read_number-2.ensures.is
