-- The answer says what the run says.
use mathlib.Core.Path.{◌∙◌, sym, refl}
use Rattle.working.proofs.Answers.{run_answers}
use Rattle.gateway.proofs.ended.Goals as goal

pub returns-in-Some : goal.returns-in-Some
returns-in-Some c = λ p out out' says. run_answers p out _ out' _ _ says (rw c.in-Some.is c.number.ensures) (rw c.in-Some.is)

pub returns-in-None : goal.returns-in-None
returns-in-None c = λ p out out' says. run_answers p out _ out' _ _ says (rw c.in-None.is) (rw c.in-None.is)
