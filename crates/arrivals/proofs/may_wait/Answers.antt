-- By the code.
use Rattle.arrivals.proofs.Actions.{may_wait-first, may_wait-other}
use Rattle.arrivals.proofs.may_wait.Goals as goal

pub returns-then-action-eq-WAIT : goal.returns-then-action-eq-WAIT
returns-then-action-eq-WAIT c = may_wait-first _ c.if-action-eq-WAIT.true

pub returns : goal.returns
returns c = may_wait-other c.args.action c.if-action-eq-WAIT.false
