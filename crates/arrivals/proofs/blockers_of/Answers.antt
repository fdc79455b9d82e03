-- By the code.
use Rattle.waiting_lists.specs.declared.WaitingList.{WaitingList}
use mathlib.Core.Path.{ap, refl}
use Rattle.arrivals.proofs.blockers_of.Goals as goal

pub returns-then-action-eq-ABSENT : goal.returns-then-action-eq-ABSENT
returns-then-action-eq-ABSENT c = ((λ e. ap (λ (x : WaitingList). x.len) c.list_of-waiting.ensures), (λ n. absurd (n c.if-action-eq-ABSENT.true)))

pub returns-else-action-eq-ABSENT : goal.returns-else-action-eq-ABSENT
returns-else-action-eq-ABSENT c = ((λ e. absurd (c.if-action-eq-ABSENT.false e)), (λ n. refl))
