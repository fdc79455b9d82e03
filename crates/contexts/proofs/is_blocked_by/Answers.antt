-- By both words.
use Rattle.contexts.proofs.Absences.{blocked_by, passed_by}
use Rattle.contexts.proofs.is_blocked_by.Goals as goal

pub returns-then-weakly_before : goal.returns-then-weakly_before
returns-then-weakly_before c = λ t x y z l f p q r.
    let own = c.lowest-own.ensures t.no_global in
    blocked_by t.clocks x z y _ (c.weakly_before.ensures t x y l own p q) c.if-weakly_before.true _ (c.weakly_before-then-weakly_before.ensures t y z own f q r)

pub returns-else-weakly_before : goal.returns-else-weakly_before
returns-else-weakly_before c = λ t x y z l f p q r.
    passed_by t.clocks x z y _ (c.weakly_before.ensures t x y l (c.lowest-own.ensures t.no_global) p q) c.if-weakly_before.false
