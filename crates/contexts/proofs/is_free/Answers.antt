-- Before the arrival, and not blocked.
use Rattle.contexts.proofs.Steps.{before_told, marked_on, unmarked_off}
use Rattle.std.proofs.Common.{ap, not, sym, ◌∙◌}
use Rattle.contexts.proofs.is_free.Goals as goal

pub returns-then-eq : goal.returns-then-eq
returns-then-eq c = λ t l x z low h p q.
    let own = c.lowest-low.ensures t.no_global in
    let is = before_told t.clocks x z c.order-word.result c.eq.result c.eq.ensures (c.order-word.ensures t x z own low p q) in
    marked_on _ _ _ (sym is ∙ c.if-eq.true) (ap not (c.is_blocked.ensures t l x z own low h p q))

pub returns-else-eq : goal.returns-else-eq
returns-else-eq c = λ t l x z low h p q.
    let is = before_told t.clocks x z c.order-word.result c.eq.result c.eq.ensures (c.order-word.ensures t x z (c.lowest-low.ensures t.no_global) low p q) in
    unmarked_off _ _ _ (sym is ∙ c.if-eq.false) is
