-- A candidate that no other bars.
use Rattle.contexts.proofs.Steps.{marked_on, takes_unbarred}
use Rattle.std.proofs.Common.{ap, not, sym, ◌∙◌}
use Rattle.contexts.proofs.is_taken.Goals as goal

pub returns-then-is_marked : goal.returns-then-is_marked
returns-then-is_marked c = λ t l h low.
    marked_on _ _ _ (sym c.is_marked.ensures ∙ c.if-is_marked.true) (ap not (c.barred.ensures t l h low) ∙ takes_unbarred c.args.rule t.clocks _ _)
