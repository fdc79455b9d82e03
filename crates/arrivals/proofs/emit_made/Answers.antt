-- By the context's row.
use Rattle.arrivals.proofs.Each.{emits_by}
use Rattle.contexts.specs.Made.{made_of}
use Rattle.contexts.specs.Table.{each, together}
use Rattle.emissions.specs.Emissions.{Emits}
use mathlib.Core.Path.{refl, subst}
use Rattle.arrivals.proofs.emit_made.Goals as goal

pub returns-then-makes_each : goal.returns-then-makes_each
unfolding made_of
returns-then-makes_each c =
    let call = c in
    let yes = call in
    let row = yes.makes_each.ensures.0 yes.if-makes_each.true in
    record {
      emits = (λ t l s x h m p. subst (Emits t _ _ _) (emits_by _ _ _ s _ _ each t.clocks _ x row refl) (call.emit_each.ensures.emits t l s x h m p));
      beyond = call.emit_each.ensures.beyond;
    }

pub returns-else-makes_each : goal.returns-else-makes_each
returns-else-makes_each c =
    let call = c in
    let no = call in
    let row = no.makes_each.ensures.1 no.if-makes_each.false in
    record {
      emits = (λ t l s x h m p. subst (Emits t _ _ _) (emits_by _ _ _ s _ _ together t.clocks _ x row refl) (call.emit_together.ensures.emits t l s x h m p));
      beyond = call.emit_together.ensures.beyond;
    }
