-- The number so far is the lowest at the places before k.
use Rattle.std.proofs.Common.{◌≡◌, get_or, sym, ap, ◌∙◌, arith, rules}
use Rattle.timestamps.specs.Notes.{globals_of}
use Rattle.timestamps.proofs.Notes.{global_noted}
use Rattle.occurrences.proofs.Steps.{lowest_start, lowest_turn}
use Rattle.occurrences.proofs.lowest_of_four.Goals as goal

pub loop-k-init : goal.loop-k-init
loop-k-init c = lowest_start _

pub bounds-notes-event_at : goal.bounds-notes-event_at
bounds-notes-event_at c = rw c.event_at.ensures.0 (c.requires _ c.loop-k-test.true)

pub loop-k-preserved : goal.loop-k-preserved
loop-k-preserved c =
    let e = sym (global_noted c.args.notes.now _) ∙ ap (λ n. get_or (globals_of c.args.notes.now) n 0) c.event_at.ensures.0 in
    lowest_turn _ _ _ _ _ (search rules) (c.tick_of.ensures ∙ e) c.earliest-low.ensures c.loop-k.invariant

pub returns : goal.returns
returns c = let e : c.loop-k.k ≡ 4 = omega (arith, c.loop-k.auto.k-end, c.loop-k-test.false) in rw e at c.loop-k.invariant
