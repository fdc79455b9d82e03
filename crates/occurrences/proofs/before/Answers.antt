-- Each stamp of the second at a place before k has one before it.
use Rattle.std.proofs.Common.{sym, ◌∙◌, arith}
use Rattle.timestamps.specs.Notes.{globals_of, ticks_of}
use Rattle.occurrences.proofs.Befores.{before-each, before-not, has_told}
use Rattle.timestamps.proofs.Notes.{global_here, tick_here}
use Rattle.occurrences.proofs.Steps.{next_place}
use Rattle.occurrences.proofs.before.Goals as goal

pub loop-k-init : goal.loop-k-init
loop-k-init c = λ j l. absurd (omega (arith, l))

pub bounds-notes-event_at : goal.bounds-notes-event_at
bounds-notes-event_at c = rw c.event_at.ensures.0 (c.requires.0 _ c.loop-k-test.true)

pub bounds-notes-event_at-in-loop-k : goal.bounds-notes-event_at-in-loop-k
bounds-notes-event_at-in-loop-k c = rw c.event_at-in-loop-k.ensures.0 (c.requires.1 _ c.loop-k-test.true)

pub returns-then-not-has_before : goal.returns-then-not-has_before
returns-then-not-has_before c =
    λ t x y least p q. sym (before-not t x y _ _ p q _ least c.loop-k.k c.loop-k-test.true
    (λ o. has_told (ticks_of c.args.notes.now) (globals_of c.args.notes.now) c.args.a.now c.args.b.now c.loop-k.k _ _ _ c.args.low.0 _
    (tick_here c.args.notes.now _ _ c.event_at.ensures.0) (tick_here c.args.notes.now _ _ c.event_at-in-loop-k.ensures.0) (global_here c.args.notes.now _ _ c.event_at-in-loop-k.ensures.0)
    c.has_before.ensures o ∙ c.if-not-has_before.true))

pub loop-k-preserved : goal.loop-k-preserved
loop-k-preserved c =
    next_place _ _ c.loop-k.invariant (λ o. has_told (ticks_of c.args.notes.now) (globals_of c.args.notes.now) c.args.a.now c.args.b.now c.loop-k.k _ _ _ c.args.low.0 _
    (tick_here c.args.notes.now _ _ c.event_at.ensures.0) (tick_here c.args.notes.now _ _ c.event_at-in-loop-k.ensures.0) (global_here c.args.notes.now _ _ c.event_at-in-loop-k.ensures.0)
    c.has_before.ensures o ∙ c.if-not-has_before.false)

pub returns : goal.returns
returns c = λ t x y least p q. sym (before-each t x y _ _ p q _ least (λ j l. c.loop-k.invariant j (omega (arith, l, c.loop-k-test.false))))
