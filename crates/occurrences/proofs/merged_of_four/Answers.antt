-- The bytes before k name the later ones, and what is highest so far is the highest of these.
use Rattle.std.proofs.Common.{◌≡◌, ◌<◌, max, length, get_or, sym, ap, ◌∙◌, arith, rules}
use Rattle.timestamps.specs.Notes.{globals_of}
use Rattle.occurrences.proofs.Bytes.{bytes-start, bytes_turn}
use Rattle.occurrences.proofs.Joins.{later_one}
use Rattle.timestamps.proofs.Notes.{global_noted}
use Rattle.occurrences.proofs.Steps.{highest-start, highest_turn}
use Rattle.occurrences.proofs.merged_of_four.Goals as goal

pub loop-k-init : goal.loop-k-init
loop-k-init c = (bytes-start _, highest-start _)

pub later_of-n-requires : goal.later_of-n-requires
later_of-n-requires c = (rw c.event_at.ensures.0 (c.requires.0 _ c.loop-k-test.true), rw c.event_at-in-loop-k.ensures.0 (c.requires.1 _ c.loop-k-test.true))

pub offset_bounds-notes-n : goal.offset_bounds-notes-n
offset_bounds-notes-n c =
    let h : c.later_of-n.result < 256 = rw c.later_of-n.ensures (later_one _ _ _ (λ n. n < 256) c.event_at.ensures.1 c.event_at-in-loop-k.ensures.1) in
    search (rules, h)

pub bounds-notes-n : goal.bounds-notes-n
bounds-notes-n c =
    rw c.later_of-n.ensures (later_one _ _ _ (λ n. n < length c.args.notes.now)
    (rw c.event_at.ensures.0 (c.requires.0 _ c.loop-k-test.true)) (rw c.event_at-in-loop-k.ensures.0 (c.requires.1 _ c.loop-k-test.true)))

pub loop-k-preserved : goal.loop-k-preserved
loop-k-preserved c =
    let e = rw (c.event_at.ensures.0, c.event_at-in-loop-k.ensures.0) at c.later_of-n.ensures in (
      bytes_turn _ _ _ _ (omega (arith, c.loop-k-test.true))
          (rw c.later_of-n.ensures (later_one _ _ _ (λ n. n < 256) c.event_at.ensures.1 c.event_at-in-loop-k.ensures.1)) e c.loop-k.invariant.0,
      highest_turn _ _ _ _ (c.latest-highest.ensures ∙ ap (max c.loop-k.highest.0) (sym (global_noted c.args.notes.now _)) ∙ ap (λ n. max c.loop-k.highest.0 (get_or (globals_of c.args.notes.now) n 0)) e) c.loop-k.invariant.1,
    )

pub returns : goal.returns
returns c = let e : c.loop-k.k ≡ 4 = omega (arith, c.loop-k.auto.k-end, c.loop-k-test.false) in (rw e at c.loop-k.invariant.0, rw e at c.loop-k.invariant.1)
