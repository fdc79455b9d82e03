-- The bytes before k name those kept.
use Rattle.std.proofs.Common.{◌≡◌, ◌<◌, ap, ◌∙◌, arith}
use Rattle.timestamps.specs.Notes.{globals_of}
use Rattle.occurrences.proofs.Bytes.{bytes-start, bytes_turn}
use Rattle.occurrences.proofs.Joins.{kept_one}
use Rattle.occurrences.specs.Steps.{kept_of}
use Rattle.occurrences.proofs.settled_of_four.Goals as goal

pub loop-k-init : goal.loop-k-init
loop-k-init c = bytes-start _

pub kept-n-requires : goal.kept-n-requires
kept-n-requires c = rw c.event_at.ensures.0 (c.requires _ c.loop-k-test.true)

pub loop-k-preserved : goal.loop-k-preserved
loop-k-preserved c =
    let e = ap (kept_of (globals_of c.args.notes.now) c.args.highest.0) c.event_at.ensures.0 in
    bytes_turn _ _ _ _ (omega (arith, c.loop-k-test.true)) (rw c.kept-n.ensures (kept_one _ _ _ (λ n. n < 256) (omega arith) c.event_at.ensures.1)) (c.kept-n.ensures ∙ e) c.loop-k.invariant

pub returns : goal.returns
returns c = let e : c.loop-k.k ≡ 4 = omega (arith, c.loop-k.auto.k-end, c.loop-k-test.false) in rw e at c.loop-k.invariant
