-- The count so far and what is left from place k on make the whole.
use Rattle.std.proofs.Common.{arith, rules}
use Rattle.occurrences.specs.Packed.{words_of}
use Rattle.timestamps.specs.Notes.{ticks_of}
use Rattle.detections.proofs.Stamps.{count-start, count_turn, count_end}
use Rattle.detections.proofs.timestamp_count.Goals as goal

pub loop-k-init : goal.loop-k-init
loop-k-init c = (search rules, omega (arith, count-start (words_of (ticks_of c.args.notes.now) c.args.o.now)))

pub loop-k-preserved : goal.loop-k-preserved
loop-k-preserved c =
    let turn = count_turn (words_of (ticks_of c.args.notes.now) c.args.o.now) c.loop-k.k _ (search rules) c.word_at.ensures in
    (search rules, omega (arith, turn, c.one_if-n.ensures.0, c.loop-k.invariant.1))

pub returns : goal.returns
returns c = (omega (arith, count_end (words_of (ticks_of c.args.notes.now) c.args.o.now) c.loop-k.k (search rules), c.loop-k.invariant.1), search rules)
