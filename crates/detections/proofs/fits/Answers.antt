-- Any finding fits where the largest does; else its counts make its size.
use Rattle.std.proofs.Common.{sym, ap, ◌∙◌, leb, le-leb, arith}
use Rattle.occurrences.specs.Packed.{occurrence_of}
use Rattle.timestamps.specs.Notes.{ticks_of}
use Rattle.detections.proofs.Findings.{finding-most, finding-size}
use Rattle.detections.proofs.fits.Goals as goal

pub returns-then-left-ge-MOST : goal.returns-then-left-ge-MOST
returns-then-left-ge-MOST c =
    λ loggers node. le-leb _ c.args.left c.if-left-ge-MOST.true
    ∙ sym (le-leb _ c.args.left (omega (arith, finding-most loggers node (occurrence_of (ticks_of c.args.notes.now) c.args.o.now), c.if-left-ge-MOST.true)))

pub returns-else-left-ge-MOST : goal.returns-else-left-ge-MOST
returns-else-left-ge-MOST c =
    λ loggers node.
    ap (λ n. leb n c.args.left)
    (finding-size loggers node (occurrence_of (ticks_of c.args.notes.now) c.args.o.now) c.timestamp_count.ensures.0 (c.event_count.ensures.0 (ticks_of c.args.notes.now)) c.size.ensures)
