-- The bytes of its packed number name its stamps.
use Rattle.timestamps.specs.Notes.{ticks_of}
use Rattle.detections.proofs.Stamps.{named_start}
use Rattle.detections.proofs.put_stamps.Goals as goal

pub put_named-requires : goal.put_named-requires
put_named-requires c = (c.requires.0, c.requires.1, rw (named_start (ticks_of c.args.notes.now) c.args.loggers.now c.args.o.now) c.requires.2)

pub returns : goal.returns
returns c = rw (named_start (ticks_of c.args.notes.now) c.args.loggers.now c.args.o.now) at c.put_named.ensures
