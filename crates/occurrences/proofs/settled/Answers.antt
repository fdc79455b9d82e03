-- Of the eight places; where the upper four have none, of the lower.
use Rattle.timestamps.specs.Notes.{globals_of}
use Rattle.occurrences.proofs.Bytes.{byte_further, byte_none, bytes-more, bytes-none, inside-first, inside-last, kept-none}
use Rattle.occurrences.specs.Steps.{kept_of}
use Rattle.std.proofs.Common.{ap, arith}
use Rattle.occurrences.proofs.settled.Goals as goal

pub settled_of_four-low-requires : goal.settled_of_four-low-requires
settled_of_four-low-requires c = inside-first _ _ c.requires

pub returns-then-c-eq0 : goal.returns-then-c-eq0
returns-then-c-eq0 c = bytes-none 4 4 _ _ (λ j l. kept-none _ _ _ (byte_none c.args.c 4 j c.if-c-eq0.true)) c.settled_of_four-low.ensures

pub settled_of_four-requires : goal.settled_of_four-requires
settled_of_four-requires c = inside-last _ _ c.requires

pub returns : goal.returns
returns c =
    bytes-more 4 4 _ _ _ _ (omega arith) (λ j l. ap (kept_of (globals_of c.args.notes.now) c.args.highest.0) (byte_further c.args.c 4 j))
    c.settled_of_four-low.ensures c.settled_of_four.ensures
