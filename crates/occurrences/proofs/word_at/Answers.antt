-- The tick of the event that the byte names.
use Rattle.timestamps.specs.Notes.{ticks_of}
use Rattle.occurrences.proofs.Bytes.{word_of}
use Rattle.timestamps.proofs.Notes.{tick_noted}
use Rattle.std.proofs.Common.{get_or, sym, ap, ◌∙◌}
use Rattle.occurrences.proofs.word_at.Goals as goal

pub returns : goal.returns
returns c =
    sym (tick_noted c.args.notes.now _) ∙ ap (λ n. get_or (ticks_of c.args.notes.now) n 0) c.event_at.ensures.0 ∙ sym (word_of (ticks_of c.args.notes.now) c.args.o.now _ c.requires.0)
