-- By the two cases.
use Rattle.occurrences.specs.Steps.{kept_of}
use Rattle.timestamps.specs.Order.{clearly_earlier}
use Rattle.std.proofs.Common.{sym, ◌∙◌}
use Rattle.timestamps.proofs.Notes.{global_noted}
use Rattle.occurrences.proofs.kept.Goals as goal

pub returns-then-clearly_earlier : goal.returns-then-clearly_earlier
unfolding kept_of clearly_earlier
returns-then-clearly_earlier c = rw (global_noted c.args.notes.now c.args.i, sym c.clearly_earlier.ensures ∙ c.if-clearly_earlier.true)

pub returns-else-clearly_earlier : goal.returns-else-clearly_earlier
unfolding kept_of clearly_earlier
returns-else-clearly_earlier c = rw (global_noted c.args.notes.now c.args.i, sym c.clearly_earlier.ensures ∙ c.if-clearly_earlier.false)
