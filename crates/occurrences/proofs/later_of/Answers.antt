-- By the two cases.
use Rattle.occurrences.specs.Steps.{later_of}
use Rattle.std.proofs.Common.{sym, ◌∙◌}
use Rattle.timestamps.proofs.Notes.{tick_noted}
use Rattle.occurrences.proofs.later_of.Goals as goal

pub returns-then-earlier : goal.returns-then-earlier
unfolding later_of
returns-then-earlier c = rw (tick_noted c.args.notes.now c.args.i, tick_noted c.args.notes.now c.args.j, sym c.earlier.ensures ∙ c.if-earlier.true)

pub returns-else-earlier : goal.returns-else-earlier
unfolding later_of
returns-else-earlier c = rw (tick_noted c.args.notes.now c.args.i, tick_noted c.args.notes.now c.args.j, sym c.earlier.ensures ∙ c.if-earlier.false)
