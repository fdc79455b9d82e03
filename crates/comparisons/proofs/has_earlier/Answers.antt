-- By its note, then the note of its logger, then the global ticks.
use Rattle.std.proofs.Common.{sym, ◌∙◌, eq-eqb, ne_eqb}
use Rattle.comparisons.specs.Notes.{has_earlier}
use Rattle.comparisons.proofs.has_earlier.Goals as goal

pub returns-then-note-eq0 : goal.returns-then-note-eq0
unfolding has_earlier
returns-then-note-eq0 c = rw (eq-eqb _ _ c.if-note-eq0.true)

pub returns-then-is_earlier : goal.returns-then-is_earlier
unfolding has_earlier
returns-then-is_earlier c = rw (ne_eqb _ _ c.if-note-eq0.false, sym c.is_earlier.ensures ∙ c.if-is_earlier.true) c.if-is_earlier.true

pub returns-else-is_earlier : goal.returns-else-is_earlier
unfolding has_earlier
returns-else-is_earlier c =
    simp (ne_eqb _ _ c.if-note-eq0.false, sym c.is_earlier.ensures ∙ c.if-is_earlier.false, c.clearly_earlier.ensures, c.global.ensures)
