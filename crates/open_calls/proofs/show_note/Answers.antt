-- By the two cases.
use Rattle.open_calls.specs.Notes.{shown_note}
use borrow.Author.Tests.{le-ltb, lt-ltb}
use Rattle.open_calls.proofs.show_note.Goals as goal

pub returns-then-note-gt0 : goal.returns-then-note-gt0
unfolding shown_note
returns-then-note-gt0 c = rw (lt-ltb _ _ c.if-note-gt0.true)

pub returns-else-note-gt0 : goal.returns-else-note-gt0
unfolding shown_note
returns-else-note-gt0 c = rw (le-ltb _ _ c.if-note-gt0.false) c.blank.ensures
