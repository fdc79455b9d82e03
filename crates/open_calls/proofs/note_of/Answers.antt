-- The sum has room.
use Rattle.open_calls.proofs.Notes.{note_room}
use borrow.Author.Rules.{rules}
use Rattle.open_calls.proofs.note_of.Goals as goal

pub overflow_add-result : goal.overflow_add-result
overflow_add-result c = let h = note_room _ c.requires in search rules
