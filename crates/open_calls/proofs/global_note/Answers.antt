-- It is no larger than the local tick.
use Rattle.open_calls.proofs.Notes.{global-room, global_told}
use borrow.Author.Rules.{rules}
use Rattle.open_calls.proofs.global_note.Goals as goal

pub overflow_add-result : goal.overflow_add-result
overflow_add-result c = let h = global-room _ _ _ c.requires c.global.ensures in search rules

pub returns : goal.returns
returns c = global_told _ _ _ c.global.ensures
