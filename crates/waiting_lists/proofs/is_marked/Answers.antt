-- The bit at that place.
use mathlib.Core.Path.{sym}
use borrow.Author.Rules.{rules}
use Rattle.event_sets.specs.Sets.{is_set}
use Rattle.waiting_lists.proofs.Marks.{marks_at}
use Rattle.waiting_lists.proofs.is_marked.Goals as goal

pub returns : goal.returns
unfolding is_set
returns c = let a = c.args in sym (marks_at a.marks a.i (search rules))
