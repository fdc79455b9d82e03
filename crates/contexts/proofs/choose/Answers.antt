-- The row, what it takes, and what it removes.
use Rattle.contexts.specs.Choice.{chosen, removed_of}
use Rattle.waiting_lists.specs.Marks.{marks_of}
use Rattle.std.proofs.Common.{ap, ◌∙◌}
use Rattle.contexts.proofs.choose.Goals as goal

pub returns : goal.returns
unfolding chosen
returns c = λ t l h.
    let taken = c.taken_by-taken.ensures t l h in
    rw (← c.row_of-row.ensures) (taken, c.removed_by-removed.ensures ∙ ap (removed_of c.row_of-row.result.removes (marks_of c.args.candidates)) taken)
