-- By the rule.
use Rattle.contexts.proofs.Steps.{removed_untaken, removed-taken, removed_all}
use Rattle.contexts.proofs.removed_by.Goals as goal

pub returns-in-Untaken : goal.returns-in-Untaken
returns-in-Untaken c = rw c.in-Untaken.is (removed_untaken c.args.candidates c.args.taken)

pub returns-in-Taken : goal.returns-in-Taken
returns-in-Taken c = rw c.in-Taken.is (removed-taken c.args.candidates c.args.taken)

pub returns-in-All : goal.returns-in-All
returns-in-All c = rw c.in-All.is (removed_all c.args.candidates c.args.taken)
