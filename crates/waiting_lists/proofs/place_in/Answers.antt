-- The four bits of that place.
use borrow.Author.Rules.{rules}
use Rattle.waiting_lists.specs.Lists.{place_in}
use Rattle.waiting_lists.proofs.place_in.Goals as goal

pub returns : goal.returns
unfolding place_in
returns c = search rules
