-- The replies, then the word.
use Rattle.comparisons.specs.Notes.{relation_noted}
use Rattle.comparisons.proofs.relation_of.Goals as goal

pub returns : goal.returns
unfolding relation_noted
returns c = simp (c.order_of.ensures, c.relate-r.ensures)
