-- The earlier of the two, and the later.
use Rattle.comparisons.specs.Notes.{widened_by}
use Rattle.comparisons.proofs.Span.widened.Goals as goal

pub returns : goal.returns
unfolding widened_by
returns c = λ i. record { lowest = record { 0 = c.earliest.ensures i }; highest = record { 0 = c.latest.ensures i } }
