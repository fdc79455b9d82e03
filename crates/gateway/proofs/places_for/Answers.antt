-- Sixteen each, or counted.
use Rattle.gateway.proofs.Seats.{sixteen}
use Rattle.gateway.proofs.places_for.Goals as goal

pub returns-then-count-ge64 : goal.returns-then-count-ge64
returns-then-count-ge64 c = sixteen _ _
