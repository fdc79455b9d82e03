-- One byte.
use Rattle.occurrences.proofs.FileEvents.{event-stands}
use Rattle.occurrences.proofs.of_event.Goals as goal

pub returns : goal.returns
returns c = λ ticks globals t within own. event-stands c.args.logger c.args.number _ _ c.none.ensures c.marked-events.ensures c.requires.0 c.requires.1 ticks globals t within own
