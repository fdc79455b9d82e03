-- The union of the events, and the join of the stamps.
use Rattle.event_sets.specs.Sets.{union_of}
use Rattle.occurrences.proofs.Joins.{combined_stands}
use Rattle.std.proofs.Common.{◌∙◌, ap₂}
use Rattle.occurrences.proofs.combined.Goals as goal

pub joined-requires : goal.joined-requires
joined-requires c = c.requires

pub returns : goal.returns
returns c =
    λ n x y p q. combined_stands n x y _ _ p q _ _ (c.joined.ensures n p.sound.names q.sound.names)
    (c.union-events.ensures ∙ ap₂ union_of c.events_of.ensures c.events_of-2.ensures)
