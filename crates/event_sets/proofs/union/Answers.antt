-- `union` meets its contract.
use mathlib.Core.Path.{refl}
use Rattle.event_sets.specs.Sets.{union_of}
use Rattle.event_sets.proofs.union.Goals as goal

pub returns : goal.returns
unfolding union_of
returns c = refl
