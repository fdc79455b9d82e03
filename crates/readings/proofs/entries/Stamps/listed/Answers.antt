-- `readings::entries::Stamps::listed`: the slots in front, as many as are counted.
use mathlib.Core.Path.{refl}
use Rattle.readings.proofs.entries.Stamps.listed.Goals as goal

pub returns-clause-is : goal.returns-clause-is
returns-clause-is c = refl
