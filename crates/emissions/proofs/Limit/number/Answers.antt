-- Case by case.
use denote.Enum.Declared.{tag_of}
use mathlib.Core.Path.{◌≡◌, refl}
use Prim.Native.Nat.{◌+◌}
use Rattle.emissions.specs.declared.Limit.{Limit}
use Rattle.emissions.specs.declared.Limit.TheVariants.{ListFull, NodeFull, OutputFull}
use Rattle.emissions.specs.contracts.Limit as limit
use Rattle.emissions.specs.Emissions.{number_of}
use Rattle.emissions.proofs.Limit.number.Goals as goal

numbered : (l : Limit) → tag_of limit.the_type l + 31 ≡ number_of l
unfolding number_of
numbered ListFull = refl
numbered NodeFull = refl
numbered OutputFull = refl

pub returns : goal.returns
returns c = numbered c.args.self
