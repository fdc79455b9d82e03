-- What is left of a loop that makes findings, from the state so far.
use mathlib.Core.List.{List}
use mathlib.Core.Path.{◌≡◌}
use Prim.Native.Nat.{ℕ}
use Rattle.occurrences.specs.Packed.{Notes}
use Rattle.std.specs.Prelude.{None}
use Rattle.emissions.specs.declared.Made.{Made}
use Rattle.emissions.specs.Emissions.{Emits, Emitting}

-- what the code keeps stands for what was made so far, without a limit, and what is left of it, `rest`, comes to the whole
pub record Left {ticks globals : List ℕ} (t : Notes ticks globals) (made : Made) (out : List ℕ) (rest : Emitting → Emitting) (whole : Emitting) : Type 0 where
  pub so_far : Emitting
  pub emits : Emits t None made out so_far
  pub same : rest so_far ≡ whole
