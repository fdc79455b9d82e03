-- The left one, or the middle one.
use mathlib.Core.Path.{refl}
use native.Mathlib.Omega.{arith}
use Rattle.operators.proofs.part_of.Goals as goal

pub returns-then-left : goal.returns-then-left
returns-then-left c = rw c.if-left.true (record { from = refl; to = refl; up = omega arith; within = omega (arith, c.requires) })

pub returns-else-left : goal.returns-else-left
returns-else-left c = rw c.if-left.false (record { from = refl; to = refl; up = omega (arith, c.requires); within = omega arith })
