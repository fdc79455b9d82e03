-- The counts make the size.
use native.Mathlib.Omega.{arith}
use Rattle.detections.proofs.Sizes.{length-finding}
use Rattle.detections.proofs.size.Goals as goal

pub returns : goal.returns
returns c = λ f a b. omega (arith, length-finding f, a, b)
