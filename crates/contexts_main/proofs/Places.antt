-- One of 16 places, whatever the order.
use Prim.Native.Nat.{ℕ, ◌+◌, ◌<◌}
use mathlib.Core.Path.{◌≡◌}
use native.Mathlib.Omega.{arith}
use Rattle.waiting_lists.specs.Lists.{place_in}

pub place_in_row : (order i place : ℕ) → place ≡ place_in order i + 1 → place < 17
unfolding place_in
place_in_row order i place e = omega (arith, e)
