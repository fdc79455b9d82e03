-- The decimal digits of a number.
use mathlib.Core.Path.{◌≡◌, sym}
use mathlib.Core.List.{[], ◌∷◌, ◌++◌}
use Prim.Native.Nat.{ℕ, suc, ◌+◌, ◌/◌, ◌%◌, ◌^◌, ◌≤◌, ◌<◌}
use native.Mathlib.Omega.{arith}
use lib.ListN.{length}
use borrow.Author.Tests.{lt-ltb, le-ltb}
use Rattle.std.specs.Fmt as std
use Rattle.std.proofs.lemmas.Fmt.{decimal_from_appends, length-decimal-le}
use Rattle.listing.specs.Text.{decimal, decimal_of}

-- a number of 64 bits has at most 20
pub few_digits : (n : ℕ) → n < 2 ^ 64 → length (std.decimal n) ≤ 20
few_digits n h = length-decimal-le 20 n (omega arith) (omega (arith, h)) h

-- the last digit, behind those of the tenth
digit_only : (k n : ℕ) → n < 10 → decimal_of (suc k) n ≡ (48 + n) ∷ []
unfolding decimal_of
digit_only k n l = rw (lt-ltb n 10 l)

digit_last : (k n : ℕ) → 10 ≤ n → decimal_of (suc k) n ≡ decimal_of k (n / 10) ++ ((48 + n % 10) ∷ [])
unfolding decimal_of
digit_last k n l = rw (le-ltb n 10 l)

-- what std prints is the number's decimal text
pub decimal-is : (n : ℕ) → n < 2 ^ 64 → std.decimal n ≡ decimal n
decimal-is n h = sym (decimal_from_appends decimal_of (record { one = digit_only; more = digit_last }) 20 n h (few_digits n h))
