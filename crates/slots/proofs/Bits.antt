-- The lowest bit of a word of d bits, and the word without it.
use mathlib.Core.Bool.{true, false}
use mathlib.Core.Path.{◌≡◌, sym, ap, ◌∙◌}
use Prim.Native.Nat.{ℕ, zero, suc, ◌+◌, ◌-◌, ◌/◌, ◌%◌, ◌^◌, ◌≤◌, ◌<◌}
use native.Mathlib.Decide.{dec_lt}
use native.Mathlib.Numerals.{add-one}
use native.Mathlib.Omega.{arith}
use lib.Bits.{bit_and}
use lib.Count.{count_trailing_zeros, trailing_le}
use lib.Pow.{shr_lt}
use Rattle.event_sets.specs.Sets.{is_set}
use Rattle.event_sets.proofs.Words.{rest_even, rest_odd, set_half, set_one, set_zero}

half_bit : (n j : ℕ) → is_set n (suc j) ≡ is_set (n / 2) j
half_bit n j = ap (is_set n) (sym (add-one j)) ∙ sym (set_half n j)

half_less : (d n : ℕ) → n < 2 ^ suc d → n / 2 < 2 ^ d
half_less d n h = let e : suc d ≡ d + 1 = omega arith in shr_lt d 1 (rw e at h)

module _ (d n : ℕ) where
  zeros_odd : n % 2 ≡ 1 → count_trailing_zeros (suc d) n ≡ 0
  unfolding count_trailing_zeros
  zeros_odd o = rw o

  zeros_even : n % 2 ≡ 0 → count_trailing_zeros (suc d) n ≡ suc (count_trailing_zeros d (n / 2))
  unfolding count_trailing_zeros
  zeros_even e = rw e

pub zeros_less : (d n : ℕ) → 0 < n → n < 2 ^ d → count_trailing_zeros d n < d
zeros_less zero n p h = absurd (omega arith)
zeros_less (suc d) n p h = elim (dec_lt (n % 2) 1) [
  | yes k ↦ omega (arith, zeros_even d n (omega arith), zeros_less d (n / 2) (omega arith) (half_less d n h))
  | no k ↦ omega (arith, zeros_odd d n (omega arith))
]

-- the bit after the zeros is set, and none of them is
pub lowest_set : (d n : ℕ) → count_trailing_zeros d n < d → is_set n (count_trailing_zeros d n) ≡ true
lowest_set zero n h = absurd (omega arith)
lowest_set (suc d) n h = elim (dec_lt (n % 2) 1) [
  | yes k ↦ (let e = zeros_even d n (omega arith) in rw e (half_bit n (count_trailing_zeros d (n / 2)) ∙ lowest_set d (n / 2) (omega (arith, e))))
  | no k ↦ rw (zeros_odd d n (omega arith)) (set_one n 0 (omega arith))
]

pub lowest-past : (d n j : ℕ) → j < count_trailing_zeros d n → is_set n j ≡ false
lowest-past zero n j h = absurd (omega (arith, trailing_le 0 n))
lowest-past (suc d) n j h = elim (dec_lt (n % 2) 1) [
  | yes k ↦ even j (omega arith) (omega (arith, zeros_even d n (omega arith))) (lowest-past d (n / 2))
  | no k ↦ absurd (omega (arith, zeros_odd d n (omega arith)))
]
  where
    even : (j : ℕ) → n % 2 ≡ 0 → j < suc (count_trailing_zeros d (n / 2)) → ((i : ℕ) → i < count_trailing_zeros d (n / 2) → is_set (n / 2) i ≡ false) → is_set n j ≡ false
    even zero e l later = set_zero n 0 (omega arith)
    even (suc i) e l later = half_bit n i ∙ later i (omega arith)

-- without its lowest bit a word has the later ones
abbrev rest : ℕ → ℕ
rest n = bit_and n (n - 1)

pub rest-is : (d n : ℕ) → 0 < n → n < 2 ^ d → (j : ℕ) → (j ≤ count_trailing_zeros d n → is_set (rest n) j ≡ false) × (count_trailing_zeros d n < j → is_set (rest n) j ≡ is_set n j)
rest-is zero n p h j = absurd (omega arith)
rest-is (suc d) n p h j = elim (dec_lt (n % 2) 1) [
  | yes k ↦ (let e : n % 2 ≡ 0 = omega arith in rw (zeros_even d n e) (even j e (rest-is d (n / 2) (omega arith) (half_less d n h))))
  | no k ↦ (let o : n % 2 ≡ 1 = omega arith in rw (zeros_odd d n o) (odd j o))
]
  where
    odd : (j : ℕ) → n % 2 ≡ 1 → (j ≤ 0 → is_set (rest n) j ≡ false) × (0 < j → is_set (rest n) j ≡ is_set n j)
    odd zero o = (λ l. set_zero (rest n) 0 (omega (arith, rest_odd n o)), λ l. absurd (omega arith))
    odd (suc i) o =
        let half : rest n / 2 ≡ n / 2 = omega (arith, rest_odd n o) in
        (λ l. absurd (omega arith), λ l. half_bit (rest n) i ∙ ap (λ (m : ℕ). is_set m i) half ∙ sym (half_bit n i))

    even : (j : ℕ) → n % 2 ≡ 0
        → ((i : ℕ) → (i ≤ count_trailing_zeros d (n / 2) → is_set (rest (n / 2)) i ≡ false) × (count_trailing_zeros d (n / 2) < i → is_set (rest (n / 2)) i ≡ is_set (n / 2) i))
        → (j ≤ suc (count_trailing_zeros d (n / 2)) → is_set (rest n) j ≡ false) × (suc (count_trailing_zeros d (n / 2)) < j → is_set (rest n) j ≡ is_set n j)
    even zero e later = (λ l. set_zero (rest n) 0 (omega (arith, rest_even n e)), λ l. absurd (omega arith))
    even (suc i) e later =
        let half : rest n / 2 ≡ rest (n / 2) = omega (arith, rest_even n e) in
        let same = half_bit (rest n) i ∙ ap (λ (m : ℕ). is_set m i) half in
        (λ l. same ∙ (later i).0 (omega arith), λ l. same ∙ (later i).1 (omega arith) ∙ sym (half_bit n i))
