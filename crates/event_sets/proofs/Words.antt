-- The bits of a word.
use mathlib.Core.Path.{◌≡◌, sym, ap, ◌∙◌}
use mathlib.Core.Bool.{true, false, ◌||◌}
use mathlib.Core.Logic.{⊎_elim}
use Prim.Native.Nat.{ℕ, zero, suc, ◌+◌, ◌-◌, ◌*◌, ◌/◌, ◌%◌, ◌^◌, max, ◌≤◌, ◌<◌}
use native.Mathlib.Decide.{dec_lt}
use native.Mathlib.Nat.{div-eq_of_lt, one-mul}
use native.Mathlib.Omega.{arith}
use borrow.Author.Tests.{eq-eqb, ne_eqb, eqb-true, eqb-false}
use lib.Arith.{half_le}
use lib.Bits.{and_le_r, and_self, and_step, bit_and, bit_or, or_comm, or_shr, or_step, or_zero_l}
use lib.Dec.{eqb, lit<}
use lib.Pow.{pow-add, pow-lt, shl_exact, shl-shr, shr-shr, shr_lt}
use Rattle.sequences.proofs.Booleans.{either_way}
use Rattle.event_sets.specs.Sets.{is_set}

-- what the code's `1 << k` is
pub one_shl : (k : ℕ) → k < 64 → 1 * 2 ^ k % 2 ^ 64 ≡ 2 ^ k
one_shl k h = shl_exact 1 k 64 (lit< tt) (omega arith) ∙ one-mul (2 ^ k)

-- ---- one bit: 1 where it is set, else 0

abbrev bit : ℕ → ℕ → ℕ
bit x j = x / 2 ^ j % 2

pub bit_one : (x j : ℕ) → is_set x j ≡ true → bit x j ≡ 1
unfolding is_set
bit_one x j e = eqb-true (bit x j) 1 e

pub bit_zero : (x j : ℕ) → is_set x j ≡ false → bit x j ≡ 0
unfolding is_set
bit_zero x j e = let n = eqb-false (bit x j) 1 e in omega (arith, n)

pub set_one : (x j : ℕ) → bit x j ≡ 1 → is_set x j ≡ true
unfolding is_set
set_one x j e = eq-eqb (bit x j) 1 e

pub set_zero : (x j : ℕ) → bit x j ≡ 0 → is_set x j ≡ false
unfolding is_set
set_zero x j e = ne_eqb (bit x j) 1 (λ o. omega (arith, o))

-- no bit is set where the word has none
pub set_beyond : (x j : ℕ) → x < 2 ^ j → is_set x j ≡ false
set_beyond x j h = set_zero x j (rw (div-eq_of_lt h))

-- the bits after the lowest are those of the half
pub set_half : (x j : ℕ) → is_set (x / 2) j ≡ is_set x (j + 1)
unfolding is_set
set_half x j =
    let a : 1 + j ≡ j + 1 = omega arith in
    let e : x / 2 / 2 ^ j ≡ x / 2 ^ (j + 1) = shr-shr x 1 j ∙ ap (λ n. x / 2 ^ n) a in
    rw e

-- ---- a word with one bit set

bit_same : (i : ℕ) → bit (2 ^ i) i ≡ 1
bit_same i = let e : 2 ^ i / 2 ^ i ≡ 1 = rw one-mul at (shl-shr 1 i) in rw e

bit_below : (i j : ℕ) → j < i → bit (2 ^ i) j ≡ 0
bit_below i j h =
    let a : i ≡ i - j - 1 + 1 + j = omega arith in
    let b : 2 ^ (i - j - 1 + 1 + j) ≡ 2 ^ (i - j - 1 + 1) * 2 ^ j = pow-add 2 (i - j - 1 + 1) j in
    let d : 2 ^ (i - j - 1 + 1) ≡ 2 ^ (i - j - 1) * 2 = pow-add 2 (i - j - 1) 1 in
    let e : 2 ^ i / 2 ^ j ≡ 2 ^ (i - j - 1 + 1) = ap (λ n. 2 ^ n / 2 ^ j) a ∙ ap (λ n. n / 2 ^ j) b ∙ shl-shr (2 ^ (i - j - 1 + 1)) j in
    omega (arith, e, d)

pub set_power : (i j : ℕ) → is_set (2 ^ i) j ≡ eqb j i
set_power i j =
    elim (dec_lt j i) [
      | yes h ↦ set_zero (2 ^ i) j (bit_below i j h) ∙ sym (ne_eqb j i (λ e. omega (arith, e)))
      | no h ↦ elim (dec_lt i j) [
        | yes k ↦ set_beyond (2 ^ i) j (pow-lt k) ∙ sym (ne_eqb j i (λ e. omega (arith, e)))
        | no k ↦ let e : i ≡ j = omega arith in
            set_one (2 ^ i) j (rw e (bit_same j)) ∙ sym (eq-eqb j i (sym e))
      ]
    ]

-- ---- a word without its lowest bit

pub rest_odd : (n : ℕ) → n % 2 ≡ 1 → bit_and n (n - 1) ≡ n / 2 * 2
rest_odd n o =
    let h : (n - 1) / 2 ≡ n / 2 = omega arith in
    let z : (n - 1) % 2 ≡ 0 = omega arith in
    and_step n (n - 1) ∙ rw (h, z, o, and_self (n / 2)) (omega arith)

pub rest_even : (n : ℕ) → n % 2 ≡ 0 → bit_and n (n - 1) ≡ bit_and (n / 2) (n / 2 - 1) * 2
rest_even n e =
    let h : (n - 1) / 2 ≡ n / 2 - 1 = omega arith in
    and_step n (n - 1) ∙ rw (h, e) (omega arith)

pub rest_less : (n : ℕ) → 0 < n → bit_and n (n - 1) < n
rest_less n p = omega (arith, and_le_r n (n - 1))

-- ---- the union of two words

bit-bit_or : (x y j : ℕ) → bit (bit_or x y) j ≡ max (bit x j) (bit y j)
bit-bit_or x y j =
    let e : bit_or x y / 2 ^ j ≡ bit_or (x / 2 ^ j) (y / 2 ^ j) = or_shr x y j in
    omega (arith, e, or_step (x / 2 ^ j) (y / 2 ^ j))

pub set_or : (x y j : ℕ) → is_set (bit_or x y) j ≡ (is_set x j || is_set y j)
set_or x y j =
    ⊎_elim
    (λ a. rw a (set_one (bit_or x y) j (omega (arith, bit-bit_or x y j, bit_one x j a))))
    (λ a. rw a
    (⊎_elim
    (λ b. set_one (bit_or x y) j (omega (arith, bit-bit_or x y j, bit_one y j b)) ∙ sym b)
    (λ b. set_zero (bit_or x y) j (omega (arith, bit-bit_or x y j, bit_zero x j a, bit_zero y j b)) ∙ sym b)
    (either_way (is_set y j))))
    (either_way (is_set x j))

-- a word with the bit at place i set too
pub set_mark : (x i j : ℕ) → is_set (bit_or x (2 ^ i)) j ≡ (eqb j i || is_set x j)
set_mark x i j = ap (λ n. is_set n j) (or_comm x (2 ^ i)) ∙ set_or (2 ^ i) x j ∙ ap (λ b. b || is_set x j) (set_power i j)

or_assoc_in : (d x y z : ℕ) → x ≤ d → bit_or (bit_or x y) z ≡ bit_or x (bit_or y z)
or_assoc_in zero x y z h = let e : x ≡ 0 = omega arith in rw (e, or_zero_l y, or_zero_l (bit_or y z))
or_assoc_in (suc d) x y z h =
    let halves : bit_or (bit_or (x / 2) (y / 2)) (z / 2) ≡ bit_or (x / 2) (bit_or (y / 2) (z / 2)) = or_assoc_in d (x / 2) (y / 2) (z / 2) (half_le h) in
    let xy : bit_or x y / 2 ≡ bit_or (x / 2) (y / 2) = or_shr x y 1 in
    let yz : bit_or y z / 2 ≡ bit_or (y / 2) (z / 2) = or_shr y z 1 in
    let same : bit_or (bit_or x y / 2) (z / 2) ≡ bit_or (x / 2) (bit_or y z / 2) = rw (xy, yz) halves in
    omega (arith, same, or_step (bit_or x y) z, or_step x (bit_or y z), or_step x y, or_step y z, xy, yz)

pub or_assoc : (x y z : ℕ) → bit_or (bit_or x y) z ≡ bit_or x (bit_or y z)
or_assoc x y z = or_assoc_in x x y z (omega arith)

-- ---- a word is its bits

pub same_bits : (d x y : ℕ) → x < 2 ^ d → y < 2 ^ d → ((j : ℕ) → j < d → is_set x j ≡ is_set y j) → x ≡ y
same_bits zero x y h k e = omega arith
same_bits (suc d) x y h k e =
    let halves : x / 2 ≡ y / 2 = same_bits d (x / 2) (y / 2) (half_lt x h) (half_lt y k) (λ j l. set_half x j ∙ e (j + 1) (omega arith) ∙ sym (set_half y j)) in
    let lowest : x % 2 ≡ y % 2 = ⊎_elim
    (λ a. omega (arith, bit_one x 0 a, bit_one y 0 (sym (e 0 (omega arith)) ∙ a)))
    (λ a. omega (arith, bit_zero x 0 a, bit_zero y 0 (sym (e 0 (omega arith)) ∙ a)))
    (either_way (is_set x 0)) in
    omega arith
  where
    half_lt : (n : ℕ) → n < 2 ^ suc d → n / 2 < 2 ^ d
    half_lt n h = let a : suc d ≡ d + 1 = omega arith in shr_lt d 1 (rw a at h)
