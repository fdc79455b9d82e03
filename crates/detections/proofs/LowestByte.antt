-- The lowest byte of a number that is not 0: its place by the trailing zeros, and the number without it.
use mathlib.Core.List.{List}
use mathlib.Core.Path.{◌≡◌, sym, ap, ◌∙◌}
use Prim.Native.Nat.{ℕ, zero, suc, ◌+◌, ◌-◌, ◌*◌, ◌/◌, ◌%◌, ◌^◌, ◌≤◌, ◌<◌}
use native.Mathlib.Decide.{dec_lt}
use native.Mathlib.Nat.{div-one, mul_assoc, mul-le-mul_right, zero-add, suc-add}
use native.Mathlib.Omega.{arith}
use lib.Count.{count_trailing_zeros}
use lib.ListN.{length}
use lib.Pow.{field, mod-mod-pow, mod-pow-add, pow-add, pow_pos, shl_exact, shr_lt, shr-shr, split}
use Rattle.occurrences.specs.Packed.{byte_at}
use Rattle.occurrences.specs.Steps.{Inside}

-- ---- the zeros of a number and of what lies above its lowest e bits
zeros_above : (e d n : ℕ) → n % 2 ^ e ≡ 0 → count_trailing_zeros (e + d) n ≡ e + count_trailing_zeros d (n / 2 ^ e)
unfolding count_trailing_zeros
zeros_above zero d n h = rw (zero-add d, div-one n) (sym (zero-add (count_trailing_zeros d n)))
zeros_above (suc e) d n h =
    let a : suc e ≡ e + 1 = omega arith in
    let z : n % 2 ^ (e + 1) ≡ 0 = ap (λ k. n % 2 ^ k) (sym a) ∙ h in
    let even : n % 2 ≡ 0 = omega (arith, z, mod-mod-pow n e 1) in
    let half : n / 2 % 2 ^ e ≡ 0 = omega (arith, z, field n e 1) in
    let b : 1 + e ≡ suc e = omega arith in
    let deep : n / 2 / 2 ^ e ≡ n / 2 ^ suc e = shr-shr n 1 e ∙ ap (λ k. n / 2 ^ k) b in
    rw (suc-add e d, even, zeros_above e d (n / 2) half, deep) (omega arith)

zeros_within : (e d n : ℕ) → 0 < n % 2 ^ e → count_trailing_zeros (e + d) n < e
unfolding count_trailing_zeros
zeros_within zero d n h = absurd (omega arith)
zeros_within (suc e) d n h =
    let a : suc e ≡ e + 1 = omega arith in
    let s : 0 < n / 2 % 2 ^ e * 2 + n % 2 = omega (arith, h, ap (λ k. n % 2 ^ k) a, mod-pow-add n e 1) in
    elim (dec_lt (n % 2) 1) [
      | yes k ↦ let even : n % 2 ≡ 0 = omega arith in
          rw (suc-add e d, even) (omega (arith, zeros_within e d (n / 2) (omega arith)))
      | no k ↦ let odd : n % 2 ≡ 1 = omega arith in
          rw (suc-add e d, odd) (omega arith)
    ]

-- ---- the byte at place j, and the number without it
abbrev pub byte_of : ℕ → ℕ → ℕ
byte_of n j = n / 2 ^ (8 * j) % 256

abbrev pub without : ℕ → ℕ → ℕ
without n j = n - byte_of n j * 2 ^ (8 * j)

-- there is as much to take away
byte_within : (n j : ℕ) → byte_of n j * 2 ^ (8 * j) ≤ n
byte_within n j =
    let m : byte_of n j * 2 ^ (8 * j) ≤ n / 2 ^ (8 * j) * 2 ^ (8 * j) = mul-le-mul_right (2 ^ (8 * j)) (omega arith) in
    omega (arith, m, split n (8 * j))

without_less : (n j : ℕ) → 0 < byte_of n j → without n j < n
without_less n j h =
    let m : 1 * 2 ^ (8 * j) ≤ byte_of n j * 2 ^ (8 * j) = mul-le-mul_right (2 ^ (8 * j)) h in
    omega (arith, m, byte_within n j, pow_pos (8 * j))

-- one place further up
module _ (n i : ℕ) where
  pub byte_up : byte_of n (suc i) ≡ byte_of (n / 256) i
  byte_up =
      let a : 8 + 8 * i ≡ 8 * suc i = omega arith in
      ap (λ m. m % 256) (ap (λ k. n / 2 ^ k) (sym a) ∙ sym (shr-shr n 8 (8 * i)))

  pub without_up : n % 256 ≡ 0 → without n (suc i) ≡ without (n / 256) i * 256
  without_up e =
      let a : 8 * i + 8 ≡ 8 * suc i = omega arith in
      let p : 2 ^ (8 * suc i) ≡ 2 ^ (8 * i) * 256 = ap (λ k. 2 ^ k) (sym a) ∙ pow-add 2 (8 * i) 8 in
      let m : byte_of n (suc i) * 2 ^ (8 * suc i) ≡ byte_of (n / 256) i * 2 ^ (8 * i) * 256 = rw (byte_up, p) (sym (mul_assoc (byte_of (n / 256) i) (2 ^ (8 * i)) 256)) in
      omega (arith, m)

pub without_first : (n : ℕ) → without n 0 ≡ n / 256 * 256
without_first n = rw div-one (omega arith)

-- where no byte of m is more than the one of n that lies one place up, none of m * 256 is more than that of n
bytes_up : (m n : ℕ) → ((k : ℕ) → byte_of m k ≤ byte_of (n / 256) k) → (k : ℕ) → byte_of (m * 256) k ≤ byte_of n k
bytes_up m n h zero = rw (div-one (m * 256)) (omega arith)
bytes_up m n h (suc k) =
    let e : m * 256 / 256 ≡ m = omega arith in
    rw (byte_up (m * 256) k, byte_up n k, e) (h k)

-- ---- its place, where d bytes hold the number: what holds of the lowest byte, and of a place where it holds one further down, holds there
module _ (P : ℕ → ℕ → ℕ → Type 0) (first : (d n : ℕ) → 0 < n % 256 → P (suc d) n 0) (later : (d n i : ℕ) → n % 256 ≡ 0 → P d (n / 256) i → P (suc d) n (suc i)) where
  pub lowest_byte : (d n : ℕ) → 0 < n → n < 2 ^ (8 * d) → P d n (count_trailing_zeros (8 * d) n / 8)
  lowest_byte zero n p h = absurd (omega arith)
  lowest_byte (suc d) n p h =
      let a : 8 * suc d ≡ 8 + 8 * d = omega arith in
      let b : 8 * suc d ≡ 8 * d + 8 = omega arith in
      elim (dec_lt (n % 256) 1) [
        | yes k ↦ let e : n % 256 ≡ 0 = omega arith in
            let t : count_trailing_zeros (8 * suc d) n / 8 ≡ suc (count_trailing_zeros (8 * d) (n / 256) / 8) = omega (arith, ap (λ m. count_trailing_zeros m n) a, zeros_above 8 (8 * d) n e) in
            rw t (later d n (count_trailing_zeros (8 * d) (n / 256) / 8) e (lowest_byte d (n / 256) (omega arith) (shr_lt (8 * d) 8 (rw b at h))))
        | no k ↦ let t : count_trailing_zeros (8 * suc d) n / 8 ≡ 0 = omega (arith, ap (λ m. count_trailing_zeros m n) a, zeros_within 8 (8 * d) n (omega arith)) in
            rw t (first d n (omega arith))
      ]

-- ---- the same of a word, as the code has it
module _ (n : ℕ) (p : 0 < n) (h : n < 2 ^ 64) where
  abbrev pub lowest_place : ℕ
  lowest_place = count_trailing_zeros 64 n / 8

  pub lowest-place : lowest_place < 8
  lowest-place = lowest_byte (λ d m j. j < d) (λ d m l. omega arith) (λ d m i e l. omega (arith, l)) 8 n p h

  lowest-some : 0 < byte_of n lowest_place
  lowest-some = lowest_byte (λ d m j. 0 < byte_of m j) (λ d m l. rw div-one l) (λ d m i e l. rw (byte_up m i) l) 8 n p h

  -- the byte where it stands
  abbrev pub lowest : ℕ
  lowest = byte_of n lowest_place * 2 ^ (8 * lowest_place) % 2 ^ 64

  lowest-is : lowest ≡ byte_of n lowest_place * 2 ^ (8 * lowest_place)
  lowest-is = shl_exact 8 (8 * lowest_place) 64 (omega arith) (omega (arith, lowest-place))

  pub lowest-within : lowest ≤ n
  lowest-within = omega (arith, lowest-is, byte_within n lowest_place)

  pub lowest_without : n - lowest ≡ without n lowest_place
  lowest_without = ap (λ m. n - m) lowest-is

  pub lowest-fewer : n - lowest < n
  lowest-fewer = omega (arith, lowest_without, without_less n lowest_place lowest-some)

  -- each other byte stays, so what the bytes name stays in a table
  lowest-bytes : (k : ℕ) → byte_of (n - lowest) k ≤ byte_of n k
  lowest-bytes k =
      rw lowest_without
      (lowest_byte (λ d m j. (k : ℕ) → byte_of (without m j) k ≤ byte_of m k)
      (λ d m l k. rw (without_first m) (bytes_up (m / 256) m (λ i. omega arith) k))
      (λ d m i e l k. rw (without_up m i e) (bytes_up (without (m / 256) i) m l k))
      8 n p h k)

  module _ {A : Type 0} (table : List A) (inside : Inside 8 table n) where
    pub lowest_named : byte_of n lowest_place < length table
    unfolding byte_at
    lowest_named = inside lowest_place lowest-place

    pub lowest-inside : Inside 8 table (n - lowest)
    unfolding byte_at
    lowest-inside k l = omega (arith, inside k l, lowest-bytes k)
