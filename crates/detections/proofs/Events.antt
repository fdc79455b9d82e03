-- The events, bit by bit: the elements of a set are the bits of its two words, and each turn takes the lowest bit that is left.
use mathlib.Core.Path.{◌≡◌, refl, sym, ap, ◌∙◌}
use mathlib.Core.Bool.{Bool}
use mathlib.Core.List.{List, [], ◌∷◌, ◌++◌, append_assoc}
use mathlib.Core.Logic.{⊎_elim}
use Prim.Native.Nat.{ℕ, zero, suc, ◌+◌, ◌-◌, ◌*◌, ◌/◌, ◌%◌, ◌^◌, ◌≤◌, ◌<◌}
use native.Mathlib.Decide.{dec_lt}
use native.Mathlib.Nat.{add-zero, div-one, sub-zero}
use native.Mathlib.Omega.{arith}
use borrow.Author.Tests.{eq-eqb, ne_eqb}
use lib.Bits.{bit_and}
use lib.Count.{count_trailing_zeros}
use lib.ListN.{length, length-append}
use lib.Pow.{shr_lt, shr-shr}
use Rattle.sequences.specs.Range.{numbers_from}
use Rattle.sequences.specs.Select.{filter}
use Rattle.sequences.proofs.Booleans.{either_way}
use Rattle.sequences.proofs.Range.{range_none, range_next, range_split}
use Rattle.sequences.proofs.Select.{filter_nil, filter_yes, filter_no, filter-append}
use Rattle.event_sets.specs.declared.EventSet.{EventSet}
use Rattle.event_sets.specs.Sets.{elements, has, is_set}
use Rattle.event_sets.proofs.Members.{has-low, has-high}
use Rattle.event_sets.proofs.Words.{rest_even, rest_odd}
use Rattle.forms.specs.Bytes.{big_endian}
use Rattle.forms.specs.Forms.{number, each}
use Rattle.detections.specs.Steps.{bits_from}

-- ---- bits
bits_odd : (d first n : ℕ) → n % 2 ≡ 1 → bits_from (suc d) first n ≡ first ∷ bits_from d (first + 1) (n / 2)
unfolding bits_from
bits_odd d first n e = rw (eq-eqb (n % 2) 1 e)

bits_even : (d first n : ℕ) → n % 2 ≡ 0 → bits_from (suc d) first n ≡ bits_from d (first + 1) (n / 2)
unfolding bits_from
bits_even d first n e = rw (ne_eqb (n % 2) 1 (λ o. omega arith))

-- a test that goes by the bits of a word, from the number base on
module _ (p : ℕ → Bool) (word base : ℕ) (agree : (j : ℕ) → base ≤ j → j < base + 64 → p j ≡ is_set word (j - base)) where
  filter_bits : (d k : ℕ) → base ≤ k → k + d ≤ base + 64 → filter p (numbers_from k d) ≡ bits_from d k (word / 2 ^ (k - base))
  unfolding bits_from is_set
  filter_bits zero k h l = rw (range_none k, filter_nil p)
  filter_bits (suc d) k h l =
      let a : k + 1 - base ≡ k - base + 1 = omega arith in
      let half : word / 2 ^ (k - base) / 2 ≡ word / 2 ^ (k + 1 - base) = shr-shr word (k - base) 1 ∙ ap (λ n. word / 2 ^ n) (sym a) in
      let rest = filter_bits d (k + 1) (omega arith) (omega arith) in
      let same = agree k h (omega arith) in
      ⊎_elim
      (λ y. rw (range_next k d, filter_yes p k (numbers_from (k + 1) d) y, sym same ∙ y, half, rest))
      (λ n. rw (range_next k d, filter_no p k (numbers_from (k + 1) d) n, sym same ∙ n, half, rest))
      (either_way (p k))

pub elements_bits : (s : EventSet) → elements s ≡ bits_from 64 0 s.low ++ bits_from 64 64 s.high
unfolding elements
elements_bits s =
    let low : filter (has s) (numbers_from 0 64) ≡ bits_from 64 0 (s.low / 1) = filter_bits (has s) s.low 0 (λ j h l. rw sub-zero (has-low s j l)) 64 0 (omega arith) (omega arith) in
    let high : filter (has s) (numbers_from 64 64) ≡ bits_from 64 64 (s.high / 1) = filter_bits (has s) s.high 64 (has-high s) 64 64 (omega arith) (omega arith) in
    rw (range_split 0 64 64, filter-append (has s) (numbers_from 0 64) (numbers_from 64 64), low, high, div-one s.low, div-one s.high)

-- ---- a word without its lowest bit
bits_twice : (d first n : ℕ) → bits_from (suc d) first (n * 2) ≡ bits_from d (first + 1) n
bits_twice d first n =
    let h : n * 2 / 2 ≡ n = omega arith in
    bits_even d first (n * 2) (omega arith) ∙ rw h

bits_next : (d first n : ℕ) → 0 < n → n < 2 ^ d → bits_from d first n ≡ (first + count_trailing_zeros d n) ∷ bits_from d first (bit_and n (n - 1))
unfolding count_trailing_zeros
bits_next zero first n p h = absurd (omega arith)
bits_next (suc d) first n p h =
    let b : suc d ≡ d + 1 = omega arith in
    elim (dec_lt (n % 2) 1) [
      | yes k ↦ let e : n % 2 ≡ 0 = omega arith in
          let m : first + 1 + count_trailing_zeros d (n / 2) ≡ first + suc (count_trailing_zeros d (n / 2)) = omega arith in
          bits_even d first n e ∙ bits_next d (first + 1) (n / 2) (omega arith) (shr_lt d 1 (rw b at h))
          ∙ rw (rest_even n e, e, m, bits_twice d first (bit_and (n / 2) (n / 2 - 1)))
      | no k ↦ let o : n % 2 ≡ 1 = omega arith in
          bits_odd d first n o ∙ rw (rest_odd n o, o, bits_twice d first (n / 2)) (ap (λ k. k ∷ bits_from d (first + 1) (n / 2)) (sym (add-zero first)))
    ]

-- ---- the loop over a word's bits, by their bytes
module _ (first rest : ℕ) where
  pub bits_turn : 0 < rest → rest < 2 ^ 64
      → each (number 2) (bits_from 64 first rest) ≡ big_endian 2 (first + count_trailing_zeros 64 rest) ++ each (number 2) (bits_from 64 first (bit_and rest (rest - 1)))
  unfolding each
  bits_turn p h = ap (each (number 2)) (bits_next 64 first rest p h)

no_bits : (d first : ℕ) → bits_from d first 0 ≡ []
unfolding bits_from
no_bits zero first = refl
no_bits (suc d) first = bits_even d first 0 refl ∙ no_bits d (first + 1)

pub bits_end : (first rest : ℕ) → rest ≤ 0 → each (number 2) (bits_from 64 first rest) ≡ []
unfolding each
bits_end first rest h =
    let z : rest ≡ 0 = omega arith in
    rw z (ap (each (number 2)) (no_bits 64 first))

-- ---- the bytes of all events: those of the low word, and then those of the high word
each_append : (l m : List ℕ) → each (number 2) (l ++ m) ≡ each (number 2) l ++ each (number 2) m
unfolding each
each_append [] m = refl
each_append (a ∷ l) m = rw (each_append l m) (sym (append_assoc (big_endian 2 a) (each (number 2) l) (each (number 2) m)))

pub events_parts : (s : EventSet) → each (number 2) (elements s) ≡ each (number 2) (bits_from 64 0 s.low) ++ each (number 2) (bits_from 64 64 s.high)
events_parts s = ap (each (number 2)) (elements_bits s) ∙ each_append (bits_from 64 0 s.low) (bits_from 64 64 s.high)

pub low-room : (s : EventSet) (at room : ℕ) → at + length (each (number 2) (elements s)) ≤ room → at + length (each (number 2) (bits_from 64 0 s.low)) ≤ room
low-room s at room h = omega (arith, ap length (events_parts s), length-append (each (number 2) (bits_from 64 0 s.low)) (each (number 2) (bits_from 64 64 s.high)))
