-- The number of elements is the number of bits that are set in both words.
use mathlib.Core.Path.{◌≡◌, sym, ap, ◌∙◌}
use mathlib.Core.Bool.{Bool}
use mathlib.Core.Logic.{⊎_elim}
use Prim.Native.Nat.{ℕ, zero, suc, ◌+◌, ◌-◌, ◌/◌, ◌%◌, ◌^◌, ◌≤◌, ◌<◌}
use native.Mathlib.Nat.{div-one, sub-zero}
use native.Mathlib.Omega.{arith}
use lib.Count.{ones, ones_step, ones-le}
use lib.ListN.{length, length-append}
use lib.Pow.{shr-shr, shr_lt}
use Rattle.sequences.specs.Range.{numbers_from}
use Rattle.sequences.specs.Select.{filter}
use Rattle.sequences.proofs.Booleans.{either_way}
use Rattle.sequences.proofs.Range.{range_none, range_next, range_split}
use Rattle.sequences.proofs.Select.{filter_nil, filter_yes, filter_no, filter-append}
use Rattle.event_sets.specs.declared.EventSet.{EventSet}
use Rattle.event_sets.specs.Sets.{WordsFit, is_set, has, elements, size_of}
use Rattle.event_sets.proofs.Members.{has-low, has-high}
use Rattle.event_sets.proofs.Words.{bit_one, bit_zero}

-- a test that goes by the bits of a word, from the number base on
module _ (p : ℕ → Bool) (word base : ℕ) (agree : (j : ℕ) → base ≤ j → j < base + 64 → p j ≡ is_set word (j - base)) where
  pub length_ones : (d k : ℕ) → base ≤ k → k + d ≤ base + 64 → word / 2 ^ (k - base) < 2 ^ d
      → length (filter p (numbers_from k d)) ≡ ones (word / 2 ^ (k - base))
  length_ones zero k h l f = rw (range_none k, filter_nil p) (omega (arith, ones-le 0 (word / 2 ^ (k - base)) f))
  length_ones (suc d) k h l f =
      let a : k + 1 - base ≡ k - base + 1 = omega arith in
      let half : word / 2 ^ (k - base) / 2 ≡ word / 2 ^ (k + 1 - base) = shr-shr word (k - base) 1 ∙ ap (λ n. word / 2 ^ n) (sym a) in
      let b : suc d ≡ d + 1 = omega arith in
      let fits : word / 2 ^ (k + 1 - base) < 2 ^ d = rw half at (shr_lt d 1 (rw b at f)) in
      let rest : length (filter p (numbers_from (k + 1) d)) ≡ ones (word / 2 ^ (k + 1 - base)) = length_ones d (k + 1) (omega arith) (omega arith) fits in
      let all : ones (word / 2 ^ (k - base)) ≡ word / 2 ^ (k - base) % 2 + ones (word / 2 ^ (k + 1 - base)) =
      ones_step (word / 2 ^ (k - base)) ∙ ap (λ n. word / 2 ^ (k - base) % 2 + ones n) half in
      let same = agree k h (omega arith) in
      ⊎_elim
      (λ y. rw (range_next k d, filter_yes p k (numbers_from (k + 1) d) y) (omega (arith, all, rest, bit_one word (k - base) (sym same ∙ y))))
      (λ n. rw (range_next k d, filter_no p k (numbers_from (k + 1) d) n) (omega (arith, all, rest, bit_zero word (k - base) (sym same ∙ n))))
      (either_way (p k))

pub size_ones : (s : EventSet) → WordsFit s → ones s.low + ones s.high ≡ size_of s
unfolding size_of elements
size_ones s f =
    let low : length (filter (has s) (numbers_from 0 64)) ≡ ones (s.low / 1) =
    length_ones (has s) s.low 0 (λ j h l. rw sub-zero (has-low s j l)) 64 0 (omega arith) (omega arith) (rw div-one f.low) in
    let high : length (filter (has s) (numbers_from 64 64)) ≡ ones (s.high / 1) =
    length_ones (has s) s.high 64 (has-high s) 64 64 (omega arith) (omega arith) (rw div-one f.high) in
    rw (range_split 0 64 64, filter-append (has s) (numbers_from 0 64) (numbers_from 64 64), length-append, low, high, div-one s.low, div-one s.high)
