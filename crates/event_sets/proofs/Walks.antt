-- Walking the elements of a set in rising order: the next element from a number on, and what comes after it.
use mathlib.Core.Path.{◌≡◌, refl, sym, ap, ◌∙◌}
use mathlib.Core.Bool.{true, false}
use mathlib.Core.List.Memᴰ
use mathlib.Core.List.{List, [], ◌∷◌, ◌++◌}
use mathlib.Core.Logic.{◌↔◌, ⊎_elim}
use Prim.Native.Nat.{ℕ, zero, suc, ◌+◌, ◌-◌, ◌/◌, ◌%◌, ◌^◌, min, ◌≤◌, ◌<◌}
use native.Mathlib.Decide.{dec_lt}
use native.Mathlib.Nat.{suc-add}
use native.Mathlib.Omega.{arith}
use borrow.Author.Tests.{lt-ltb, le-ltb, le-leb, lt-leb, leb-true}
use lib.Count.{count_trailing_zeros, under}
use lib.Dec.{leb, ltb}
use lib.Pow.{shr-shr, shr_lt}
use Rattle.std.specs.Prelude.{Some, None, option_map}
use Rattle.std.specs.List.{slice_get}
use Rattle.sequences.specs.Choice.{pick}
use Rattle.sequences.specs.Members.{◌is_in◌}
use Rattle.sequences.specs.Range.{numbers_from, Rising}
use Rattle.sequences.specs.Select.{filter}
use Rattle.sequences.proofs.Booleans.{either_way, same_test}
use Rattle.sequences.proofs.Range.{range_none, range_next, range_split, range_of}
use Rattle.sequences.proofs.Select.{filter_nil, filter_yes, filter_no, filter-append, filter_in, filter_of, filter_all, filter_none, filter_same, filter-rising}
use Rattle.event_sets.specs.declared.EventSet.{EventSet}
use Rattle.event_sets.specs.Sets.{is_set, has, elements, elements_from, next_from, next_bit}
use Rattle.event_sets.proofs.Members.{has-low, has-high, has-below, elements-has, elements-below, elements-rising}
use Rattle.event_sets.proofs.Words.{bit_one, bit_zero, set_zero}

-- ---- the first of a list

first-in : {A : Type 0} (l : List A) {a : A} → slice_get l 0 ≡ Some a → a is_in l
first-in [] e = cc
first-in (b ∷ l) e = Memᴰ.head (cc)

first-none : {A : Type 0} (l : List A) → slice_get l 0 ≡ None → l ≡ []
first-none [] e = refl
first-none (b ∷ l) e = cc

first-least : (l : List ℕ) {a j : ℕ} → Rising l → slice_get l 0 ≡ Some a → j is_in l → a ≤ j
unfolding Rising
first-least [] r e m = cc
first-least (b ∷ l) {a} {j} r e m = let same : b ≡ a = cc in ⊎_elim (λ e. omega (arith, e)) (λ n. omega (arith, r.0 j n)) (Memᴰ.cases_cons m)

-- the first of two lists
first-append : {A : Type 0} (l m : List A) {a : A} → slice_get l 0 ≡ Some a → slice_get (l ++ m) 0 ≡ Some a
first-append [] m e = cc
first-append (b ∷ l) m e = e

first-append_none : {A : Type 0} (l m : List A) → slice_get l 0 ≡ None → slice_get (l ++ m) 0 ≡ slice_get m 0
first-append_none l m e = rw (first-none l e)

-- ---- the elements from a number on

-- by the numbers from there on
pub from-count : (s : EventSet) (n : ℕ) → n ≤ 128 → elements_from s n ≡ filter (has s) (numbers_from n (128 - n))
unfolding elements_from elements
from-count s n h =
    let a : 128 ≡ n + (128 - n) = omega arith in
    let z : 0 + n ≡ n = omega arith in
    let split : numbers_from 0 128 ≡ numbers_from 0 n ++ numbers_from n (128 - n) = ap (λ d. numbers_from 0 d) a ∙ range_split 0 n (128 - n) ∙ ap (λ k. numbers_from 0 n ++ numbers_from k (128 - n)) z in
    rw (
      split,
      filter-append (has s) (numbers_from 0 n) (numbers_from n (128 - n)),
      filter-append (leb n) (filter (has s) (numbers_from 0 n)) (filter (has s) (numbers_from n (128 - n))),
      filter_none (leb n) (filter (has s) (numbers_from 0 n)) (λ j m. lt-leb n j (omega (arith, range_of 0 n (filter_of (has s) (numbers_from 0 n) m).0))),
      filter_all (leb n) (filter (has s) (numbers_from n (128 - n))) (λ j m. le-leb n j (omega (arith, range_of n (128 - n) (filter_of (has s) (numbers_from n (128 - n)) m).0))),
    )

pub from_start : (s : EventSet) → elements_from s 0 ≡ elements s
unfolding elements_from
from_start s = filter_all (leb 0) (elements s) (λ j m. le-leb 0 j (omega arith))

pub from_end : (s : EventSet) (n : ℕ) → 128 ≤ n → elements_from s n ≡ []
unfolding elements_from
from_end s n h = filter_none (leb n) (elements s) (λ j m. lt-leb n j (omega (arith, elements-below s j m)))

pub from_yes : (s : EventSet) (n : ℕ) → n < 128 → has s n ≡ true → elements_from s n ≡ n ∷ elements_from s (n + 1)
from_yes s n h y =
    let a : 128 - n ≡ suc (128 - (n + 1)) = omega arith in
    rw (from-count s n (omega arith), from-count s (n + 1) (omega arith), a, range_next n (128 - (n + 1))) (filter_yes (has s) n (numbers_from (n + 1) (128 - (n + 1))) y)

pub from_no : (s : EventSet) (n : ℕ) → n < 128 → has s n ≡ false → elements_from s n ≡ elements_from s (n + 1)
from_no s n h y =
    let a : 128 - n ≡ suc (128 - (n + 1)) = omega arith in
    rw (from-count s n (omega arith), from-count s (n + 1) (omega arith), a, range_next n (128 - (n + 1))) (filter_no (has s) n (numbers_from (n + 1) (128 - (n + 1))) y)

-- ---- the next element

module _ (s : EventSet) (n : ℕ) {e : ℕ} (f : next_from s n ≡ Some e) where
  next-in : e is_in elements_from s n
  unfolding next_from
  next-in = first-in (elements_from s n) f

  -- the set has it
  pub next-has : has s e ≡ true
  unfolding elements_from
  next-has = (elements-has s e).0 (filter_of (leb n) (elements s) next-in).0

  pub next-most : e < 128
  next-most = has-below s e next-has

  pub next-later : n ≤ e
  unfolding elements_from
  next-later = leb-true n e (filter_of (leb n) (elements s) next-in).1

  -- none of those from n on is smaller
  pub next-least : (j : ℕ) → has s j ≡ true → n ≤ j → e ≤ j
  unfolding next_from elements_from
  next-least j y h =
      first-least (elements_from s n) (filter-rising (leb n) (elements s) (elements-rising s)) f (filter_in (leb n) (elements s) ((elements-has s j).1 y) (le-leb n j h))

  -- what lies between a number and the next element are no elements
  pub walk_skip : elements_from s e ≡ elements_from s n
  unfolding elements_from
  walk_skip = filter_same (leb e) (leb n) (elements s) (λ j m. same_test (leb e j) (leb n j)
      (λ h. le-leb n j (omega (arith, next-later, leb-true e j h)))
      (λ h. le-leb e j (next-least j ((elements-has s j).0 m) (leb-true n j h))))

  pub next-again : next_from s e ≡ Some e
  unfolding next_from
  next-again = ap (λ l. slice_get l 0) walk_skip ∙ f

-- where there is none the set has none
pub next-none : (s : EventSet) (n : ℕ) → next_from s n ≡ None → elements_from s n ≡ []
unfolding next_from
next-none s n e = first-none (elements_from s n) e

-- ---- a walk: a loop that goes from each element to the next one

walk_in : (s : EventSet) (d n : ℕ) {e : ℕ} → n + d ≡ 128 → next_from s n ≡ Some e → elements_from s n ≡ e ∷ elements_from s (e + 1)
unfolding next_from
walk_in s zero n h f = let z = from_end s n (omega arith) in absurd (let g = rw z at f in cc)
walk_in s (suc d) n {e = e} h f =
    ⊎_elim
    (λ y. let z = from_yes s n (omega arith) y in let g = rw z at f in let same : n ≡ e = cc in rw (← same) z)
    (λ y. let z = from_no s n (omega arith) y in rw z (walk_in s d (n + 1) (omega arith) (rw z at f)))
    (either_way (has s n))

pub walk_next : (s : EventSet) (n : ℕ) {e : ℕ} → next_from s n ≡ Some e → elements_from s n ≡ e ∷ elements_from s (e + 1)
walk_next s n f = walk_in s (128 - n) n (omega (arith, next-most s n f, next-later s n f)) f

-- a walk is at its end exactly where there is no next element
pub walk_end : (s : EventSet) (n : ℕ) → (next_from s n ≡ None) ↔ (elements_from s n ≡ [])
unfolding next_from
walk_end s n = (next-none s n, λ e. rw e)

-- a loop over the elements, at the element `at`: where it starts, and each turn
pub walk_start : (s : EventSet) {at : ℕ} → next_from s 0 ≡ Some at → (next_from s at ≡ Some at) × (elements_from s at ≡ elements s)
walk_start s f = (next-again s 0 f, walk_skip s 0 f ∙ from_start s)

pub walk_turn : (s : EventSet) {at next : ℕ} → next_from s at ≡ Some at → next_from s (at + 1) ≡ Some next
    → (next_from s next ≡ Some next) × (elements_from s at ≡ at ∷ elements_from s next) × (at < next) × (next < 128)
walk_turn s {at} {next} f g = (
  next-again s (at + 1) g,
  walk_next s at f ∙ ap (λ l. at ∷ l) (sym (walk_skip s (at + 1) g)),
  omega (arith, next-later s (at + 1) g),
  next-most s (at + 1) g,
)

-- ---- the next bit of a word, by its trailing zeros

under_min : (b t u d : ℕ) → t ≡ min d u → under b t ≡ min (suc d) (under b u)
under_min zero t u d e = omega arith
under_min (suc b) t u d e = omega arith

-- the zeros in fewer places
pub zeros_fewer : (d e n : ℕ) → count_trailing_zeros d n ≡ min d (count_trailing_zeros (d + e) n)
unfolding count_trailing_zeros
zeros_fewer zero e n = omega arith
zeros_fewer (suc d) e n = rw (suc-add d e) (under_min (n % 2) (count_trailing_zeros d (n / 2)) (count_trailing_zeros (d + e) (n / 2)) d (zeros_fewer d e (n / 2)))

-- a number that is not 0 has fewer zeros than places
zeros_below : (d e n : ℕ) → n < 2 ^ d → 0 < n → count_trailing_zeros (d + e) n < d
unfolding count_trailing_zeros
zeros_below zero e n f p = absurd (omega (arith, f))
zeros_below (suc d) e n f p =
    let b : suc d ≡ d + 1 = omega arith in
    let fits : n / 2 < 2 ^ d = shr_lt d 1 (rw b at f) in
    elim (dec_lt 0 (n % 2)) [
      | yes o ↦ (let y : n % 2 ≡ 1 = omega arith in rw (suc-add d e, y) (omega arith))
      | no o ↦ (let z : n % 2 ≡ 0 = omega (arith, o) in rw (suc-add d e, z) (omega (arith, zeros_below d e (n / 2) fits (omega arith))))
    ]

module _ (word : ℕ) where
  half : (k : ℕ) → word / 2 ^ k / 2 ≡ word / 2 ^ (k + 1)
  half k = shr-shr word k 1

  first_zeros : (d k : ℕ) → count_trailing_zeros d (word / 2 ^ k) < d
      → slice_get (filter (is_set word) (numbers_from k d)) 0 ≡ Some (k + count_trailing_zeros d (word / 2 ^ k))
  unfolding count_trailing_zeros
  first_zeros zero k h = absurd (omega (arith, h))
  first_zeros (suc d) k h =
      ⊎_elim
      (λ y. rw (range_next k d, filter_yes (is_set word) k (numbers_from (k + 1) d) y, bit_one word k y) (ap Some (omega arith)))
      (λ n. let z = bit_zero word k n in
      let g = rw (z, half k) at h in
      rw (range_next k d, filter_no (is_set word) k (numbers_from (k + 1) d) n, z, half k)
      (first_zeros d (k + 1) (omega (arith, g)) ∙ ap Some (omega arith)))
      (either_way (is_set word k))

  first_none : (d k : ℕ) → d ≤ count_trailing_zeros d (word / 2 ^ k) → filter (is_set word) (numbers_from k d) ≡ []
  unfolding count_trailing_zeros
  first_none zero k h = rw (range_none k, filter_nil (is_set word))
  first_none (suc d) k h =
      ⊎_elim
      (λ y. absurd (let g = rw (bit_one word k y) at h in omega (arith, g)))
      (λ n. let g = rw (bit_zero word k n, half k) at h in
      rw (range_next k d, filter_no (is_set word) k (numbers_from (k + 1) d) n) (first_none d (k + 1) (omega (arith, g))))
      (either_way (is_set word k))

  first_empty : (d k : ℕ) → word / 2 ^ k ≡ 0 → filter (is_set word) (numbers_from k d) ≡ []
  first_empty zero k z = rw (range_none k, filter_nil (is_set word))
  first_empty (suc d) k z =
      rw (range_next k d, filter_no (is_set word) k (numbers_from (k + 1) d) (set_zero word k (omega (arith, z))))
      (first_empty d (k + 1) (omega (arith, half k, z)))

  pub bit_beyond : (k : ℕ) → 64 ≤ k → next_bit word k ≡ None
  unfolding next_bit
  bit_beyond k h = let a : 64 - k ≡ 0 = omega arith in rw (a, range_none k, filter_nil (is_set word))

  pub bit_empty : (k : ℕ) → word / 2 ^ k ≡ 0 → next_bit word k ≡ None
  unfolding next_bit
  bit_empty k z = rw (first_empty (64 - k) k z)

  -- past as many zeros, if that is a place of the word
  pub bit_is : (k : ℕ) → k < 64
      → next_bit word k ≡ pick (ltb (k + count_trailing_zeros 64 (word / 2 ^ k)) 64) (Some (k + count_trailing_zeros 64 (word / 2 ^ k))) None
  unfolding next_bit
  bit_is k h =
      let a : 64 - k + k ≡ 64 = omega arith in
      let fewer : count_trailing_zeros (64 - k) (word / 2 ^ k) ≡ min (64 - k) (count_trailing_zeros 64 (word / 2 ^ k)) = rw a at (zeros_fewer (64 - k) k (word / 2 ^ k)) in
      elim (dec_lt (k + count_trailing_zeros 64 (word / 2 ^ k)) 64) [
        | yes l ↦ rw (lt-ltb (k + count_trailing_zeros 64 (word / 2 ^ k)) 64 l) (first_zeros (64 - k) k (omega arith) ∙ ap Some (omega arith))
        | no l ↦ rw (le-ltb (k + count_trailing_zeros 64 (word / 2 ^ k)) 64 (omega arith), first_none (64 - k) k (omega arith))
      ]

  pub bit_found : (k : ℕ) → k < 64 → word < 2 ^ 64 → 0 < word / 2 ^ k → next_bit word k ≡ Some (k + count_trailing_zeros 64 (word / 2 ^ k))
  bit_found k h f p =
      let a : 64 - k + k ≡ 64 = omega arith in
      let fits : word < 2 ^ (64 - k + k) = rw a f in
      let below : count_trailing_zeros 64 (word / 2 ^ k) < 64 - k = rw a at (zeros_below (64 - k) k (word / 2 ^ k) (shr_lt (64 - k) k fits) p) in
      rw (lt-ltb (k + count_trailing_zeros 64 (word / 2 ^ k)) 64 (omega arith)) at (bit_is k h)

  pub bit_most : (k : ℕ) {place : ℕ} → next_bit word k ≡ Some place → place < 64
  unfolding next_bit
  bit_most k e = omega (arith, range_of k (64 - k) (filter_of (is_set word) (numbers_from k (64 - k)) (first-in _ e)).0)

-- ---- the next element, by the next bits of the words

module _ (s : EventSet) where
  -- from 64 on the bits of the high word
  high_places : (d k : ℕ) → k + d ≤ 64
      → slice_get (filter (has s) (numbers_from (64 + k) d)) 0 ≡ option_map (λ p. 64 + p) (slice_get (filter (is_set s.high) (numbers_from k d)) 0)
  high_places zero k l = rw (range_none k, range_none (64 + k), filter_nil (has s), filter_nil (is_set s.high))
  high_places (suc d) k l =
      let a : 64 + k - 64 ≡ k = omega arith in
      let same : has s (64 + k) ≡ is_set s.high k = rw a at (has-high s (64 + k) (omega arith) (omega arith)) in
      let more : 64 + k + 1 ≡ 64 + (k + 1) = omega arith in
      ⊎_elim
      (λ y. rw (range_next k d, range_next (64 + k) d, filter_yes (is_set s.high) k _ y, filter_yes (has s) (64 + k) _ (same ∙ y)))
      (λ n. rw (range_next k d, range_next (64 + k) d, filter_no (is_set s.high) k _ n, filter_no (has s) (64 + k) _ (same ∙ n), more) (high_places d (k + 1) (omega arith)))
      (either_way (is_set s.high k))

  pub next-high : (n : ℕ) → 64 ≤ n → next_from s n ≡ option_map (λ p. 64 + p) (next_bit s.high (n - 64))
  unfolding next_from next_bit
  next-high n h =
      elim (dec_lt 128 n) [
        | yes l ↦ (let a : 64 - (n - 64) ≡ 0 = omega arith in rw (from_end s n (omega arith), a, range_none (n - 64), filter_nil (is_set s.high)))
        | no l ↦ let a : 64 + (n - 64) ≡ n = omega arith in
            let b : 64 - (n - 64) ≡ 128 - n = omega arith in
            rw (from-count s n (omega arith), b) (rw a at (high_places (128 - n) (n - 64) (omega arith)))
      ]

  -- below 64 first those of the low word
  low_places : (n : ℕ) → n < 64 → elements_from s n ≡ filter (is_set s.low) (numbers_from n (64 - n)) ++ elements_from s 64
  low_places n h =
      let a : 128 - n ≡ 64 - n + 64 = omega arith in
      let b : n + (64 - n) ≡ 64 = omega arith in
      let low : filter (has s) (numbers_from n (64 - n)) ≡ filter (is_set s.low) (numbers_from n (64 - n)) =
      filter_same (has s) (is_set s.low) (numbers_from n (64 - n)) (λ j m. has-low s j (omega (arith, range_of n (64 - n) m))) in
      rw (
        from-count s n (omega arith),
        a,
        range_split n (64 - n) 64,
        b,
        filter-append (has s) (numbers_from n (64 - n)) (numbers_from 64 64),
        low,
        from-count s 64 (omega arith),
      )

  found_low : (n : ℕ) {place : ℕ} → n < 64 → next_bit s.low n ≡ Some place → next_from s n ≡ Some place
  unfolding next_from next_bit
  found_low n h e = rw (low_places n h) (first-append _ _ e)

  past_low : (n : ℕ) → n < 64 → next_bit s.low n ≡ None → next_from s n ≡ next_from s 64
  unfolding next_from next_bit
  past_low n h e = rw (low_places n h) (first-append_none _ _ e)

  -- what the code returns: a next bit of the low word, else the next bit of the high word
  pub next-found : (n : ℕ) {place : ℕ} → next_bit s.low n ≡ Some place → next_from s n ≡ Some place
  next-found n e =
      elim (dec_lt n 64) [
        | yes h ↦ found_low n h e
        | no h ↦ absurd (let z = bit_beyond s.low n (omega arith) in cc)
      ]

  pub next_after : (n m : ℕ) → next_bit s.low n ≡ None → m ≡ n - 64 → next_from s n ≡ option_map (λ p. 64 + p) (next_bit s.high m)
  next_after n m e f =
      elim (dec_lt n 64) [
        | yes h ↦ (let a : m ≡ 64 - 64 = omega arith in rw a (past_low n h e ∙ next-high 64 (omega arith)))
        | no h ↦ rw f (next-high n (omega arith))
      ]
