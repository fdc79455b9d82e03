-- What sets have: after a mark, in a union, and as a list of elements.
use mathlib.Core.Path.{◌≡◌, sym, ap, ap₂, ◌∙◌}
use mathlib.Core.Bool.{true, false, ◌||◌, or-false}
use mathlib.Core.List.Memᴰ
use mathlib.Core.List.{[], ◌∷◌}
use mathlib.Core.Logic.{◌⊎◌, inl, inr, ◌↔◌, ⊎_elim}
use Prim.Native.Nat.{ℕ, ◌+◌, ◌-◌, ◌*◌, ◌%◌, ◌^◌, ◌≤◌, ◌<◌}
use native.Mathlib.Decide.{dec_lt, ℕ_discrete}
use native.Mathlib.Omega.{arith}
use borrow.Author.Tests.{lt-ltb, le-ltb, eq-eqb, ne_eqb, eqb-true}
use lib.Bits.{bit_or, or_comm, or_lt, or_self, or_zero_r}
use lib.Dec.{eqb, lit<}
use lib.Pow.{pow-lt, pow_pos}
use Rattle.sequences.specs.Members.{◌is_in◌, SameMembers}
use Rattle.sequences.specs.Range.{numbers_from, Rising}
use Rattle.sequences.proofs.Booleans.{never_both, or_cases, or_left, or_right, same_test}
use Rattle.sequences.proofs.Members.{length_pos}
use Rattle.sequences.proofs.Range.{range_in, range_rising, length_range, filter_one}
use Rattle.sequences.proofs.Select.{filter_in, filter_of, filter_none, filter_same, filter-length, filter-rising}
use Rattle.event_sets.specs.declared.EventSet.{EventSet}
use Rattle.event_sets.specs.Sets.{WordsFit, is_set, has, elements, size_of, no_events, marked_with, union_of}
use Rattle.event_sets.proofs.Words.{one_shl, set_beyond, set_or, set_mark, or_assoc, same_bits}

-- ---- membership, by the words

module _ (s : EventSet) (j : ℕ) where
  pub has-low : j < 64 → has s j ≡ is_set s.low j
  unfolding has
  has-low h = rw (lt-ltb j 64 h)

  pub has-high : 64 ≤ j → j < 128 → has s j ≡ is_set s.high (j - 64)
  unfolding has
  has-high h k = rw (le-ltb j 64 h, lt-ltb j 128 k)

  pub has_beyond : 128 ≤ j → has s j ≡ false
  unfolding has
  has_beyond h = rw (le-ltb j 64 (omega arith), le-ltb j 128 h)

  pub has-below : has s j ≡ true → j < 128
  has-below e =
      elim (dec_lt j 128) [
        | yes h ↦ h
        | no h ↦ absurd (never_both e (has_beyond (omega arith)))
      ]

pub has-none : (j : ℕ) → has no_events j ≡ false
has-none j =
    elim (dec_lt j 64) [
      | yes h ↦ has-low no_events j h ∙ set_beyond 0 j (pow_pos j)
      | no h ↦ elim (dec_lt j 128) [
        | yes k ↦ has-high no_events j (omega arith) k ∙ set_beyond 0 (j - 64) (pow_pos (j - 64))
        | no k ↦ has_beyond no_events j (omega arith)
      ]
    ]

abbrev words : ℕ → ℕ → EventSet
words l h = record { low = l; high = h }

-- ---- a mark

-- by the words, as the code's `1 << i` gives it
module _ (s : EventSet) (i : ℕ) where
  pub marked-low : i < 64 → marked_with s i ≡ words (bit_or s.low (1 * 2 ^ i % 2 ^ 64)) s.high
  unfolding marked_with
  marked-low h = rw (lt-ltb i 64 h, one_shl i h)

  pub marked-high : 64 ≤ i → i < 128 → marked_with s i ≡ words s.low (bit_or s.high (1 * 2 ^ (i - 64) % 2 ^ 64))
  unfolding marked_with
  marked-high h k = rw (le-ltb i 64 h, lt-ltb i 128 k, one_shl (i - 64) (omega arith))

  -- from 128 on nothing changes
  pub marked_beyond : 128 ≤ i → marked_with s i ≡ s
  unfolding marked_with
  marked_beyond h = rw (le-ltb i 64 (omega arith), le-ltb i 128 h)

eqb_sub : (i j : ℕ) → 64 ≤ i → 64 ≤ j → eqb (j - 64) (i - 64) ≡ eqb j i
eqb_sub i j a b =
    elim (ℕ_discrete j i) [
      | yes e ↦ eq-eqb (j - 64) (i - 64) (omega (arith, e)) ∙ sym (eq-eqb j i e)
      | no n ↦ ne_eqb (j - 64) (i - 64) (λ e. n (omega (arith, e))) ∙ sym (ne_eqb j i n)
    ]

-- after marking i the set has what it had, and i
pub has-marked : (s : EventSet) (i j : ℕ) → i < 128 → has (marked_with s i) j ≡ (eqb j i || has s j)
unfolding has marked_with
has-marked s i j hi =
    elim (dec_lt i 64) [
      | yes a ↦ elim (dec_lt j 64) [
        | yes b ↦ simp (lt-ltb i 64 a, lt-ltb j 64 b, set_mark s.low i j)
        | no b ↦ simp (lt-ltb i 64 a, le-ltb j 64 (omega arith), ne_eqb j i (λ e. omega (arith, e)))
      ]
      | no a ↦ elim (dec_lt j 64) [
        | yes b ↦ simp (le-ltb i 64 (omega arith), lt-ltb i 128 hi, lt-ltb j 64 b, ne_eqb j i (λ e. omega (arith, e)))
        | no b ↦ elim (dec_lt j 128) [
          | yes k ↦ simp (le-ltb i 64 (omega arith), lt-ltb i 128 hi, le-ltb j 64 (omega arith), lt-ltb j 128 k, set_mark s.high (i - 64) (j - 64), eqb_sub i j (omega arith) (omega arith))
          | no k ↦ simp (le-ltb j 64 (omega arith), le-ltb j 128 (omega arith), ne_eqb j i (λ e. omega (arith, e)))
        ]
      ]
    ]

-- ---- the union

-- the union has what either set has
pub has_union : (a b : EventSet) (j : ℕ) → has (union_of a b) j ≡ (has a j || has b j)
unfolding has union_of
has_union a b j =
    elim (dec_lt j 64) [
      | yes h ↦ simp (lt-ltb j 64 h, set_or a.low b.low j)
      | no h ↦ elim (dec_lt j 128) [
        | yes k ↦ simp (le-ltb j 64 (omega arith), lt-ltb j 128 k, set_or a.high b.high (j - 64))
        | no k ↦ simp (le-ltb j 64 (omega arith), le-ltb j 128 (omega arith))
      ]
    ]

pub union_comm : (a b : EventSet) → union_of a b ≡ union_of b a
unfolding union_of
union_comm a b = ap₂ words (or_comm a.low b.low) (or_comm a.high b.high)

pub union_assoc : (a b c : EventSet) → union_of (union_of a b) c ≡ union_of a (union_of b c)
unfolding union_of
union_assoc a b c = ap₂ words (or_assoc a.low b.low c.low) (or_assoc a.high b.high c.high)

pub union_self : (a : EventSet) → union_of a a ≡ a
unfolding union_of
union_self a = ap₂ words (or_self a.low) (or_self a.high)

pub union_none : (a : EventSet) → union_of a no_events ≡ a
unfolding union_of
union_none a = ap₂ words (or_zero_r a.low) (or_zero_r a.high)

-- ---- the elements

-- a number is an element exactly where the set has it
pub elements-has : (s : EventSet) (j : ℕ) → (j is_in elements s) ↔ (has s j ≡ true)
unfolding elements
elements-has s j = (
  (λ m. (filter_of (has s) _ m).1),
  (λ e. filter_in (has s) _ (range_in 0 _ j (omega arith) (has-below s j e)) e),
)

pub elements-below : (s : EventSet) (j : ℕ) → j is_in elements s → j < 128
elements-below s j m = has-below s j ((elements-has s j).0 m)

pub elements-rising : (s : EventSet) → Rising (elements s)
unfolding elements
elements-rising s = filter-rising (has s) _ (range_rising 0 _)

pub elements-none : elements no_events ≡ []
unfolding elements
elements-none = filter_none (has no_events) _ (λ j m. has-none j)

pub elements_one : (i : ℕ) → i < 128 → elements (marked_with no_events i) ≡ i ∷ []
unfolding elements
elements_one i h =
    filter_same (has (marked_with no_events i)) (λ j. eqb j i) _
    (λ j m. has-marked no_events i j h ∙ ap (λ b. eqb j i || b) (has-none j) ∙ or-false (eqb j i))
    ∙ filter_one i _ 0 (omega arith) h

pub elements-marked : (s : EventSet) (i j : ℕ) → i < 128 → (j is_in elements (marked_with s i)) ↔ ((j ≡ i) ⊎ (j is_in elements s))
elements-marked s i j h = (
  (λ m. ⊎_elim
      (λ e. inl (eqb-true j i e))
      (λ e. inr ((elements-has s j).1 e))
      (or_cases (eqb j i) (has s j) (sym (has-marked s i j h) ∙ (elements-has (marked_with s i) j).0 m))),
  (λ c. (elements-has (marked_with s i) j).1 (has-marked s i j h ∙
      ⊎_elim
      (λ e. or_left (eqb j i) (has s j) (eq-eqb j i e))
      (λ m. or_right (eqb j i) (has s j) ((elements-has s j).0 m))
      c)),
)

pub elements_union : (a b : EventSet) (j : ℕ) → (j is_in elements (union_of a b)) ↔ ((j is_in elements a) ⊎ (j is_in elements b))
elements_union a b j = (
  (λ m. ⊎_elim
      (λ e. inl ((elements-has a j).1 e))
      (λ e. inr ((elements-has b j).1 e))
      (or_cases (has a j) (has b j) (sym (has_union a b j) ∙ (elements-has (union_of a b) j).0 m))),
  (λ c. (elements-has (union_of a b) j).1 (has_union a b j ∙
      ⊎_elim
      (λ m. or_left (has a j) (has b j) ((elements-has a j).0 m))
      (λ m. or_right (has a j) (has b j) ((elements-has b j).0 m))
      c)),
)

-- ---- how many

pub size-most : (s : EventSet) → size_of s ≤ 128
unfolding size_of elements
size-most s = omega (arith, filter-length (has s) (numbers_from 0 128), length_range 0 128)

-- a set that has a number is not empty
pub size_pos : (s : EventSet) (j : ℕ) → has s j ≡ true → 0 < size_of s
unfolding size_of
size_pos s j e = length_pos ((elements-has s j).1 e)

pub elements-some : (s : EventSet) (j : ℕ) → has s j ≡ true → elements s ≡ [] → ⊥
elements-some s j e n = Memᴰ.not-nil (rw n at ((elements-has s j).1 e))

pub not_none : (s : EventSet) (j : ℕ) → has s j ≡ true → s ≡ no_events → ⊥
not_none s j e n = never_both e (ap (λ t. has t j) n ∙ has-none j)

-- ---- the words fit, and then a set is what it has

pub fit_none : WordsFit no_events
fit_none = record { low = lit< tt; high = lit< tt }

pub fit_marked : (s : EventSet) (i : ℕ) → WordsFit s → WordsFit (marked_with s i)
unfolding marked_with
fit_marked s i f =
    elim (dec_lt i 64) [
      | yes a ↦ rw (lt-ltb i 64 a) (record { low = or_lt 64 s.low (2 ^ i) f.low (pow-lt a); high = f.high })
      | no a ↦ elim (dec_lt i 128) [
        | yes b ↦ rw (le-ltb i 64 (omega arith), lt-ltb i 128 b) (record { low = f.low; high = or_lt 64 s.high (2 ^ (i - 64)) f.high (pow-lt {j = 64} (omega arith)) })
        | no b ↦ rw (le-ltb i 64 (omega arith), le-ltb i 128 (omega arith)) f
      ]
    ]

pub fit_union : (a b : EventSet) → WordsFit a → WordsFit b → WordsFit (union_of a b)
unfolding union_of
fit_union a b f g = record { low = or_lt 64 a.low b.low f.low g.low; high = or_lt 64 a.high b.high f.high g.high }

module _ (s t : EventSet) (f : WordsFit s) (g : WordsFit t) where
  pub same-has : ((j : ℕ) → has s j ≡ has t j) → s ≡ t
  same-has e = ap₂ words
      (same_bits 64 s.low t.low f.low g.low (λ j h. sym (has-low s j h) ∙ e j ∙ has-low t j h))
      (same_bits 64 s.high t.high f.high g.high (λ j h.
      let a : j + 64 - 64 ≡ j = omega arith in
      let b : is_set s.high (j + 64 - 64) ≡ is_set t.high (j + 64 - 64) =
      sym (has-high s (j + 64) (omega arith) (omega arith)) ∙ e (j + 64) ∙ has-high t (j + 64) (omega arith) (omega arith) in
      rw a at b))

  pub same-elements : SameMembers (elements s) (elements t) → s ≡ t
  same-elements m = same-has (λ j. same_test (has s j) (has t j)
      (λ e. (elements-has t j).0 (m.0 j ((elements-has s j).1 e)))
      (λ e. (elements-has s j).0 (m.1 j ((elements-has t j).1 e))))
