-- The timestamps of a packed occurrence by its eight logger places, in the ten words w that it gives: what is left from place k on, where v is the word of place k.
use mathlib.Core.Path.{◌≡◌, refl, sym, ap, ◌∙◌}
use mathlib.Core.List.{List, [], ◌++◌, map}
use mathlib.Core.Logic.{⊎_elim}
use Prim.Native.Nat.{ℕ, zero, suc, ◌+◌, ◌-◌, ◌*◌, ◌/◌, ◌%◌, ◌^◌, ◌≤◌, ◌<◌}
use native.Mathlib.Nat.{add-zero, div-one, zero-add}
use native.Mathlib.Omega.{arith}
use lib.ListN.{length, get_or, length-map}
use lib.Pow.{shr-shr}
use Rattle.sequences.specs.Range.{numbers_from}
use Rattle.sequences.specs.Select.{filter}
use Rattle.sequences.proofs.Booleans.{either_way}
use Rattle.sequences.proofs.Range.{range_turn, range_end, length_range}
use Rattle.sequences.proofs.Select.{filter_nil, filter_yes, filter_no}
use Rattle.sequences.proofs.Select.{filter-length}
use Rattle.timestamps.specs.declared.CompositeTimestamp.{CompositeTimestamp}
use Rattle.timestamps.specs.Composite.{stamp_at, present_at, members}
use Rattle.occurrences.specs.Packed.{byte_at, words_of}
use Rattle.occurrences.proofs.Bytes.{word_of}
use Rattle.occurrences.proofs.Words.{latest_of, present_at_lem, tick-at, word_at}
use Rattle.forms.specs.Forms.{each}
use Rattle.detections.specs.Findings.{stamp}
use Rattle.detections.specs.Steps.{named_bytes, one_if, stamp_bytes}
use Rattle.detections.specs.Views.{written}
use Rattle.detections.proofs.LowestByte.{byte_of, byte_up, lowest, lowest_place, lowest_byte, lowest_without, without, without_first, without_up}
use Rattle.detections.proofs.Sizes.{stamp_no}

-- at most one for each place
pub members-most : (c : CompositeTimestamp) → length (members c) ≤ 8
unfolding members
members-most c = omega (arith, length-map (filter (present_at c) (numbers_from 0 8)) (stamp_at c), filter-length (present_at c) (numbers_from 0 8), length_range 0 8)

module _ (w : List ℕ) where
  -- ---- how many there are
  unfoldable pub count_from : ℕ → ℕ
  count_from k = length (filter (present_at (latest_of w)) (numbers_from k (8 - k)))

  pub count-start : count_from 0 ≡ length (members (latest_of w))
  unfolding count_from members
  count-start = sym (length-map (filter (present_at (latest_of w)) (numbers_from 0 8)) (stamp_at (latest_of w)))

  pub count_turn : (k v : ℕ) → k < 8 → v ≡ word_at w k → count_from k ≡ one_if v + count_from (k + 1)
  unfolding count_from
  count_turn k v h e =
      ⊎_elim
      (λ y. rw (e, range_turn 8 k h, filter_yes (present_at (latest_of w)) k (numbers_from (k + 1) (8 - (k + 1))) y, sym (present_at_lem w k) ∙ y) (omega arith))
      (λ n. rw (e, range_turn 8 k h, filter_no (present_at (latest_of w)) k (numbers_from (k + 1) (8 - (k + 1))) n, sym (present_at_lem w k) ∙ n) (omega arith))
      (either_way (present_at (latest_of w) k))

  pub count_end : (k : ℕ) → 8 ≤ k → count_from k ≡ 0
  unfolding count_from
  count_end k h = rw (range_end 8 k h, filter_nil (present_at (latest_of w)))

-- ---- their bytes
module _ (w loggers : List ℕ) where
  unfoldable stamps_from : ℕ → List ℕ
  stamps_from k = each stamp (map (written loggers) (map (stamp_at (latest_of w)) (filter (present_at (latest_of w)) (numbers_from k (8 - k)))))

  stamps-start : stamps_from 0 ≡ each stamp (map (written loggers) (members (latest_of w)))
  unfolding stamps_from members
  stamps-start = refl

  stamps_turn : (k v : ℕ) → k < 8 → v ≡ word_at w k → stamps_from k ≡ stamp_bytes (get_or loggers k 0) v ++ stamps_from (k + 1)
  unfolding stamps_from stamp_bytes each
  stamps_turn k v h e =
      ⊎_elim
      (λ y. rw (e, range_turn 8 k h, filter_yes (present_at (latest_of w)) k (numbers_from (k + 1) (8 - (k + 1))) y, sym (present_at_lem w k) ∙ y, tick-at w k))
      (λ n. rw (e, range_turn 8 k h, filter_no (present_at (latest_of w)) k (numbers_from (k + 1) (8 - (k + 1))) n, sym (present_at_lem w k) ∙ n))
      (either_way (present_at (latest_of w) k))

  stamps_end : (k : ℕ) → 8 ≤ k → stamps_from k ≡ []
  unfolding stamps_from each
  stamps_end k h = rw (range_end 8 k h, filter_nil (present_at (latest_of w)))

-- ---- the loop over the bytes of a packed number that are not 0
module _ (ticks loggers : List ℕ) where
  named_stamps : (o : List ℕ) (d k : ℕ) → k + d ≡ 8 → stamps_from (words_of ticks o) loggers k ≡ named_bytes ticks loggers d k (get_or o 2 0 / 2 ^ (8 * k))
  unfolding named_bytes byte_at
  named_stamps o zero k e = stamps_end (words_of ticks o) loggers k (omega arith)
  named_stamps o (suc d) k e =
      let a : 8 * k + 8 ≡ 8 * (k + 1) = omega arith in
      let up : get_or o 2 0 / 2 ^ (8 * k) / 256 ≡ get_or o 2 0 / 2 ^ (8 * (k + 1)) = shr-shr (get_or o 2 0) (8 * k) 8 ∙ ap (λ m. get_or o 2 0 / 2 ^ m) a in
      stamps_turn (words_of ticks o) loggers k (get_or ticks (get_or o 2 0 / 2 ^ (8 * k) % 256) 0) (omega arith) (sym (word_of ticks o k (omega arith)))
      ∙ rw (named_stamps o d (k + 1) (omega arith), up)

  pub named_start : (o : List ℕ) → named_bytes ticks loggers 8 0 (get_or o 2 0) ≡ each stamp (map (written loggers) (members (latest_of (words_of ticks o))))
  named_start o = sym (ap (named_bytes ticks loggers 8 0) (div-one (get_or o 2 0))) ∙ sym (named_stamps o 8 0 (omega arith)) ∙ stamps-start (words_of ticks o) loggers

  -- a turn takes the byte at place j of a number, and leaves the others
  abbrev Turn : ℕ → ℕ → ℕ → ℕ → Type 0
  Turn d k n j = named_bytes ticks loggers d k n ≡ stamp_bytes (get_or loggers (k + j) 0) (get_or ticks (byte_of n j) 0) ++ named_bytes ticks loggers d k (without n j)

  module _ (z : get_or ticks 0 0 ≡ 0) where
    -- a byte that is 0 names no stamp
    named_none : (d k n : ℕ) → n % 256 ≡ 0 → named_bytes ticks loggers (suc d) k n ≡ named_bytes ticks loggers d (k + 1) (n / 256)
    unfolding named_bytes
    named_none d k n e = rw (e, stamp_no (get_or loggers k 0) (get_or ticks 0 0) (omega (arith, z)))

    named_above : (d k m : ℕ) → named_bytes ticks loggers (suc d) k (m * 256) ≡ named_bytes ticks loggers d (k + 1) m
    named_above d k m = let e : m * 256 / 256 ≡ m = omega arith in named_none d k (m * 256) (omega arith) ∙ ap (named_bytes ticks loggers d (k + 1)) e

    named_first : (d n k : ℕ) → Turn (suc d) k n 0
    unfolding named_bytes
    named_first d n k = rw (add-zero k, without_first n, named_above d k (n / 256), div-one n)

    named_later : (d n i : ℕ) → n % 256 ≡ 0 → ((k : ℕ) → Turn d k (n / 256) i) → (k : ℕ) → Turn (suc d) k n (suc i)
    named_later d n i e t k =
        let a : k + 1 + i ≡ k + suc i = omega arith in
        named_none d k n e ∙ t (k + 1) ∙ rw (a, without_up n i e, byte_up n i, named_above d k (without (n / 256) i))

    pub named_turn : (n : ℕ) (p : 0 < n) (h : n < 2 ^ 64)
        → named_bytes ticks loggers 8 0 n ≡ stamp_bytes (get_or loggers (lowest_place n p h) 0) (get_or ticks (byte_of n (lowest_place n p h)) 0) ++ named_bytes ticks loggers 8 0 (n - lowest n p h)
    named_turn n p h =
        let turn : Turn 8 0 n (lowest_place n p h) = lowest_byte (λ d m j. (k : ℕ) → Turn d k m j) (λ d m l k. named_first d m k) named_later 8 n p h 0 in
        rw (lowest_without n p h) (rw zero-add at turn)

    named_nothing : (d k : ℕ) → named_bytes ticks loggers d k 0 ≡ []
    unfolding named_bytes
    named_nothing zero k = refl
    named_nothing (suc d) k = named_none d k 0 refl ∙ named_nothing d (k + 1)

    pub named_end : (n : ℕ) → n ≤ 0 → named_bytes ticks loggers 8 0 n ≡ []
    named_end n h = let e : n ≡ 0 = omega arith in ap (named_bytes ticks loggers 8 0) e ∙ named_nothing 8 0
