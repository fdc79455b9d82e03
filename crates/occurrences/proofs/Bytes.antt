-- A word made byte by byte.
use Rattle.std.proofs.Common.{◌≡◌, ℕ, zero, suc, ◌+◌, ◌-◌, ◌*◌, ◌/◌, ◌%◌, ◌^◌, ◌<◌, ◌≤◌, Bool, true, false, ltb, List, length, get_or, sym, refl, ap, ◌∙◌, subst, ap₂, lt_of_lt_of_le, arith, get_or-drop, pow_pos, pow_mono, shl_lt, shl_exact, shr-shr, le-ltb}
use native.Mathlib.Decide.{dec_lt}
use native.Mathlib.Nat.{div-eq_of_lt}
use lib.Bits.{and_le_l, and_le_r, bit_or, or_add_and, or_lt, or_shifted_r, or_shr, or_zero_l}
use lib.ListN.{length-map}
use lib.Pow.{field, high, low, mod-mod-pow}
use Rattle.sequences.specs.Choice.{pick}
use Rattle.sequences.proofs.Range.{length_range}
use Rattle.timestamps.specs.Composite.{logger_places}
use Rattle.timestamps.proofs.Composite.{at_place}
use Rattle.occurrences.specs.Packed.{byte_at, words_of}
use Rattle.occurrences.specs.Steps.{Bytes, kept_of, later_at, later_of, note_at}
use Rattle.occurrences.proofs.Steps.{more_places}

byte_is : (w k : ℕ) → w / 2 ^ (8 * k) % 256 ≡ byte_at w k
unfolding byte_at
byte_is w k = refl

-- what the code reads
pub byte_read : (w k : ℕ) → (w / 2 ^ (8 * k) % 256 ≡ byte_at w k) × (w / 2 ^ (8 * k) % 256 < 256)
byte_read w k = (byte_is w k, omega arith)

pub byte_small : (w k : ℕ) → byte_at w k < 256
unfolding byte_at
byte_small w k = omega arith

-- a byte says only what the bits up to its own say
byte_field : (w k : ℕ) → byte_at w k ≡ w % 2 ^ (8 + 8 * k) / 2 ^ (8 * k)
byte_field w k = sym (byte_is w k) ∙ sym (field w 8 (8 * k))

byte_beyond : (w k : ℕ) → w < 2 ^ (8 * k) → byte_at w k ≡ 0
byte_beyond w k h = sym (byte_is w k) ∙ rw (div-eq_of_lt h)

-- the bytes from place k on
pub byte_further : (w k j : ℕ) → byte_at (w / 2 ^ (8 * k)) j ≡ byte_at w (k + j)
byte_further w k j =
    let e : 8 * k + 8 * j ≡ 8 * (k + j) = omega arith in
    sym (byte_is (w / 2 ^ (8 * k)) j) ∙ ap (λ x. x % 256) (shr-shr w (8 * k) (8 * j)) ∙ ap (λ n. w / 2 ^ n % 256) e ∙ byte_is w (k + j)

pub byte_none : (w k j : ℕ) → w / 2 ^ (8 * k) ≡ 0 → byte_at w (k + j) ≡ 0
byte_none w k j h = sym (byte_further w k j) ∙ ap (λ x. byte_at x j) h ∙ byte_beyond 0 j (pow_pos (8 * j))

byte_whole : (n : ℕ) → n < 256 → byte_at n 0 ≡ n
byte_whole n s = sym (byte_is n 0) ∙ omega arith

-- ---- n beside r, which has k bytes
module _ (n k r : ℕ) (h : r < 2 ^ (8 * k)) where
  joined : bit_or r (n * 2 ^ (8 * k)) ≡ n * 2 ^ (8 * k) + r
  joined = or_shifted_r n (8 * k) r h

  byte_above : (j : ℕ) → byte_at (bit_or r (n * 2 ^ (8 * k))) (k + j) ≡ byte_at n j
  byte_above j = sym (byte_further (bit_or r (n * 2 ^ (8 * k))) k j) ∙ ap (λ w. byte_at w j) (ap (λ w. w / 2 ^ (8 * k)) joined ∙ high n (8 * k) h)

  below_mod : (j : ℕ) → j < k → (n * 2 ^ (8 * k) + r) % 2 ^ (8 + 8 * j) ≡ r % 2 ^ (8 + 8 * j)
  below_mod j l =
      let a : 8 * (k - j - 1) + (8 + 8 * j) ≡ 8 * k = omega arith in
      sym (mod-mod-pow (n * 2 ^ (8 * k) + r) (8 * (k - j - 1)) (8 + 8 * j))
      ∙ ap (λ m. (n * 2 ^ (8 * k) + r) % 2 ^ m % 2 ^ (8 + 8 * j)) a
      ∙ ap (λ m. m % 2 ^ (8 + 8 * j)) (low n (8 * k) h)

  byte_below : (j : ℕ) → j < k → byte_at (bit_or r (n * 2 ^ (8 * k))) j ≡ byte_at r j
  byte_below j l =
      ap (λ w. byte_at w j) joined ∙ byte_field (n * 2 ^ (8 * k) + r) j ∙ ap (λ m. m / 2 ^ (8 * j)) (below_mod j l) ∙ sym (byte_field r j)

  bytes-size : (m : ℕ) → n < 2 ^ (8 * m) → bit_or r (n * 2 ^ (8 * k)) < 2 ^ (8 * (k + m))
  bytes-size m s =
      let a : 8 * m + 8 * k ≡ 8 * (k + m) = omega arith in
      let p : 2 ^ (8 * k) ≤ 2 ^ (8 * m + 8 * k) = pow_mono (omega arith) in
      let q : n * 2 ^ (8 * k) < 2 ^ (8 * m + 8 * k) = shl_lt (8 * m) (8 * k) s in
      subst (λ x. bit_or r (n * 2 ^ (8 * k)) < 2 ^ x) a (or_lt (8 * m + 8 * k) r (n * 2 ^ (8 * k)) (omega arith) q)

-- ---- bytes so far, and more
pub bytes-start : (f : ℕ → ℕ) → Bytes 0 f 0
bytes-start f = record { size = omega arith; bytes = λ j l. absurd (omega (arith, l)) }

-- the next m places beside the first k
pub bytes-more : (k m : ℕ) (f g : ℕ → ℕ) (r n : ℕ) → k + m ≤ 8 → ((j : ℕ) → j < m → g j ≡ f (k + j)) → Bytes k f r → Bytes m g n
    → Bytes (k + m) f (bit_or r (n * 2 ^ (8 * k) % 2 ^ 64))
bytes-more k m f g r n b e first next = subst (λ v. Bytes (k + m) f (bit_or r v)) (sym (shl_exact (8 * m) (8 * k) 64 next.size (omega arith))) (record {
  size = bytes-size n k r first.size m next.size;
  bytes = more_places (λ j. byte_at (bit_or r (n * 2 ^ (8 * k))) j ≡ f j) k m
      (λ j l. byte_below n k r first.size j l ∙ first.bytes j l)
      (λ j l. byte_above n k r first.size j ∙ next.bytes j l ∙ e j l);
})

pub bytes_turn : (k : ℕ) (f : ℕ → ℕ) (r n : ℕ) → k < 8 → n < 256 → n ≡ f k → Bytes k f r → Bytes (k + 1) f (bit_or r (n * 2 ^ (8 * k) % 2 ^ 64))
bytes_turn k f r n h s p m = bytes-more k 1 f (λ j. f k) r n (omega arith)
    (λ j l. let e : k ≡ k + j = omega arith in ap f e) m
    (record { size = s; bytes = λ j l. (let z : j ≡ 0 = omega arith in ap (byte_at n) z ∙ byte_whole n s ∙ p) })

-- any bytes make a word
pub bytes-some : (n : ℕ) (f : ℕ → ℕ) → n ≤ 8 → ((k : ℕ) → k < n → f k < 256) → (r : ℕ) × Bytes n f r
bytes-some zero f h s = (0, bytes-start f)
bytes-some (suc n) f h s =
    let (r, b) = bytes-some n f (omega arith) (λ k l. s k (omega arith)) in
    let e : n + 1 ≡ suc n = omega arith in
    (bit_or r (f n * 2 ^ (8 * n) % 2 ^ 64), subst (λ k. Bytes k f (bit_or r (f n * 2 ^ (8 * n) % 2 ^ 64))) e (bytes_turn n f r (f n) (omega arith) (s n (omega arith)) refl b))

-- where the next m places have none
pub bytes-none : (k m : ℕ) (f : ℕ → ℕ) (r : ℕ) → ((j : ℕ) → j < m → f (k + j) ≡ 0) → Bytes k f r → Bytes (k + m) f r
bytes-none k m f r e first = record {
  size = lt_of_lt_of_le first.size (pow_mono (omega arith));
  bytes = more_places (λ j. byte_at r j ≡ f j) k m first.bytes (λ j l. byte_none r k j (div-eq_of_lt first.size) ∙ sym (e j l));
}

-- ---- the later of two, from place k on
module _ (ticks : List ℕ) (a b k j : ℕ) where
  pub later_further : later_at ticks (a / 2 ^ (8 * k)) (b / 2 ^ (8 * k)) j ≡ later_at ticks a b (k + j)
  later_further = ap₂ (later_of ticks) (byte_further a k j) (byte_further b k j)

  pub later-none : bit_or a b / 2 ^ (8 * k) ≡ 0 → later_at ticks a b (k + j) ≡ 0
  unfolding later_of
  later-none h =
      let x = a / 2 ^ (8 * k) in
      let y = b / 2 ^ (8 * k) in
      let z : bit_or x y ≡ 0 = sym (or_shr a b (8 * k)) ∙ h in
      let p : x ≡ 0 = omega (arith, or_add_and x y, and_le_r x y) in
      let q : y ≡ 0 = omega (arith, or_add_and x y, and_le_l x y) in
      ap₂ (later_of ticks) (byte_none a k j p) (byte_none b k j q) ∙ rw (le-ltb (get_or ticks 0 0) (get_or ticks 0 0) (omega arith))

-- what is kept of none
pick_same : (b : Bool) (n : ℕ) → pick b n n ≡ n
pick_same true n = refl
pick_same false n = refl

pub kept-none : (globals : List ℕ) (h n : ℕ) → n ≡ 0 → kept_of globals h n ≡ 0
unfolding kept_of
kept-none globals h n e = rw e (pick_same (ltb (get_or globals 0 0 + 1) h) 0)

-- ---- a word with one byte
module _ (n k : ℕ) (s : n < 256) (h : k < 8) where
  alone : n * 2 ^ (8 * k) % 2 ^ 64 ≡ bit_or 0 (n * 2 ^ (8 * k))
  alone = shl_exact 8 (8 * k) 64 s (omega arith) ∙ sym (or_zero_l (n * 2 ^ (8 * k)))

  pub lone_byte : byte_at (n * 2 ^ (8 * k) % 2 ^ 64) k ≡ n
  lone_byte = let e : k ≡ k + 0 = omega arith in ap₂ byte_at alone e ∙ byte_above n k 0 (pow_pos (8 * k)) 0 ∙ byte_whole n s

  pub other_byte : (j : ℕ) → (j ≡ k → ⊥) → byte_at (n * 2 ^ (8 * k) % 2 ^ 64) j ≡ 0
  other_byte j d = ap (λ w. byte_at w j) alone ∙ elim (dec_lt j k) [
    | yes l ↦ byte_below n k 0 (pow_pos (8 * k)) j l ∙ byte_beyond 0 j (pow_pos (8 * j))
    | no l ↦ byte_beyond (bit_or 0 (n * 2 ^ (8 * k))) j (lt_of_lt_of_le (bytes-size n k 0 (pow_pos (8 * k)) 1 s) (pow_mono (omega (arith, d, l))))
  ]

-- ---- what the bytes name is below n: of the first four, and of the last
pub inside-first : (n w : ℕ) → ((k : ℕ) → k < 8 → byte_at w k < n) → (k : ℕ) → k < 4 → byte_at w k < n
inside-first n w h j l = h j (omega arith)

pub inside-last : (n w : ℕ) → ((k : ℕ) → k < 8 → byte_at w k < n) → (k : ℕ) → k < 4 → byte_at (w / 2 ^ 32) k < n
inside-last n w h j l = subst (λ m. m < n) (sym (byte_further w 4 j)) (h (4 + j) (omega arith))

-- ---- the ten words
module _ (ticks o : List ℕ) where
  pub length_words : length (words_of ticks o) ≡ 10
  unfolding words_of
  length_words = ap (λ n. suc (suc n)) (length-map logger_places (note_at ticks (get_or o 2 0)) ∙ length_range 0 8)

  pub word_of : (k : ℕ) → k < 8 → get_or (words_of ticks o) (2 + k) 0 ≡ note_at ticks (get_or o 2 0) k
  unfolding words_of
  word_of k h = sym (get_or-drop 2 (words_of ticks o) k 0) ∙ at_place (note_at ticks (get_or o 2 0)) 0 k h
