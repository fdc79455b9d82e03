-- The places that an order says, four bits each.
use mathlib.Core.Path.{◌≡◌, refl, sym, ap, subst, ◌∙◌}
use mathlib.Core.Bool.{true}
use mathlib.Core.List.{List, map}
use Prim.Native.Nat.{ℕ, max, ◌+◌, ◌-◌, ◌*◌, ◌/◌, ◌%◌, ◌^◌, ◌≤◌, ◌<◌}
use native.Mathlib.Decide.{dec_lt, ℕ_discrete}
use native.Mathlib.Nat.{add_comm, add-mul, lt_of_lt_of_le, mod-lt, mul_assoc, mul_comm, zero-add}
use native.Mathlib.Omega.{arith}
use borrow.Author.Tests.{eq-eqb, eqb-true, le-leb, le-ltb, lt-leb, lt-ltb, ne_eqb}
use lib.Arith.{digits_lt}
use lib.Dec.{eqb, leb, ltb}
use lib.ListN.{get_or, length, length-map}
use lib.Pow.{field, high, low, mod-mod-pow, pow-add, pow_mono, pow_pos, shl_exact, shl_lt, shr_lt, shr-shr}
use Rattle.sequences.specs.Choice.{pick}
use Rattle.sequences.specs.Range.{numbers_from}
use Rattle.sequences.specs.Select.{each_passes}
use Rattle.sequences.proofs.Parts.{get_or_map}
use Rattle.sequences.proofs.Range.{get_or_range, length_range, range_in}
use Rattle.sequences.proofs.Select.{all_of}
use Rattle.waiting_lists.specs.Lists.{place_in}

-- ---- one place

-- a place is told by the bits up to it
same_low : (a b n i : ℕ) → a % 2 ^ (4 * n) ≡ b % 2 ^ (4 * n) → i < n → place_in a i ≡ place_in b i
unfolding place_in
same_low a b n i e h =
    let d : (4 * n - (4 + 4 * i)) + (4 + 4 * i) ≡ 4 * n = omega arith in
    let up : (x : ℕ) → x % 2 ^ (4 + 4 * i) ≡ x % 2 ^ (4 * n) % 2 ^ (4 + 4 * i) = λ x. sym (mod-mod-pow x (4 * n - (4 + 4 * i)) (4 + 4 * i)) ∙ ap (λ m. x % 2 ^ m % 2 ^ (4 + 4 * i)) d in
    let same : a % 2 ^ (4 + 4 * i) ≡ b % 2 ^ (4 + 4 * i) = up a ∙ ap (λ x. x % 2 ^ (4 + 4 * i)) e ∙ sym (up b) in
    sym (field a 4 (4 * i)) ∙ ap (λ x. x / 2 ^ (4 * i)) same ∙ field b 4 (4 * i)

-- those from the i-th on are those of the bits above
place_up : (a i k : ℕ) → place_in a (i + k) ≡ place_in (a / 2 ^ (4 * i)) k
unfolding place_in
place_up a i k = let e : 4 * (i + k) ≡ 4 * i + 4 * k = omega arith in ap (λ n. a / 2 ^ n % 16) e ∙ ap (λ x. x % 16) (sym (shr-shr a (4 * i) (4 * k)))

-- ---- i places of an order, and others above them

abbrev pub glued : ℕ → ℕ → ℕ → ℕ
glued a i hi = a % 2 ^ (4 * i) + hi * 2 ^ (4 * i)

module _ (a i hi : ℕ) where
  lo : a % 2 ^ (4 * i) < 2 ^ (4 * i)
  lo = mod-lt a (pow_pos (4 * i))

  turned : glued a i hi ≡ hi * 2 ^ (4 * i) + a % 2 ^ (4 * i)
  turned = add_comm (a % 2 ^ (4 * i)) (hi * 2 ^ (4 * i))

  pub glued_low : (j : ℕ) → j < i → place_in (glued a i hi) j ≡ place_in a j
  glued_low j h = same_low (glued a i hi) a i j (ap (λ x. x % 2 ^ (4 * i)) turned ∙ low hi (4 * i) lo) h

  pub glued_high : (k : ℕ) → place_in (glued a i hi) (i + k) ≡ place_in hi k
  glued_high k = place_up (glued a i hi) i k ∙ ap (λ x. place_in x k) (ap (λ x. x / 2 ^ (4 * i)) turned ∙ high hi (4 * i) lo)

  pub glued_fits : (n m : ℕ) → hi < 2 ^ n → n + 4 * i ≡ m → glued a i hi < 2 ^ m
  glued_fits n m h e = subst (λ x. x < 2 ^ m) (sym turned) (subst (λ x. hi * 2 ^ (4 * i) + a % 2 ^ (4 * i) < x) (sym (pow-add 2 n (4 * i)) ∙ ap (λ x. 2 ^ x) e) (digits_lt h lo))

-- ---- without the i-th
module _ (a i : ℕ) (h : i < 16) where
  abbrev pub after : ℕ
  after = a / 2 ^ (4 * i) / 16

  after_below : a < 2 ^ 64 → after < 2 ^ (60 - 4 * i)
  after_below f =
      let e : 64 ≡ 60 - 4 * i + (4 * i + 4) = omega arith in
      subst (λ x. x < 2 ^ (60 - 4 * i)) (sym (shr-shr a (4 * i) 4)) (shr_lt (60 - 4 * i) (4 * i + 4) (subst (λ x. a < 2 ^ x) e f))

  pub after_shl : a < 2 ^ 64 → after * 2 ^ (4 * i) % 2 ^ 64 ≡ after * 2 ^ (4 * i)
  after_shl f = shl_exact (60 - 4 * i) (4 * i) 64 (after_below f) (omega arith)

  pub without_fits : a < 2 ^ 64 → glued a i after < 2 ^ 60
  without_fits f = glued_fits a i after (60 - 4 * i) 60 (after_below f) (omega arith)

  pub without_later : (j : ℕ) → i ≤ j → place_in (glued a i after) j ≡ place_in a (j + 1)
  without_later j k =
      let e : j ≡ i + (j - i) = omega arith in
      let f : i + (1 + (j - i)) ≡ j + 1 = omega arith in
      ap (place_in (glued a i after)) e ∙ glued_high a i after (j - i) ∙ sym (place_up (a / 2 ^ (4 * i)) 1 (j - i)) ∙ sym (place_up a i (1 + (j - i))) ∙ ap (place_in a) f

-- ---- with one more as the i-th
module _ (a i p : ℕ) (h : i < 16) (f : a < 2 ^ 60) (k : p < 16) where
  abbrev pub from : ℕ
  from = a / 2 ^ (4 * i)

  from-below : from < 2 ^ (60 - 4 * i)
  from-below = let e : 60 ≡ 60 - 4 * i + 4 * i = omega arith in shr_lt (60 - 4 * i) (4 * i) (subst (λ x. a < 2 ^ x) e f)

  pub place_shl : p * 2 ^ (4 * i) % 2 ^ 64 ≡ p * 2 ^ (4 * i)
  place_shl = shl_exact 4 (4 * i) 64 k (omega arith)

  pub from_shl : from * 2 ^ (4 * i) % 2 ^ 64 * 16 % 2 ^ 64 ≡ from * 2 ^ (4 * i) * 16
  from_shl =
      let e : 60 - 4 * i + 4 * i ≡ 60 = omega arith in
      let b : from * 2 ^ (4 * i) < 2 ^ 60 = subst (λ x. from * 2 ^ (4 * i) < 2 ^ x) e (shl_lt (60 - 4 * i) (4 * i) from-below) in
      ap (λ x. x * 16 % 2 ^ 64) (shl_exact (60 - 4 * i) (4 * i) 64 from-below (omega arith)) ∙ shl_exact 60 4 64 b (omega arith)

  pub with_fits_first : a % 2 ^ (4 * i) + p * 2 ^ (4 * i) < 2 ^ 64
  with_fits_first = lt_of_lt_of_le (glued_fits a i p 4 (4 + 4 * i) k refl) (pow_mono {i = 4 + 4 * i} {j = 64} (omega arith))

  pub with_glued : a % 2 ^ (4 * i) + p * 2 ^ (4 * i) + from * 2 ^ (4 * i) * 16 ≡ glued a i (from * 16 + p)
  with_glued =
      let e : (from * 16 + p) * 2 ^ (4 * i) ≡ from * 16 * 2 ^ (4 * i) + p * 2 ^ (4 * i) = add-mul (from * 16) p (2 ^ (4 * i)) in
      let g : from * 16 * 2 ^ (4 * i) ≡ from * 2 ^ (4 * i) * 16 = mul_assoc from 16 (2 ^ (4 * i)) ∙ ap (λ x. from * x) (mul_comm 16 (2 ^ (4 * i))) ∙ sym (mul_assoc from (2 ^ (4 * i)) 16) in
      omega (arith, e, g)

  pub with_fits : glued a i (from * 16 + p) < 2 ^ 64
  with_fits = glued_fits a i (from * 16 + p) (60 - 4 * i + 4) 64 (subst (λ x. from * 16 + p < x) (sym (pow-add 2 (60 - 4 * i) 4)) (digits_lt from-below k)) (omega arith)

  pub with_there : place_in (glued a i (from * 16 + p)) i ≡ p
  unfolding place_in
  with_there =
      let e : i + 0 ≡ i = omega arith in
      ap (place_in (glued a i (from * 16 + p))) (sym e) ∙ glued_high a i (from * 16 + p) 0 ∙ omega (arith, k)

  pub with_later : (j : ℕ) → i ≤ j → place_in (glued a i (from * 16 + p)) (j + 1) ≡ place_in a j
  with_later j l =
      let e : j + 1 ≡ i + (1 + (j - i)) = omega arith in
      let g : i + (j - i) ≡ j = omega arith in
      ap (place_in (glued a i (from * 16 + p))) e ∙ glued_high a i (from * 16 + p) (1 + (j - i)) ∙ place_up (from * 16 + p) 1 (j - i)
      ∙ ap (λ x. place_in x (j - i)) (high from 4 k) ∙ sym (place_up a i (j - i)) ∙ ap (place_in a) g

-- ---- one that goes to stand at last: which one of the order before stands where
abbrev pub Moved : (a r i last : ℕ) → Type 0
Moved a r i last = ((j : ℕ) → j < i → place_in r j ≡ place_in a j) × ((j : ℕ) → i ≤ j → j < last → place_in r j ≡ place_in a (j + 1))
    × (place_in r last ≡ place_in a i) × ((j : ℕ) → last < j → j < 16 → place_in r j ≡ place_in a j)

-- where the s-th of them goes
abbrev goes_to : ℕ → ℕ → ℕ → ℕ
goes_to i last s = pick (ltb s i) s (pick (eqb s i) last (pick (leb s last) (s - 1) s))

moved_from : (a r i last : ℕ) → i ≤ last → Moved a r i last → (j : ℕ) → j < 16 → (s : ℕ) × (place_in r j ≡ place_in a s) × (s ≤ max j last) × (goes_to i last s ≡ j)
moved_from a r i last o m j h = elim (dec_lt j i) [
  | yes k ↦ (j, m.0 j k, omega arith, rw (lt-ltb j i k))
  | no k ↦ elim (dec_lt j last) [
    | yes l ↦ (let e : j + 1 - 1 ≡ j = omega arith in
        (j + 1, m.1 j (omega arith) l, omega arith, rw (le-ltb (j + 1) i (omega arith), ne_eqb (j + 1) i (λ q. omega (arith, q)), le-leb (j + 1) last (omega arith)) e))
    | no l ↦ elim (ℕ_discrete j last) [
      | yes e ↦ (i, ap (place_in r) e ∙ m.2, omega arith, rw (le-ltb i i (omega arith), eq-eqb i i refl) (sym e))
      | no e ↦ (
          let past : last < j = omega (arith, e) in
          (j, m.3 j past h, omega arith, rw (le-ltb j i (omega arith), ne_eqb j i (λ q. omega (arith, q, past)), lt-leb j last past)))
    ]
  ]
]

-- none comes to stand at two places
module _ (a r i last places : ℕ) (o : i ≤ last) (l : last < places) (most : places ≤ 16) (m : Moved a r i last) where
  pub moved_inside : ((j : ℕ) → j < places → place_in a j < places) → (j : ℕ) → j < places → place_in r j < places
  moved_inside inside j h =
      let (s, e, b, back) = moved_from a r i last o m j (omega arith) in
      let f : place_in a s < places = inside s (omega arith) in
      omega (arith, e, f)

  pub moved_distinct : ((j k : ℕ) → j < k → k < places → place_in a j ≡ place_in a k → ⊥) → (j k : ℕ) → j < k → k < places → place_in r j ≡ place_in r k → ⊥
  moved_distinct distinct j k h g q =
      let (s, e, b, back) = moved_from a r i last o m j (omega arith) in
      let (s', e', b', back') = moved_from a r i last o m k (omega arith) in
      elim (dec_lt s s') [
        | yes n ↦ distinct s s' n (omega arith) (sym e ∙ q ∙ e')
        | no n ↦ elim (dec_lt s' s) [
          | yes n' ↦ distinct s' s n' (omega arith) (sym e' ∙ sym q ∙ e)
          | no n' ↦ (let same : s ≡ s' = omega arith in let z : j ≡ k = sym back ∙ ap (goes_to i last) same ∙ back' in absurd (omega arith))
        ]
      ]

-- ---- the order at first: each place at its own number
each_first : each_passes (λ j. eqb (place_in 18364758544493064720 j) j) (numbers_from 0 16) ≡ true
unfolding place_in numbers_from each_passes
each_first = refl

pub place-first : (i : ℕ) → i < 16 → place_in 18364758544493064720 i ≡ i
place-first i h = eqb-true (place_in 18364758544493064720 i) i (all_of (λ j. eqb (place_in 18364758544493064720 j) j) (numbers_from 0 16) each_first (range_in 0 16 i (omega arith) (omega arith)))

-- ---- the first n places

abbrev pub firsts : ℕ → ℕ → List ℕ
firsts n a = map (place_in a) (numbers_from 0 n)

pub length_firsts : (n a : ℕ) → length (firsts n a) ≡ n
length_firsts n a = length-map (numbers_from 0 n) (place_in a) ∙ length_range 0 n

pub firsts_at : (n a i : ℕ) → i < n → get_or (firsts n a) i 0 ≡ place_in a i
firsts_at n a i h = get_or_map (place_in a) (numbers_from 0 n) i 0 0 (omega (arith, length_range 0 n)) ∙ ap (place_in a) (get_or_range 0 n i 0 h ∙ zero-add i)
