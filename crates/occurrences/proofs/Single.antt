-- An only timestamp: its byte, its tick, and the join of two that are clearly apart.
use Rattle.std.proofs.Common.{◌≡◌, ℕ, zero, suc, ◌+◌, ◌-◌, ◌*◌, ◌/◌, ◌%◌, ◌^◌, ◌<◌, ◌≤◌, List, length, get_or, sym, refl, ap, ◌∙◌, subst, inl, inr, arith, shl_exact}
use native.Mathlib.Decide.{ℕ_discrete, dec_lt}
use native.Mathlib.Nat.{zero-mod}
use lib.Count.{trailing_le, count_trailing_zeros}
use lib.Pow.{mod-mod-pow, mod-pow-add, split}
use Rattle.timestamps.specs.Order.{blank}
use Rattle.timestamps.proofs.Stamps.{clear_cases, one_clock, two-clocks}
use Rattle.occurrences.specs.Packed.{Names, Notes, byte_at}
use Rattle.occurrences.specs.Steps.{Inside, Lowest, Only, Settled, later_at, note_at}
use Rattle.occurrences.proofs.Bytes.{lone_byte, other_byte}
use Rattle.occurrences.proofs.Joins.{kept_large, kept_small, later_first, later_second}

-- ---- the byte above the zeros at a number's end
zeros_divide : (d n : ℕ) → n % 2 ^ count_trailing_zeros d n ≡ 0
unfolding count_trailing_zeros
zeros_divide zero n = omega arith
zeros_divide (suc d) n = elim (dec_lt (n % 2) 1) [
  | yes l ↦ let even : n % 2 ≡ 0 = omega arith in
      let t = count_trailing_zeros d (n / 2) in
      let e : t + 1 ≡ suc t = omega arith in
      rw even (ap (λ m. n % 2 ^ m) (sym e) ∙ omega (arith, mod-pow-add n t 1, zeros_divide d (n / 2)))
  | no l ↦ let odd : n % 2 ≡ 1 = omega arith in
      rw odd (omega arith)
]

module _ (w : ℕ) where
  abbrev zeros : ℕ
  zeros = count_trailing_zeros 64 w

  -- its place, which wraps for 0 only
  abbrev at : ℕ
  at = zeros / 8 % 8

  pub few_zeros : zeros ≤ 64
  few_zeros = trailing_le 64 w

  none_below : w % 2 ^ (8 * at) ≡ 0
  none_below =
      let a : zeros - 8 * at + 8 * at ≡ zeros = omega arith in
      let z : w % 2 ^ (zeros - 8 * at + 8 * at) ≡ 0 = ap (λ m. w % 2 ^ m) a ∙ zeros_divide 64 w in
      sym (mod-mod-pow w (zeros - 8 * at) (8 * at)) ∙ ap (λ m. m % 2 ^ (8 * at)) z ∙ zero-mod (2 ^ (8 * at))

  module _ (s : w / 2 ^ (8 * at) < 256) where
    whole : w / 2 ^ (8 * at) * 2 ^ (8 * at) % 2 ^ 64 ≡ w
    whole = shl_exact 8 (8 * at) 64 s (omega arith) ∙ omega (arith, split w (8 * at), none_below)

    pub only_byte : Only w (w / 2 ^ (8 * at))
    only_byte = record {
      place = at;
      within = omega arith;
      here = subst (λ v. byte_at v at ≡ w / 2 ^ (8 * at)) whole (lone_byte (w / 2 ^ (8 * at)) at s (omega arith));
      elsewhere = λ k l d. subst (λ v. byte_at v k ≡ 0) whole (other_byte (w / 2 ^ (8 * at)) at s (omega arith) k d);
    }

-- ---- what it says of every place
module _ (w n : ℕ) (o : Only w n) where
  only_each : (P : ℕ → Type 0) → P 0 → P n → (k : ℕ) → k < 8 → P (byte_at w k)
  only_each P z p k l = elim (ℕ_discrete k o.place) [
    | yes e ↦ subst P (sym (ap (byte_at w) e ∙ o.here)) p
    | no d ↦ subst P (sym (o.elsewhere k l d)) z
  ]

  pub only_inside : {A : Type 0} (table : List A) → Inside 8 table w → n < length table
  only_inside table h = subst (λ m. m < length table) o.here (h o.place o.within)

  -- its tick is the lowest
  pub only_lowest : (globals : List ℕ) (t : ℕ) → get_or globals 0 0 ≡ 0 → t < 2 ^ 64 → (t + 1) % 2 ^ 64 ≡ get_or globals n 0 → Lowest 8 (note_at globals w) t
  only_lowest globals t z s e = record {
    size = s;
    least = only_each (λ m. 0 < get_or globals m 0 → t < get_or globals m 0) (λ p. absurd (omega (arith, p))) (λ p. omega (arith, p));
    some = elim (ℕ_discrete (get_or globals n 0) 0) [
      | yes y ↦ inl (only_each (λ m. get_or globals m 0 ≡ 0) z y, omega arith)
      | no y ↦ inr (o.place, o.within, ap (λ m. get_or globals m 0) o.here ∙ omega arith)
    ];
  }

-- ---- two that are clearly apart
module _ {ticks globals : List ℕ} (t : Notes ticks globals) where
  -- clearly earlier is earlier on one clock
  clear_stamp : (d e : ℕ) → d < length t.stamps → e < length t.stamps → (get_or t.stamps d blank).logger ≡ (get_or t.stamps e blank).logger
      → get_or globals (d + 1) 0 + 1 < get_or globals (e + 1) 0 → get_or ticks (d + 1) 0 < get_or ticks (e + 1) 0
  clear_stamp d e m l o h = elim (clear_cases t.clocks (get_or t.stamps d blank) (get_or t.stamps e blank) (omega (arith, t.global d m, t.global e l, h))) [
    | one_clock f b ↦ omega (arith, t.tick d m, t.tick e l, b)
    | two-clocks n b ↦ absurd (n o)
  ]

  -- also where there is no earlier one
  clear_tick : (k i j : ℕ) → Names t.stamps k i → Names t.stamps k j → get_or globals i 0 + 1 < get_or globals j 0 → get_or ticks i 0 < get_or ticks j 0
  clear_tick k i j m (inl e) h = absurd (let z : get_or globals j 0 ≡ 0 = rw e t.no_global in omega arith)
  clear_tick k i j (inl f) (inr (e, x, l, y)) h =
      let u : get_or ticks i 0 ≡ 0 = rw f t.no_tick in
      let v : get_or ticks j 0 ≡ (get_or t.stamps e blank).tick.0 + 1 = rw x (t.tick e l) in
      omega arith
  clear_tick k i j (inr (d, f, m, z)) (inr (e, x, l, y)) h = rw (f, x) (clear_stamp d e m l (z ∙ sym y) (rw (f, x) at h))

  -- the only event j of x, and clearly earlier the only event i of y; at each place f is x's where that is later, and y's where x has none
  module _ (x y i j : ℕ) (a : Only x j) (b : Only y i) (apart : get_or globals i 0 + 1 < get_or globals j 0)
      (p : (k : ℕ) → k < 8 → Names t.stamps k (byte_at x k)) (q : (k : ℕ) → k < 8 → Names t.stamps k (byte_at y k))
      (f : ℕ → ℕ) (later : (k : ℕ) → k < 8 → get_or ticks (byte_at y k) 0 < get_or ticks (byte_at x k) 0 → f k ≡ byte_at x k)
      (other : (k : ℕ) → k < 8 → byte_at x k ≡ 0 → f k ≡ byte_at y k) (size : x < 2 ^ 64) where
    earlier : (k : ℕ) → k < 8 → get_or globals (byte_at y k) 0 + 1 < get_or globals j 0
    earlier = only_each y i b (λ n. get_or globals n 0 + 1 < get_or globals j 0) (omega (arith, t.no_global, apart)) apart

    at_place : (k : ℕ) → k < 8 → k ≡ a.place → (byte_at x k ≡ j) × (f k ≡ j)
    at_place k l e =
        let here : byte_at x k ≡ j = ap (byte_at x) e ∙ a.here in
        (here, later k l (clear_tick k (byte_at y k) (byte_at x k) (q k l) (p k l) (rw here (earlier k l))) ∙ here)

    apart_settled : Settled globals f x
    apart_settled = record {
      highest = get_or globals j 0;
      top = record {
        most = λ k l. elim (ℕ_discrete k a.place) [
          | yes e ↦ rw (at_place k l e).1 (omega arith)
          | no d ↦ rw (other k l (a.elsewhere k l d)) (omega (arith, earlier k l))
        ];
        some = λ o. (a.place, a.within, ap (λ n. get_or globals n 0) (at_place a.place a.within refl).1);
      };
      kept = record {
        size = size;
        bytes = λ k l. elim (ℕ_discrete k a.place) [
          | yes e ↦ (at_place k l e).0 ∙ sym (rw (at_place k l e).1 (kept_large globals (get_or globals j 0) j (omega arith)))
          | no d ↦ a.elsewhere k l d ∙ sym (rw (other k l (a.elsewhere k l d)) (kept_small globals (get_or globals j 0) (byte_at y k) (omega (arith, earlier k l))))
        ];
      };
    }

  -- the later of two words, whichever it is
  module _ (a b i j : ℕ) (first : Only a i) (second : Only b j)
      (p : (k : ℕ) → k < 8 → Names t.stamps k (byte_at a k)) (q : (k : ℕ) → k < 8 → Names t.stamps k (byte_at b k)) where
    pub second_settled : get_or globals i 0 + 1 < get_or globals j 0 → b < 2 ^ 64 → Settled globals (later_at ticks a b) b
    second_settled h = apart_settled b a i j second first h q p (later_at ticks a b)
        (λ k l o. later_second ticks (byte_at a k) (byte_at b k) o)
        (λ k l z. later_first ticks (byte_at a k) (byte_at b k) (let u : get_or ticks (byte_at b k) 0 ≡ 0 = rw z t.no_tick in omega arith))

    pub first_settled : get_or globals j 0 + 1 < get_or globals i 0 → a < 2 ^ 64 → Settled globals (later_at ticks a b) a
    first_settled h = apart_settled a b j i first second h p q (later_at ticks a b)
        (λ k l o. later_first ticks (byte_at a k) (byte_at b k) (omega (arith, o)))
        (λ k l z. beside k z (q k l))
      where
        beside : (k : ℕ) → byte_at a k ≡ 0 → Names t.stamps k (byte_at b k) → later_at ticks a b k ≡ byte_at b k
        beside k z (inl e) = later_first ticks (byte_at a k) (byte_at b k) (let u : byte_at a k ≡ byte_at b k = z ∙ sym e in rw u (omega arith)) ∙ z ∙ sym e
        beside k z (inr (e, x, l, y)) =
            let u : get_or ticks (byte_at a k) 0 ≡ 0 = rw z t.no_tick in
            let v : get_or ticks (byte_at b k) 0 ≡ (get_or t.stamps e blank).tick.0 + 1 = rw x (t.tick e l) in
            later_second ticks (byte_at a k) (byte_at b k) (omega arith)
