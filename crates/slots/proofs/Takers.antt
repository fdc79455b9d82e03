-- The inputs that look at each slot.
use mathlib.Core.Bool.{true, false}
use mathlib.Core.List.{List}
use mathlib.Core.Path.{◌≡◌, refl, sym, ◌∙◌}
use Prim.Native.Nat.{ℕ, ◌+◌, ◌*◌, ◌%◌, ◌^◌, ◌≤◌, ◌<◌}
use native.Mathlib.Decide.{ℕ_discrete}
use native.Mathlib.Nat.{one-mul}
use native.Mathlib.Omega.{arith}
use borrow.Author.Tests.{eq-eqb, ne_eqb}
use lib.Bits.{bit_or, or_lt}
use lib.Dec.{eqb, lit<}
use lib.ListN.{get_or, length-set, set}
use lib.Pow.{pow-lt, pow_pos, shl_exact}
use lib.Seq.{get_or-set_other, get_or-set_same}
use Rattle.sequences.proofs.Booleans.{or_right}
use Rattle.event_sets.specs.Sets.{is_set}
use Rattle.event_sets.proofs.Words.{set_beyond, set_mark}
use Rattle.progress.specs.Seats.{Takers, seat_slot}
use Rattle.slots.specs.Steps.{TakersTo}
use Rattle.slots.proofs.Rooms.{zeros, zeros_at}

-- what holds for each input before input i of node k, and for that one
pub inputs-next : (P : ℕ → ℕ → Type 0) (k i : ℕ) → i < 3 → ((j h : ℕ) → h < 3 → 3 * j + h < 3 * k + i → P j h) → P k i → (j h : ℕ) → h < 3 → 3 * j + h < 3 * k + (i + 1) → P j h
inputs-next P k i in_three before now j h in-h l = elim (ℕ_discrete (3 * j + h) (3 * k + i)) [
  | yes e ↦ (let same-j : j ≡ k = omega arith in let same-h : h ≡ i = omega arith in rw (same-j, same-h) now)
  | no d ↦ before j h in-h (omega arith)
]

-- ---- at first none
pub takers_start : (seats : List ℕ) → TakersTo seats 0 0 (zeros 50)
takers_start seats =
    record {
      size = refl;
      below = λ q b l. omega (arith, zeros_at 50 q, pow_pos b);
      takes = λ j h m l. absurd (omega arith);
      others = λ q j h in-q in-4 none. rw (zeros_at 50 q) (set_beyond 0 (4 * j + h) (pow_pos (4 * j + h)));
    }

-- what the code's `1 << b` is
pub one_shl : (b : ℕ) → b < 64 → 1 * 2 ^ b % 2 ^ 64 ≡ 2 ^ b
one_shl b h = shl_exact 1 b 64 (lit< tt) (omega arith) ∙ one-mul (2 ^ b)

-- ---- with input i of node k, where the seats of the inputs before are as they were
module _ (seats takers after : List ℕ) (k i slot node : ℕ) (t : TakersTo seats k i takers) (in_three : i < 3) (in-slots : slot < 50) (same : node ≡ 2 ^ (4 * k + i))
    (kept : (j h : ℕ) → h < 3 → 3 * j + h < 3 * k + i → seat_slot after j h ≡ seat_slot seats j h) (now : seat_slot after k i ≡ slot) where
  abbrev marked : ℕ
  marked = bit_or (get_or takers slot 0) node

  at : get_or (set takers slot marked) slot 0 ≡ marked
  at = get_or-set_same takers slot marked 0 (omega (arith, t.size))

  abbrev Takes : ℕ → ℕ → Type 0
  Takes j h = (q : ℕ) → q < 50 → seat_slot after j h ≡ q → is_set (get_or (set takers slot marked) q 0) (4 * j + h) ≡ true

  pub takers_turn : TakersTo after k (i + 1) (set takers slot marked)
  takers_turn = record { size = length-set takers slot marked ∙ t.size; below = below; takes = inputs-next Takes k i in_three before one; others = others }
    where
      below : (q b : ℕ) → 4 * k + (i + 1) ≤ b → get_or (set takers slot marked) q 0 < 2 ^ b
      below q b l = elim (ℕ_discrete q slot) [
        | yes e ↦ rw (e, at, same) (or_lt b (get_or takers slot 0) (2 ^ (4 * k + i)) (t.below slot b (omega arith)) (pow-lt {i = 4 * k + i} {j = b} (omega arith)))
        | no d ↦ rw (get_or-set_other takers slot q marked 0 d) (t.below q b (omega arith))
      ]

      before : (j h : ℕ) → h < 3 → 3 * j + h < 3 * k + i → Takes j h
      before j h m l q in-q e =
          let old = t.takes j h m l q in-q (sym (kept j h m l) ∙ e) in
          elim (ℕ_discrete q slot) [
            | yes x ↦ rw (x, at, same) (set_mark (get_or takers slot 0) (4 * k + i) (4 * j + h) ∙ or_right (eqb (4 * j + h) (4 * k + i)) (is_set (get_or takers slot 0) (4 * j + h)) (rw x at old))
            | no d ↦ rw (get_or-set_other takers slot q marked 0 d) old
          ]

      one : Takes k i
      one q in-q e = rw (← e, now, at, same) (set_mark (get_or takers slot 0) (4 * k + i) (4 * k + i) ∙ rw (eq-eqb (4 * k + i) (4 * k + i) refl))

      others : (q j h : ℕ) → q < 50 → h < 4 → (h < 3 → 3 * j + h < 3 * k + (i + 1) → seat_slot after j h ≡ q → ⊥) → is_set (get_or (set takers slot marked) q 0) (4 * j + h) ≡ false
      others q j h in-q in-4 none =
          let old = t.others q j h in-q in-4 (λ m l e. none m (omega arith) (kept j h m l ∙ e)) in
          elim (ℕ_discrete q slot) [
            | yes x ↦ (let other : 4 * j + h ≡ 4 * k + i → ⊥ = λ e.
                let same-j : j ≡ k = omega arith in
                let same-h : h ≡ i = omega arith in
                none (omega arith) (omega arith) (rw (same-j, same-h) (now ∙ sym x)) in
                rw (x, at, same) (set_mark (get_or takers slot 0) (4 * k + i) (4 * j + h) ∙ rw (ne_eqb (4 * j + h) (4 * k + i) other) (rw x at old)))
            | no d ↦ rw (get_or-set_other takers slot q marked 0 d) old
          ]

-- ---- all inputs of a node, and all nodes
pub takers_next : {seats takers : List ℕ} {k : ℕ} → TakersTo seats k 3 takers → TakersTo seats (k + 1) 0 takers
takers_next t =
    record {
      size = t.size;
      below = λ q b l. t.below q b (omega arith);
      takes = λ j h m l. t.takes j h m (omega arith);
      others = λ q j h in-q in-4 none. t.others q j h in-q in-4 (λ m l. none m (omega arith));
    }

pub takers_all : {seats takers : List ℕ} {k : ℕ} → TakersTo seats k 0 takers → Takers seats k takers
takers_all {k = k} t =
    record {
      size = t.size;
      below = λ q. t.below q (4 * k) (omega arith);
      takes = λ q j i in-q in-n in_three. t.takes j i in_three (omega arith) q in-q;
      others = λ q j i in-q in-4 none. t.others q j i in-q in-4 (λ m l. none m (omega arith));
    }

-- they only go by the slots
pub takers_kept : (seats after takers : List ℕ) (n : ℕ) → ((j h : ℕ) → j < n → h < 3 → seat_slot after j h ≡ seat_slot seats j h) → Takers seats n takers → Takers after n takers
takers_kept seats after takers n same t =
    record {
      size = t.size;
      below = t.below;
      takes = λ q j i in-q in-n in_three e. t.takes q j i in-q in-n in_three (sym (same j i in-n in_three) ∙ e);
      others = λ q j i in-q in-4 none. t.others q j i in-q in-4 (λ m in-n e. none m in-n (same j i in-n m ∙ e));
    }
