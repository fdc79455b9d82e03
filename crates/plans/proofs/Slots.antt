-- Slots: what the code puts in a node's row gives the node back, if it has no fault.
use mathlib.Core.Bool.{true, false, true≢false}
use mathlib.Core.List.{List}
use mathlib.Core.Logic.{⊎_elim}
use mathlib.Core.Path.{◌≡◌, refl, sym, ◌∙◌}
use Prim.Native.Nat.{ℕ, zero, suc, ◌+◌, ◌-◌, ◌≤◌, ◌<◌}
use native.Mathlib.Decide.{dec_lt, ℕ_discrete}
use native.Mathlib.Omega.{arith}
use borrow.Author.Tests.{eq-eqb, ne_eqb, le-leb, lt-leb, le-ltb, lt-ltb}
use lib.ListN.{get_or, length, set}
use lib.Seq.{get_or-set_other, get_or-set_same}
use Rattle.plans.specs.Reader.{is_input, node_fault}
use Rattle.plans.specs.Views.{RowOf, SlotOf, Slotted, SlotsBelow, input_from, no_row, node_of, slot_at}
use Rattle.plans.specs.declared.Node.{Node}
use Rattle.plans.specs.declared.NodeRow.{NodeRow}
use Rattle.plans.proofs.Limits.{node_ok, ok_input}

-- ---- the slot of an input, by the code's cases
module _ (kinds place input : ℕ) (few : kinds ≤ 32) where
  pub slot-kind : input < kinds → SlotOf kinds place input input
  unfolding input_from
  slot-kind h =
      let small : input < 33 = omega arith in
      let other : input ≡ 33 → ⊥ = λ e. omega arith in
      record { allowed = rw (lt-ltb input kinds h, ne_eqb input 33 other); from = λ n. rw (lt-ltb input 33 small); below = omega arith }

  pub slot-other : kinds ≤ input → input < 32768 → SlotOf kinds place input 33
  slot-other h m = record { allowed = rw (le-ltb input kinds h, lt-leb 32768 input m); from = λ n. absurd (n refl); below = omega arith }

  pub slot-node : 32768 ≤ input → input - 32768 < place → SlotOf kinds place input (input - 32768 + 34)
  unfolding input_from
  slot-node h m =
      let past : kinds ≤ input = omega arith in
      let slot : ℕ = input - 32768 + 34 in
      let large : 33 ≤ slot = omega arith in
      let other : slot ≡ 33 → ⊥ = λ e. omega arith in
      record {
        allowed = rw (le-ltb input kinds past, le-leb 32768 input h, lt-ltb (input - 32768) place m, ne_eqb slot 33 other);
        from = λ n. rw (le-ltb slot 33 large, ne_eqb slot 33 other) (omega arith);
        below = omega arith;
      }

  pub slot-past : 32768 ≤ input → place ≤ input - 32768 → SlotOf kinds place input 33
  slot-past h m =
      let past : kinds ≤ input = omega arith in
      record { allowed = rw (le-ltb input kinds past, le-leb 32768 input h, le-ltb (input - 32768) place m); from = λ n. absurd (n refl); below = omega arith }

-- ---- a slot says whether the input is allowed
module _ (kinds place input slot : ℕ) (s : SlotOf kinds place input slot) where
  pub slot-refused : slot ≡ 33 → is_input kinds place input ≡ false
  slot-refused e = s.allowed ∙ rw (eq-eqb slot 33 e)

  pub slot-allowed : (slot ≡ 33 → ⊥) → is_input kinds place input ≡ true
  slot-allowed d = s.allowed ∙ rw (ne_eqb slot 33 d)

  -- and gives it back
  slot_gives : is_input kinds place input ≡ true → input_from slot ≡ input
  slot_gives h = s.from (λ e. true≢false (sym h ∙ slot-refused e))

  slot-none : kinds ≤ 32 → place < 16 → input ≡ 65535 → input_from slot ≡ input
  unfolding input_from
  slot-none few early e = elim (ℕ_discrete slot 33) [
    | yes h ↦ rw (h, e)
    | no d ↦ (let past : kinds ≤ 65535 = omega arith in let late : place ≤ 32767 = omega arith in
        let no-input : is_input kinds place 65535 ≡ false = rw (le-ltb 65535 kinds past, le-ltb 32767 place late) in
        absurd (true≢false (sym (slot-allowed d) ∙ rw e no-input)))
  ]

-- ---- the row of a node
module _ (kinds place : ℕ) (n : Node) (row : NodeRow) (r : RowOf kinds place n row) where
  pub row_gives : kinds ≤ 32 → place < 16 → node_fault kinds place n ≡ 0 → node_of row ≡ n
  row_gives few early e =
      let k = node_ok kinds place n e in
      let left = slot_gives kinds place n.left (get_or row.slots 0 0) r.left (ok_input kinds place n.left k.left) in
      let middle = slot_gives kinds place n.middle (get_or row.slots 1 0) r.middle (ok_input kinds place n.middle k.middle) in
      let third = ⊎_elim (λ t. slot-none kinds place n.third (get_or row.slots 2 0) r.third few early t.1)
      (λ t. slot_gives kinds place n.third (get_or row.slots 2 0) r.third (ok_input kinds place n.third t.1)) k.third in
      rw (r.operator, r.context, left, middle, third)

  pub row_below : SlotsBelow place row
  row_below zero h = r.left.below
  row_below (suc zero) h = r.middle.below
  row_below (suc (suc zero)) h = r.third.below
  row_below (suc (suc (suc i))) h = absurd (omega arith)

-- ---- the first rows
pub slotted-none : (n : ℕ) (rows : List NodeRow) → n ≡ 0 → Slotted n rows
unfolding Slotted
slotted-none n rows e k h = absurd (omega arith)

-- with one row more
pub slotted-more : (i : ℕ) (rows : List NodeRow) (row : NodeRow) → i < length rows → Slotted i rows → SlotsBelow i row → Slotted (i + 1) (set rows i row)
unfolding Slotted
slotted-more i rows row fits before now k h = elim (ℕ_discrete k i) [
  | yes e ↦ rw (e, get_or-set_same rows i row no_row fits) now
  | no d ↦ rw (get_or-set_other rows i k row no_row d) (before k (omega arith))
]

pub slotted-at : (n : ℕ) (rows : List NodeRow) → Slotted n rows → (k : ℕ) → k < n → SlotsBelow k (get_or rows k no_row)
unfolding Slotted
slotted-at n rows s = s

-- ---- an input from a slot below 34 + k has that slot at node k
pub slot_same : (k slot : ℕ) → k < 16 → slot < 34 + k → slot ≡ slot_at k (input_from slot)
unfolding slot_at input_from
slot_same k slot early h = elim (dec_lt slot 33) [
  | yes l ↦ rw (lt-ltb slot 33 l, lt-ltb slot 33 l)
  | no m ↦ elim (ℕ_discrete slot 33) [
    | yes e ↦ (let late : k ≤ 32767 = omega arith in rw (e, le-ltb 32767 k late))
    | no d ↦ (let large : 33 ≤ slot = omega arith in
        let x : ℕ = slot - 34 + 32768 in
        let a : 33 ≤ x = omega arith in
        let b : 32768 ≤ x = omega arith in
        let c : x - 32768 < k = omega arith in
        rw (le-ltb slot 33 large, ne_eqb slot 33 d, le-ltb x 33 a, le-ltb x 32768 b, lt-ltb (x - 32768) k c) (omega arith))
  ]
]
