-- The rows of codes say what document 01 says of each operator.
use mathlib.Core.List.{List, [], ◌∷◌, map}
use mathlib.Core.Path.{◌≡◌, refl, sym, ap, ◌∙◌}
use mathlib.Core.Bool.{false}
use Prim.Native.Nat.{ℕ, zero, suc, ◌<◌}
use native.Mathlib.Omega.{arith}
use lib.ListN.{get_or, length}
use Rattle.sequences.proofs.Parts.{get_or_map}
use Rattle.arrivals.specs.Meetings.{Action, nothing, action_from, may_wait}
use Rattle.operators.specs.Table.{action_of, operator_of, table}

-- operators 1 to 6 are the six rows, in order
pub operators-are : map operator_of (1 ∷ 2 ∷ 3 ∷ 4 ∷ 5 ∷ 6 ∷ []) ≡ table
unfolding operator_of
operators-are = refl

-- ---- the codes of a row say what the operator's row says of each input
abbrev Says : List ℕ → ℕ → Type 0
Says codes operator = (length codes ≡ 3) × ((input : ℕ) → input < 3 → action_from (get_or codes input 0) ≡ action_of operator input)

row_says : (codes : List ℕ) (operator : ℕ) → length codes ≡ 3 → map action_from codes ≡ operator_of operator → Says codes operator
unfolding action_of
row_says codes operator three same =
    (three, λ input h. sym (get_or_map action_from codes input 0 nothing (omega arith)) ∙ ap (λ (l : List Action). get_or l input nothing) same)

pub or-says : (operator : ℕ) → operator ≡ 1 → Says (0 ∷ 0 ∷ 7 ∷ []) operator
unfolding action_from operator_of
or-says operator e = row_says (0 ∷ 0 ∷ 7 ∷ []) operator refl (rw e)

pub and-says : (operator : ℕ) → operator ≡ 2 → Says (3 ∷ 3 ∷ 7 ∷ []) operator
unfolding action_from operator_of
and-says operator e = row_says (3 ∷ 3 ∷ 7 ∷ []) operator refl (rw e)

pub aperiodic-says : (operator : ℕ) → operator ≡ 4 → Says (1 ∷ 2 ∷ 4 ∷ []) operator
unfolding action_from operator_of
aperiodic-says operator e = row_says (1 ∷ 2 ∷ 4 ∷ []) operator refl (rw e)

pub accumulated-says : (operator : ℕ) → operator ≡ 5 → Says (1 ∷ 1 ∷ 5 ∷ []) operator
unfolding action_from operator_of
accumulated-says operator e = row_says (1 ∷ 1 ∷ 5 ∷ []) operator refl (rw e)

pub absence-says : (operator : ℕ) → operator ≡ 6 → Says (1 ∷ 1 ∷ 6 ∷ []) operator
unfolding action_from operator_of
absence-says operator e = row_says (1 ∷ 1 ∷ 6 ∷ []) operator refl (rw e)

-- 3, and any other number
seq_row : (o : ℕ) → (o ≡ 1 → ⊥) → (o ≡ 2 → ⊥) → (o ≡ 4 → ⊥) → (o ≡ 5 → ⊥) → (o ≡ 6 → ⊥) → map action_from (1 ∷ 2 ∷ 7 ∷ []) ≡ operator_of o
unfolding action_from operator_of
seq_row zero n1 n2 n4 n5 n6 = refl
seq_row (suc zero) n1 n2 n4 n5 n6 = absurd (n1 refl)
seq_row (suc (suc zero)) n1 n2 n4 n5 n6 = absurd (n2 refl)
seq_row (suc (suc (suc zero))) n1 n2 n4 n5 n6 = refl
seq_row (suc (suc (suc (suc zero)))) n1 n2 n4 n5 n6 = absurd (n4 refl)
seq_row (suc (suc (suc (suc (suc zero))))) n1 n2 n4 n5 n6 = absurd (n5 refl)
seq_row (suc (suc (suc (suc (suc (suc zero)))))) n1 n2 n4 n5 n6 = absurd (n6 refl)
seq_row (suc (suc (suc (suc (suc (suc (suc n))))))) n1 n2 n4 n5 n6 = refl

pub seq-says : (operator : ℕ) → (operator ≡ 1 → ⊥) → (operator ≡ 2 → ⊥) → (operator ≡ 4 → ⊥) → (operator ≡ 5 → ⊥) → (operator ≡ 6 → ⊥) → Says (1 ∷ 2 ∷ 7 ∷ []) operator
seq-says operator n1 n2 n4 n5 n6 = row_says (1 ∷ 2 ∷ 7 ∷ []) operator refl (seq_row operator n1 n2 n4 n5 n6)

-- ---- what comes by the third input never waits, by any operator
pub third_never : (operator : ℕ) → may_wait (action_of operator 2) ≡ false
unfolding action_of operator_of may_wait
third_never zero = refl
third_never (suc zero) = refl
third_never (suc (suc zero)) = refl
third_never (suc (suc (suc zero))) = refl
third_never (suc (suc (suc (suc zero)))) = refl
third_never (suc (suc (suc (suc (suc zero))))) = refl
third_never (suc (suc (suc (suc (suc (suc zero)))))) = refl
third_never (suc (suc (suc (suc (suc (suc (suc n))))))) = refl
