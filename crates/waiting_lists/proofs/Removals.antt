-- Removals: those that are marked leave the order, from the last on, and their places come to stand behind.
use mathlib.Core.Path.{◌≡◌, refl, sym, ap, ap₂, ◌∙◌}
use mathlib.Core.Bool.{Bool, true, false}
use mathlib.Core.List.{List, [], ◌∷◌, ◌++◌, append-nil, map}
use Prim.Native.Nat.{ℕ, min, ◌+◌, ◌-◌, ◌≤◌, ◌<◌}
use native.Mathlib.Numerals.{add-one}
use native.Mathlib.Omega.{arith}
use native.Mathlib.Decide.{dec_lt}
use lib.ListN.{length, get_or, take, drop, length-append, length-drop, get_or-append}
use lib.Seq.{append_snoc, drop_at, ext_get_or, get_or-append-add, get_or-drop, get_or-take, length-take-le, take_all, take-append-le, take-suc, take-take}
use Rattle.sequences.specs.Marks.{unmarked, first_mark}
use Rattle.sequences.proofs.Marks.{map-unmarked, unmarked_yes, unmarked_no, unmarked_end}
use Rattle.waiting_lists.specs.declared.WaitingList.{WaitingList}
use Rattle.waiting_lists.specs.Lists.{Placed, Removes}
use Rattle.waiting_lists.proofs.Lists.{at, waiters_are}
use Rattle.waiting_lists.proofs.Orders.{Moved, firsts, firsts_at, length_firsts, moved_distinct, moved_inside}

-- the places of an order after the move of one behind the others
firsts_moved : (a r n j : ℕ) → j < n → Moved a r j (n - 1) → firsts (n - 1) r ≡ take j (firsts n a) ++ drop (j + 1) (firsts n a)
firsts_moved a r n j h m =
    let some : length (take j (firsts n a)) ≡ j = length-take-le j (firsts n a) (omega (arith, length_firsts n a)) in
    let rest : length (drop (j + 1) (firsts n a)) ≡ n - (j + 1) = length-drop (j + 1) (firsts n a) ∙ ap (λ k. k - (j + 1)) (length_firsts n a) in
    let all : length (firsts (n - 1) r) ≡ n - 1 = length_firsts (n - 1) r in
    ext_get_or 0 (firsts (n - 1) r) (take j (firsts n a) ++ drop (j + 1) (firsts n a))
    (omega (arith, length-append (take j (firsts n a)) (drop (j + 1) (firsts n a)), some, rest, all))
    (λ k l. each some k (omega (arith, all, l)))
  where
    each : length (take j (firsts n a)) ≡ j → (k : ℕ) → k < n - 1 → get_or (firsts (n - 1) r) k 0 ≡ get_or (take j (firsts n a) ++ drop (j + 1) (firsts n a)) k 0
    each some k l = firsts_at (n - 1) r k l ∙ (elim (dec_lt k j) [
      | yes b ↦ m.0 k b ∙ sym (get_or-append (take j (firsts n a)) (drop (j + 1) (firsts n a)) 0 k (omega (arith, some, b)) ∙ get_or-take j (firsts n a) k 0 b ∙ firsts_at n a k (omega arith))
      | no b ↦ (
          let e : length (take j (firsts n a)) + (k - j) ≡ k = omega (arith, some) in
          let f : j + 1 + (k - j) ≡ k + 1 = omega arith in
          m.1 k (omega arith) l
          ∙ sym (ap (λ x. get_or (take j (firsts n a) ++ drop (j + 1) (firsts n a)) x 0) (sym e) ∙ get_or-append-add (take j (firsts n a)) (drop (j + 1) (firsts n a)) (k - j) 0
          ∙ get_or-drop (j + 1) (firsts n a) (k - j) 0 ∙ ap (λ x. get_or (firsts n a) x 0) f ∙ firsts_at n a (k + 1) (omega arith)))
    ])

-- a loop has looked at all but the first i of n₀, and n of those stay
module _ (a₀ n₀ : ℕ) (gone : List Bool) where
  pub record Closing (a n i : ℕ) : Type 0 where
    pub closed : firsts n a ≡ take i (firsts n₀ a₀) ++ unmarked (drop i (firsts n₀ a₀)) (drop i gone)
    pub placed : (places : ℕ) → Placed (record { order = a₀; len = n₀ }) places → Placed (record { order = a; len = n }) places

  pub closing_start : Closing a₀ n₀ n₀
  closing_start =
      let l : length (firsts n₀ a₀) ≤ n₀ = omega (arith, length_firsts n₀ a₀) in
      record {
        closed = sym (ap₂ ◌++◌ (take_all n₀ (firsts n₀ a₀) l) (unmarked_end (firsts n₀ a₀) gone n₀ l) ∙ append-nil (firsts n₀ a₀));
        placed = λ places p. p;
      }

  module _ (a n j : ℕ) (c : Closing a n (j + 1)) (in-n : j < n) (in-n₀ : n ≤ n₀) (in-gone : j < length gone) where
    in_all : j < length (firsts n₀ a₀)
    in_all = omega (arith, length_firsts n₀ a₀)

    -- it stays
    pub closing_kept : get_or gone j false ≡ false → Closing a n j
    closing_kept e = record {
      closed = c.closed
          ∙ ap (λ l. l ++ unmarked (drop (j + 1) (firsts n₀ a₀)) (drop (j + 1) gone)) (ap (λ k. take k (firsts n₀ a₀)) (add-one j) ∙ take-suc (firsts n₀ a₀) j 0 in_all)
          ∙ append_snoc (take j (firsts n₀ a₀)) (get_or (firsts n₀ a₀) j 0) (unmarked (drop (j + 1) (firsts n₀ a₀)) (drop (j + 1) gone))
          ∙ ap (λ l. take j (firsts n₀ a₀) ++ l) (sym (unmarked_no (firsts n₀ a₀) gone j 0 in_all in-gone e));
      placed = c.placed;
    }

    -- it is marked
    pub closing_gone : (r : ℕ) → Moved a r j (n - 1) → get_or gone j false ≡ true → Closing r (n - 1) j
    closing_gone r m e =
        let some : length (take (j + 1) (firsts n₀ a₀)) ≡ j + 1 = length-take-le (j + 1) (firsts n₀ a₀) (omega (arith, in_all)) in
        let rest = unmarked (drop (j + 1) (firsts n₀ a₀)) (drop (j + 1) gone) in
        let front : take j (take (j + 1) (firsts n₀ a₀) ++ rest) ≡ take j (firsts n₀ a₀) = take-append-le j (take (j + 1) (firsts n₀ a₀)) rest (omega (arith, some)) ∙ take-take j (j + 1) (firsts n₀ a₀) (omega arith) in
        let back : drop (j + 1) (take (j + 1) (firsts n₀ a₀) ++ rest) ≡ rest = drop_at (take (j + 1) (firsts n₀ a₀)) rest (j + 1) some in
        record {
          closed = firsts_moved a r n j in-n m ∙ ap (λ l. take j l ++ drop (j + 1) l) c.closed ∙ ap₂ ◌++◌ front (back ∙ sym (unmarked_yes (firsts n₀ a₀) gone j 0 in_all in-gone e));
          placed = λ places p.
              let q = c.placed places p in
              let f = q.few in
              let g = q.most in
              record {
                few = omega (arith, f);
                most = q.most;
                inside = moved_inside a r j (n - 1) places (omega arith) (omega (arith, f)) g m q.inside;
                distinct = moved_distinct a r j (n - 1) places (omega arith) (omega (arith, f)) g m q.distinct;
              };
        }

-- all are looked at
pub closing_end : (list : WaitingList) (n₀ : ℕ) (gone : List Bool) (a n : ℕ) → n₀ ≡ min list.len 16 → Closing list.order n₀ gone a n 0 → Removes list gone (record { order = a; len = n })
closing_end list n₀ gone a n e c = record {
  waits = λ w places p.
      let f = p.few in
      let g = p.most in
      let all : n₀ ≡ list.len = omega (arith, e) in
      waiters_are (record { order = a; len = n }) w ∙ ap (map (at w)) (c.closed ∙ ap (λ k. unmarked (firsts k list.order) gone) all) ∙ map-unmarked (at w) (firsts list.len list.order) gone
      ∙ ap (λ l. unmarked l gone) (sym (waiters_are list w));
  placed = λ places p. let f = p.few in c.placed places (record { few = omega (arith, e); most = p.most; inside = p.inside; distinct = p.distinct });
}

-- ---- where none is marked nothing goes
pub unmarked_clear : {A : Type 0} (l : List A) (gone : List Bool) → length gone ≤ first_mark gone → unmarked l gone ≡ l
unfolding unmarked first_mark
unmarked_clear [] gone h = refl
unmarked_clear (a ∷ l) [] h = refl
unmarked_clear (a ∷ l) (true ∷ gone) h = absurd (omega arith)
unmarked_clear (a ∷ l) (false ∷ gone) h = ap (λ r. a ∷ r) (unmarked_clear l gone (omega arith))
