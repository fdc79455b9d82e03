-- Appends: one more waits at the end, at a place that none has.
use mathlib.Core.Path.{◌≡◌, sym, ap, ap₂, ◌∙◌}
use mathlib.Core.Bool.{true, false}
use mathlib.Core.List.{List, [], ◌∷◌, ◌++◌, map, map-append}
use mathlib.Core.Logic.{◌⊎◌, ⊎_elim}
use Prim.Native.Nat.{ℕ, ◌+◌, ◌-◌, ◌≤◌, ◌<◌}
use native.Mathlib.Nat.{zero-add}
use native.Mathlib.Omega.{arith}
use borrow.Author.Tests.{le-leb, lt-leb}
use lib.ListN.{length, length-map, set}
use lib.Seq.{get_or-set_other, get_or-set_same}
use Rattle.std.specs.Prelude.{Some, None}
use Rattle.sequences.specs.Range.{numbers_from}
use Rattle.sequences.proofs.Members.{map_same}
use Rattle.sequences.proofs.Range.{length_range, range_next, range_none, range_of, range_split}
use Rattle.waiting_lists.specs.declared.WaitingList.{WaitingList}
use Rattle.waiting_lists.specs.Lists.{Appends, Placed, place_in, waiters_of}
use Rattle.waiting_lists.specs.Waiting.{appended_to, is_full}
use Rattle.waiting_lists.proofs.Lists.{at, length_waiters}

-- ---- what an append does to a list of any length
module _ {A : Type 0} (l : List A) (o : A) where
  -- below 16 it waits last
  pub appended-room : length l < 16 → (is_full l ≡ false) × (appended_to l o ≡ l ++ (o ∷ []))
  unfolding is_full appended_to
  appended-room h = (lt-leb 16 (length l) h, rw (lt-leb 16 (length l) h))

  -- from 16 on nothing changes
  pub appended_full : 16 ≤ length l → (is_full l ≡ true) × (appended_to l o ≡ l)
  unfolding is_full appended_to
  appended_full h = (le-leb 16 (length l) h, rw (le-leb 16 (length l) h))

-- ---- one more takes the place after those that wait, which none of them has
module _ (list : WaitingList) where
  pub appends_room : list.len < 16 → Appends list (Some (place_in list.order list.len + 1)) (record { order = list.order; len = list.len + 1 })
  unfolding waiters_of
  appends_room h = record { waits = waits; placed = placed; behind = omega arith }
    where
      waits : (w : List (List ℕ)) (o : List ℕ) → Placed list (length w - 1) → (list.len + 1 < length w) ⊎ (length w ≡ 17)
          → waiters_of (record { order = list.order; len = list.len + 1 }) (set w (place_in list.order list.len + 1) o) ≡ appended_to (waiters_of list w) o
      waits w o p room =
          let n = list.len in
          let w' = set w (place_in list.order n + 1) o in
          let f : List (List ℕ) → ℕ → List ℕ = λ v i. at v (place_in list.order i) in
          let free : n < length w - 1 = ⊎_elim (λ r. omega arith) (λ r. omega arith) room in
          let there : place_in list.order n + 1 < length w = omega (arith, p.inside n free) in
          let last : map (f w') (numbers_from (0 + n) 1) ≡ o ∷ [] = rw (zero-add n, range_next n 0, range_none (n + 1), get_or-set_same w (place_in list.order n + 1) o [] there) in
          let before : map (f w') (numbers_from 0 n) ≡ map (f w) (numbers_from 0 n) = map_same (f w') (f w) (numbers_from 0 n)
          (λ i m. get_or-set_other w (place_in list.order n + 1) (place_in list.order i + 1) o [] (λ e. p.distinct i n (omega (arith, (range_of 0 n m).1)) free (omega (arith, e)))) in
          ap (map (f w')) (range_split 0 n 1) ∙ map-append (f w') (numbers_from 0 n) (numbers_from (0 + n) 1) ∙ ap₂ ◌++◌ before last
          ∙ sym (appended-room (map (f w) (numbers_from 0 n)) o (omega (arith, length-map (numbers_from 0 n) (f w), length_range 0 n, h))).1

      placed : (places : ℕ) → Placed list places → (list.len < places) ⊎ (places ≡ 16) → Placed (record { order = list.order; len = list.len + 1 }) places
      placed places p room = record { few = ⊎_elim (λ r. omega arith) (λ r. omega arith) room; most = p.most; inside = p.inside; distinct = p.distinct }

  pub appends_full : 16 ≤ list.len → Appends list None list
  appends_full h = record {
    waits = λ w o p room. sym (appended_full (waiters_of list w) o (omega (arith, length_waiters list w, h))).1;
    placed = λ places p room. p;
    behind = tt;
  }
