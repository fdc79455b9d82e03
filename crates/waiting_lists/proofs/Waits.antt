-- For callers: a list that is kept in front of its places, and what waits there.
use mathlib.Core.Path.{◌≡◌, sym, ap, subst, ◌∙◌}
use mathlib.Core.List.{List, [], ◌∷◌}
use Prim.Native.Nat.{ℕ, ◌+◌, ◌-◌, ◌≤◌, ◌<◌}
use native.Mathlib.Omega.{arith}
use lib.ListN.{get_or, length}
use Rattle.sequences.proofs.Range.{range_none}
use Rattle.timestamps.specs.declared.Note.{Note}
use Rattle.occurrences.specs.declared.Occurrence.{Occurrence}
use Rattle.occurrences.specs.Occurrences.{no_occurrence}
use Rattle.occurrences.specs.Packed.{Notes, NotesOf, Stand, Stands, Within}
use Rattle.occurrences.proofs.Packed.{stand-at, stand-length, stand-none, stands-within}
use Rattle.waiting_lists.specs.declared.WaitingList.{WaitingList}
use Rattle.waiting_lists.specs.Lists.{Placed, Waits, list_of, order_of, place_in, waiters_of}
use Rattle.waiting_lists.proofs.Lists.{length_waiters, waiter_in}
use Rattle.waiting_lists.proofs.Orders.{place-first}

pub waiter_at : (w : List (List ℕ)) (i : ℕ) → i < (list_of w).len → get_or (waiters_of (list_of w) w) i [] ≡ get_or w (place_in (list_of w).order i + 1) []
waiter_at w i h = waiter_in (list_of w) w i h

module _ {ticks globals : List ℕ} (t : Notes ticks globals) (w : List (List ℕ)) (l : List Occurrence) (h : Waits t w l) where
  pub waits-length : (list_of w).len ≡ length l
  waits-length = sym (length_waiters (list_of w) w) ∙ stand-length t (waiters_of (list_of w) w) l h.stand

  pub waits-few : length l ≤ 16
  waits-few = omega (arith, waits-length, h.placed.few, h.placed.most)

  pub waits_within_places : length l < length w
  waits_within_places = omega (arith, waits-length, h.placed.few, h.some)

  pub waits-place : (i : ℕ) → i < length l → place_in (list_of w).order i + 1 < length w
  waits-place i k = let f = h.placed.few in omega (arith, h.placed.inside i (omega (arith, waits-length, k, f)))

  pub waits-at : (i : ℕ) → i < length l → Stands t (get_or w (place_in (list_of w).order i + 1) []) (get_or l i no_occurrence)
  waits-at i k =
      let j : i < (list_of w).len = omega (arith, waits-length, k) in
      subst (λ p. Stands t p (get_or l i no_occurrence)) (waiter_at w i j) (stand-at t (waiters_of (list_of w) w) l i h.stand (omega (arith, length_waiters (list_of w) w, j)))

pub waits-bytes : (notes : List Note) (t : NotesOf notes) (w : List (List ℕ)) (l : List Occurrence) → Waits t w l
    → (i : ℕ) → i < length l → Within notes (get_or w (place_in (list_of w).order i + 1) [])
waits-bytes notes t w l h i k = stands-within notes t _ _ (waits-at t w l h i k)

list-first : (w : List (List ℕ)) → get_or w 0 [] ≡ (0 ∷ 0 ∷ 0 ∷ []) → list_of w ≡ record { order = 18364758544493064720; len = 0 }
unfolding list_of order_of
list-first w e = rw e

none_first : (w : List (List ℕ)) → waiters_of (record { order = 18364758544493064720; len = 0 }) w ≡ []
unfolding waiters_of
none_first w = rw (range_none 0)

-- where all numbers in front are 0 nothing waits
pub waits-none : {ticks globals : List ℕ} (t : Notes ticks globals) (w : List (List ℕ)) → 0 < length w → length w ≤ 17 → get_or w 0 [] ≡ (0 ∷ 0 ∷ 0 ∷ []) → Waits t w []
waits-none t w some most e = record { some = some; placed = rw (list-first w e) placed; stand = subst (λ ps. Stand t ps []) (sym (ap (λ l. waiters_of l w) (list-first w e) ∙ none_first w)) (stand-none t) }
  where
    placed : Placed (record { order = 18364758544493064720; len = 0 }) (length w - 1)
    placed = record {
      few = omega arith;
      most = omega arith;
      inside = λ i h. omega (arith, place-first i (omega arith), h);
      distinct = λ i j h k q. omega (arith, place-first i (omega arith), place-first j (omega arith), q, h);
    }

-- ---- as the code reads it: the list that it has, and the place of the i-th that it looks up
module _ {ticks globals : List ℕ} (t : Notes ticks globals) (w : List (List ℕ)) (l : List Occurrence) (h : Waits t w l) (list : WaitingList) (e : list ≡ list_of w) where
  pub read_length : list.len ≡ length l
  read_length = ap (λ (x : WaitingList). x.len) e ∙ waits-length t w l h

  pub read-few : list.len ≤ 16
  read-few = omega (arith, read_length, waits-few t w l h)

  module _ (i place : ℕ) (p : place ≡ place_in list.order i + 1) (k : i < list.len) where
    place_is : place ≡ place_in (list_of w).order i + 1
    place_is = p ∙ ap (λ (x : WaitingList). place_in x.order i + 1) e

    in_list : i < length l
    in_list = omega (arith, read_length, k)

    pub read-place : place < length w
    read-place = omega (arith, place_is, waits-place t w l h i in_list)

    pub read_small : place ≤ 16
    read_small = omega (arith, read-place, h.placed.most)

    pub read_at : Stands t (get_or w place []) (get_or l i no_occurrence)
    read_at = subst (λ (n : ℕ). Stands t (get_or w n []) (get_or l i no_occurrence)) (sym place_is) (waits-at t w l h i in_list)

pub read-bytes : (notes : List Note) (t : NotesOf notes) (w : List (List ℕ)) (l : List Occurrence) → Waits t w l
    → (list : WaitingList) → list ≡ list_of w → (i place : ℕ) → place ≡ place_in list.order i + 1 → i < list.len → Within notes (get_or w place [])
read-bytes notes t w l h list e i place p k = stands-within notes t _ _ (read_at t w l h list e i place p k)
