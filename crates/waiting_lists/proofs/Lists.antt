-- Those that wait, by the places that a list says.
use mathlib.Core.Path.{◌≡◌, refl, sym, ap, subst, ◌∙◌}
use mathlib.Core.List.{List, [], ◌∷◌, map}
use Prim.Native.Nat.{ℕ, ◌+◌, ◌-◌, ◌<◌}
use native.Mathlib.Decide.{dec_lt, ℕ_discrete}
use native.Mathlib.Nat.{zero-add}
use native.Mathlib.Omega.{arith}
use borrow.Author.Tests.{ne_eqb}
use lib.ListN.{get_or, length, length-map, length-set, set}
use lib.Seq.{get_or-set_other, get_or-set_same}
use Rattle.sequences.specs.Range.{numbers_from}
use Rattle.sequences.proofs.Members.{map_same}
use Rattle.sequences.proofs.Parts.{get_or_map}
use Rattle.sequences.proofs.Range.{get_or_range, length_range, range_of}
use Rattle.occurrences.specs.declared.Occurrence.{Occurrence}
use Rattle.occurrences.specs.Packed.{Notes, Stand}
use Rattle.waiting_lists.specs.declared.WaitingList.{WaitingList}
use Rattle.waiting_lists.specs.Lists.{Placed, Waits, list_of, order_of, place_in, waiters_of}
use Rattle.waiting_lists.proofs.Orders.{firsts}

abbrev pub at : List (List ℕ) → ℕ → List ℕ
at w place = get_or w (place + 1) []

-- what stands at the places
pub waiters_are : (list : WaitingList) (w : List (List ℕ)) → waiters_of list w ≡ map (at w) (firsts list.len list.order)
unfolding waiters_of
waiters_are list w = go (numbers_from 0 list.len)
  where
    go : (l : List ℕ) → map (λ i. at w (place_in list.order i)) l ≡ map (at w) (map (place_in list.order) l)
    go [] = refl
    go (i ∷ l) = ap (λ r. at w (place_in list.order i) ∷ r) (go l)

pub length_waiters : (list : WaitingList) (w : List (List ℕ)) → length (waiters_of list w) ≡ list.len
unfolding waiters_of
length_waiters list w = length-map (numbers_from 0 list.len) (λ i. at w (place_in list.order i)) ∙ length_range 0 list.len

pub waiter_in : (list : WaitingList) (w : List (List ℕ)) (i : ℕ) → i < list.len → get_or (waiters_of list w) i [] ≡ get_or w (place_in list.order i + 1) []
unfolding waiters_of
waiter_in list w i h =
    get_or_map (λ j. at w (place_in list.order j)) (numbers_from 0 list.len) i 0 [] (omega (arith, length_range 0 list.len))
    ∙ ap (λ j. at w (place_in list.order j)) (get_or_range 0 list.len i 0 h ∙ zero-add i)

-- ---- the list as it is kept

zero_twice : place_in 0 0 ≡ place_in 0 1
unfolding place_in
zero_twice = refl

zero_first : place_in 18364758544493064720 0 ≡ place_in 0 0
unfolding place_in
zero_first = refl

-- an order that is 0 stands for the order at first, and has at most one place then
pub order_kept : (list : WaitingList) (places : ℕ) → Placed list places → (i : ℕ) → i < places → place_in (order_of list.order) i ≡ place_in list.order i
unfolding order_of
order_kept list places p i h = elim (ℕ_discrete list.order 0) [
  | yes e ↦ elim (dec_lt 1 places) [
    | yes many ↦ absurd (p.distinct 0 1 (omega arith) many (ap (λ a. place_in a 0) e ∙ zero_twice ∙ sym (ap (λ a. place_in a 1) e)))
    | no few ↦ (let first : i ≡ 0 = omega arith in rw (e, first) zero_first)
  ]
  | no e ↦ rw (ne_eqb list.order 0 e)
]

module _ (v : List (List ℕ)) (list : WaitingList) (some : 0 < length v) (p : Placed list (length v - 1)) where
  abbrev pub kept : List (List ℕ)
  kept = set v 0 (list.order ∷ list.len ∷ 0 ∷ [])

  list-kept : list_of kept ≡ record { order = order_of list.order; len = list.len }
  unfolding list_of
  list-kept = rw (get_or-set_same v 0 (list.order ∷ list.len ∷ 0 ∷ []) [] some)

  same : (i : ℕ) → i < length v - 1 → place_in (order_of list.order) i ≡ place_in list.order i
  same = order_kept list (length v - 1) p

  placed-kept : Placed (list_of kept) (length kept - 1)
  placed-kept = rw (list-kept, length-set v 0 (list.order ∷ list.len ∷ 0 ∷ [])) (record {
    few = p.few;
    most = p.most;
    inside = λ i h. omega (arith, same i h, p.inside i h);
    distinct = λ i j h k e. p.distinct i j h k (sym (same i (omega arith)) ∙ e ∙ same j k);
  })

  -- the list stands in front of those that wait
  waiters_kept : waiters_of (list_of kept) kept ≡ waiters_of list v
  unfolding waiters_of
  waiters_kept =
      let f = p.few in
      ap (λ l. waiters_of l kept) list-kept
      ∙ map_same (λ i. at kept (place_in (order_of list.order) i)) (λ i. at v (place_in list.order i)) (numbers_from 0 list.len)
      (λ i m. ap (at kept) (same i (omega (arith, (range_of 0 list.len m).1, f)))
      ∙ get_or-set_other v 0 (place_in list.order i + 1) (list.order ∷ list.len ∷ 0 ∷ []) [] (λ e. omega (arith, e)))

  pub waits_kept : {ticks globals : List ℕ} (t : Notes ticks globals) (l : List Occurrence) → Stand t (waiters_of list v) l → Waits t kept l
  waits_kept t l h = record {
    some = omega (arith, length-set v 0 (list.order ∷ list.len ∷ 0 ∷ []));
    placed = placed-kept;
    stand = subst (λ ps. Stand t ps l) (sym waiters_kept) h;
  }
