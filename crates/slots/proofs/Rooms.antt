-- How many places there are: of a kind as many as its events or 16, and for each list as many as can come to wait.
use mathlib.Core.Bool.{Bool, true, false}
use mathlib.Core.List.{List}
use mathlib.Core.Logic.{◌⊎◌, inl, inr, ⊎_elim}
use mathlib.Core.Path.{◌≡◌, refl, sym, ◌∙◌}
use Prim.Native.Nat.{ℕ, min, ◌+◌, ◌≤◌, ◌<◌}
use native.Mathlib.Decide.{dec_lt, ℕ_discrete}
use native.Mathlib.Numerals.{add-one}
use native.Mathlib.Omega.{arith}
use borrow.Author.Tests.{eq-eqb, le-ltb, lt-ltb, ne_eqb}
use lib.Dec.{eqb}
use lib.ListN.{get_or, get_or-replicate, length, length-replicate, replicate, set, get_or-eq_default}
use lib.Seq.{get_or-set_other, get_or-set_same}
use Rattle.sequences.specs.Choice.{pick}
use Rattle.progress.specs.Seats.{Enough, made_room, of_kind, places_at, room_of}
use Rattle.progress.proofs.Parts.{made-room-most, places_most, room_most}

abbrev pub zeros : ℕ → List ℕ
zeros n = replicate n 0

pub zeros_at : (n k : ℕ) → get_or (zeros n) k 0 ≡ 0
zeros_at n k = elim (dec_lt k n) [
  | yes h ↦ get_or-replicate n k 0 0 h
  | no h ↦ get_or-eq_default (zeros n) 0 (omega (arith, length-replicate {A = ℕ} n 0))
]

-- ---- the places of each kind
pub enough-start : (kinds : List ℕ) → Enough 0 kinds (zeros 34)
unfolding of_kind
enough-start kinds = record { most = λ q. omega (arith, zeros_at 34 q); enough = λ q h. inl (omega arith) }

of_kind-next : (q : ℕ) (kinds : List ℕ) (i : ℕ) → of_kind q kinds (i + 1) ≡ of_kind q kinds i + pick (eqb (get_or kinds i 0) q) 1 0
unfolding of_kind
of_kind-next q kinds i = rw (add-one i)

-- with one event more, of kind p
pub enough_turn : (kinds places : List ℕ) (i p n : ℕ) → Enough i kinds places → length places ≡ 34 → p ≡ get_or kinds i 0 → p < 34 → n ≡ min (get_or places p 0 + 1) 16
    → Enough (i + 1) kinds (set places p n)
enough_turn kinds places i p n e size kind small same = record { most = most; enough = enough }
  where
    at : get_or (set places p n) p 0 ≡ n
    at = get_or-set_same places p n 0 (omega arith)

    most : (q : ℕ) → get_or (set places p n) q 0 ≤ 16
    most q = elim (ℕ_discrete q p) [
      | yes s ↦ rw s (omega (arith, at))
      | no d ↦ omega (arith, get_or-set_other places p q n 0 d, e.most q)
    ]

    enough : (q : ℕ) → q < 34 → (of_kind q kinds (i + 1) ≤ get_or (set places p n) q 0) ⊎ (get_or (set places p n) q 0 ≡ 16)
    enough q h = elim (ℕ_discrete q p) [
      | yes s ↦ (let one : of_kind p kinds (i + 1) ≡ of_kind p kinds i + 1 = of_kind-next p kinds i ∙ rw (← kind, eq-eqb p p refl) in rw (s, at) (elim (dec_lt (get_or places p 0) 16) [
        | yes l ↦ ⊎_elim (λ x. inl (omega (arith, one))) (λ x. inr (omega arith)) (e.enough p small)
        | no l ↦ inr (omega arith)
      ]))
      | no d ↦ (let none : of_kind q kinds (i + 1) ≡ of_kind q kinds i = of_kind-next q kinds i ∙ rw (← kind, ne_eqb p q (λ x. d (sym x))) (omega arith) in
          rw (get_or-set_other places p q n 0 d, none) (e.enough q h))
    ]

-- ---- the places of a list, by the code's cases
module _ (places : List ℕ) (most : (q : ℕ) → get_or places q 0 ≤ 16) (i : ℕ) (waits : Bool) (slot : ℕ) where
  abbrev Room : ℕ → Type 0
  Room r = (r ≡ room_of i waits (places_at places slot)) × (r ≤ 17)

  room : {r : ℕ} → r ≡ room_of i waits (places_at places slot) → Room r
  room e = (e, omega (arith, room_most i waits (places_at places slot) (places_most places most slot)))

  pub room-third : 2 ≤ i → Room 0
  unfolding room_of
  room-third third = room (rw (le-ltb i 2 third))

  module _ (list : i < 2) where
    pub room-none : waits ≡ false → Room 1
    unfolding room_of
    room-none e = room (rw (lt-ltb i 2 list, e))

    pub room-kind : waits ≡ true → slot < 34 → Room (get_or places slot 0 + 1)
    unfolding room_of places_at
    room-kind e h = room (rw (lt-ltb i 2 list, e, lt-ltb slot 34 h))

    pub room-node : waits ≡ true → 34 ≤ slot → Room 17
    unfolding room_of places_at
    room-node e h = room (rw (lt-ltb i 2 list, e, le-ltb slot 34 h))

pub made-room-fits : (takers room : ℕ) → room ≡ made_room takers → room ≤ 8
made-room-fits takers room e = omega (arith, made-room-most takers)
