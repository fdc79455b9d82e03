-- A waiting list: which of its places wait, in waiting order; and the list as it is kept, in front of its places.
use Rattle.std.specs.Prelude.{Option, Some, None, IfSome, Bool, List, [], map, ◌⊎◌, ◌≡◌, ℕ, ◌+◌, ◌-◌, ◌*◌, ◌/◌, ◌%◌, ◌^◌, ◌≤◌, ◌<◌, eqb, get_or, length, set}
use Rattle.sequences.specs.Choice.{pick}
use Rattle.sequences.specs.Marks.{unmarked}
use Rattle.sequences.specs.Range.{numbers_from}
use Rattle.timestamps.specs.declared.Note.{Note}
use Rattle.occurrences.specs.declared.Occurrence.{Occurrence}
use Rattle.occurrences.specs.Packed.{Notes, NotesOf, Stand, Stands}
use Rattle.waiting_lists.specs.declared.WaitingList.{WaitingList}
use Rattle.waiting_lists.specs.Waiting.{appended_to}

-- ---- the order: the place of the i-th, four bits each
unfoldable pub place_in : ℕ → ℕ → ℕ
place_in order i = order / 2 ^ (4 * i) % 16

-- those that wait, in waiting order. Place p is the one after p others; in front of them is the list itself
unfoldable pub waiters_of : WaitingList → List (List ℕ) → List (List ℕ)
waiters_of list w = map (λ i. get_or w (place_in list.order i + 1) []) (numbers_from 0 list.len)

-- no two of the places that a list has are one
pub record Placed (list : WaitingList) (places : ℕ) : Type 0 where
  pub few : list.len ≤ places
  pub most : places ≤ 16
  pub inside : (i : ℕ) → i < places → place_in list.order i < places
  pub distinct : (i j : ℕ) → i < j → j < places → place_in list.order i ≡ place_in list.order j → ⊥

-- ---- what is asked of an append and of a removal, whatever lies at the places

-- an occurrence lies at a place, if there is one
abbrev pub put_at : List (List ℕ) → Option ℕ → List ℕ → List (List ℕ)
put_at w None o = w
put_at w (Some place) o = set w place o

-- one more waits, at the end, and lies at this place; where there are 16 places a full list stays as it is
pub record Appends (list : WaitingList) (place : Option ℕ) (list' : WaitingList) : Type 0 where
  pub waits : (w : List (List ℕ)) (o : List ℕ) → Placed list (length w - 1) → (list.len + 1 < length w) ⊎ (length w ≡ 17)
      → waiters_of list' (put_at w place o) ≡ appended_to (waiters_of list w) o
  pub placed : (places : ℕ) → Placed list places → (list.len < places) ⊎ (places ≡ 16) → Placed list' places
  pub behind : IfSome place (λ p. 0 < p)

-- those that are marked leave
pub record Removes (list : WaitingList) (gone : List Bool) (list' : WaitingList) : Type 0 where
  pub waits : (w : List (List ℕ)) (places : ℕ) → Placed list places → waiters_of list' w ≡ unmarked (waiters_of list w) gone
  pub placed : (places : ℕ) → Placed list places → Placed list' places

-- ---- the list as it is kept: its order and its length in front of its places. At first all numbers are 0, and each place stands at its own number
unfoldable pub order_of : ℕ → ℕ
order_of kept = pick (eqb kept 0) 18364758544493064720 kept

unfoldable pub list_of : List (List ℕ) → WaitingList
list_of w = record { order = order_of (get_or (get_or w 0 []) 0 0); len = get_or (get_or w 0 []) 1 0 }

-- the occurrences l wait there
pub record Waits {ticks globals : List ℕ} (t : Notes ticks globals) (w : List (List ℕ)) (l : List Occurrence) : Type 0 where
  pub some : 0 < length w
  pub placed : Placed (list_of w) (length w - 1)
  pub stand : Stand t (waiters_of (list_of w) w) l

-- there is room for n more, or for 16 in all
abbrev pub Roomy : List (List ℕ) → List Occurrence → ℕ → Type 0
Roomy w l n = (length l + n < length w) ⊎ (length w ≡ 17)

-- ---- that there are such notes and occurrences; and an arrival among them
abbrev pub Known : (notes : List Note) (w : List (List ℕ)) → Type 0
Known notes w = (t : NotesOf notes) × (l : List Occurrence) × Waits t w l

abbrev pub Arrives : (notes : List Note) (w : List (List ℕ)) (p : List ℕ) → Type 0
Arrives notes w p = (t : NotesOf notes) × (l : List Occurrence) × (x : Occurrence) × Waits t w l × Stands t p x

-- and beside two lists
abbrev pub KnownBoth : (notes : List Note) (v w : List (List ℕ)) → Type 0
KnownBoth notes v w = (t : NotesOf notes) × (k : List Occurrence) × (l : List Occurrence) × Waits t v k × Waits t w l

abbrev pub Beside : (notes : List Note) (v w : List (List ℕ)) (p : List ℕ) → Type 0
Beside notes v w p =
    (t : NotesOf notes) × (k : List Occurrence) × (l : List Occurrence) × (x : Occurrence) × Waits t v k × Waits t w l × Stands t p x
