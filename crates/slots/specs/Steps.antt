-- The seats of the nodes while they are filled in.
use Rattle.std.specs.Prelude.{true, false, List, ◌≡◌, ℕ, zero, suc, ◌+◌, ◌*◌, ◌^◌, ◌≤◌, ◌<◌, get_or, length}
use Rattle.event_sets.specs.Sets.{is_set}
use Rattle.plans.specs.declared.Node.{Node}
use Rattle.plans.specs.Layout.{inputs_of}
use Rattle.plans.specs.Limits.{no_node}
use Rattle.plans.specs.Views.{slot_at}
use Rattle.arrivals.specs.Meetings.{action_from, may_wait}
use Rattle.operators.specs.Table.{action_of}
use Rattle.progress.specs.Seats.{InputsSeated, Seated, Takers, list_start, places_at, room_of, seat_action, seat_slot}

-- ---- where the lists begin
-- the sum of the first n values
unfoldable pub total : (ℕ → ℕ) → ℕ → ℕ
total f zero = 0
total f (suc n) = total f n + f n

-- how many places the list of an input of node k is given
unfoldable pub room_at : (places : List ℕ) → List Node → (k i : ℕ) → ℕ
room_at places nodes k i =
    let node = get_or nodes k no_node in
    room_of i (may_wait (action_of node.operator i)) (places_at places (slot_at k (get_or (inputs_of node) i 0)))

-- how many are given before that list: to the nodes before, and to the inputs before
unfoldable pub start_at : (places : List ℕ) → List Node → (k i : ℕ) → ℕ
start_at places nodes k i = total (λ j. total (room_at places nodes j) 3) k + total (room_at places nodes k) i

-- ---- while the inputs are seated: those of the nodes before k, and of node k those before i
-- by slot, those of these inputs that look there, as bits
pub record TakersTo (seats : List ℕ) (k i : ℕ) (takers : List ℕ) : Type 0 where
  pub size : length takers ≡ 50
  pub below : (q b : ℕ) → 4 * k + i ≤ b → get_or takers q 0 < 2 ^ b
  pub takes : (j h : ℕ) → h < 3 → 3 * j + h < 3 * k + i → (q : ℕ) → q < 50 → seat_slot seats j h ≡ q → is_set (get_or takers q 0) (4 * j + h) ≡ true
  pub others : (q j h : ℕ) → q < 50 → h < 4 → (h < 3 → 3 * j + h < 3 * k + i → seat_slot seats j h ≡ q → ⊥) → is_set (get_or takers q 0) (4 * j + h) ≡ false

-- these inputs have their part of the seats, later nodes have none; the next list begins at l
pub record Filling (places : List ℕ) (nodes : List Node) (k i : ℕ) (seats takers : List ℕ) (l : ℕ) : Type 0 where
  pub size : length seats ≡ 187
  pub action : (j h : ℕ) → h < 3 → 3 * j + h < 3 * k + i → action_from (seat_action seats j h) ≡ action_of (get_or nodes j no_node).operator h
  pub slot : (j h : ℕ) → h < 3 → 3 * j + h < 3 * k + i → seat_slot seats j h ≡ slot_at j (get_or (inputs_of (get_or nodes j no_node)) h 0)
  pub list : (j h : ℕ) → h < 3 → 3 * j + h < 3 * k + i → list_start seats j h ≡ start_at places nodes j h
  pub next : l ≡ start_at places nodes k i
  pub past : (j a : ℕ) → 3 * k + i ≤ 3 * j → 11 * j ≤ a → get_or seats a 0 ≡ 0
  pub taken : TakersTo seats k i takers

-- ---- the inputs of all nodes are seated
pub record AllInputs (nodes : List Node) (places takers seats : List ℕ) : Type 0 where
  pub inputs : InputsSeated nodes places seats
  pub taken : Takers seats (length nodes) takers

-- ---- all is seated: the n nodes
pub record AllSeated (n : ℕ) (nodes : List Node) (places takers seats : List ℕ) : Type 0 where
  pub count : length nodes ≡ n
  pub seated : Seated nodes places takers seats
  pub taken : Takers seats (length nodes) takers
