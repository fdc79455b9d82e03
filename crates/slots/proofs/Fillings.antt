-- The inputs are seated one after the other.
use mathlib.Core.List.{List}
use mathlib.Core.Path.{◌≡◌, refl, sym, ◌∙◌}
use Prim.Native.Nat.{ℕ, zero, suc, ◌+◌, ◌*◌, ◌^◌, ◌≤◌, ◌<◌}
use native.Mathlib.Nat.{suc-mul}
use native.Mathlib.Numerals.{add-one}
use native.Mathlib.Omega.{arith}
use lib.Bits.{bit_or}
use lib.ListN.{get_or, length, length-set, set}
use lib.Seq.{get_or-set_other, get_or-set_same}
use Rattle.plans.specs.declared.Node.{Node}
use Rattle.plans.specs.Layout.{inputs_of}
use Rattle.plans.specs.Limits.{no_node}
use Rattle.plans.specs.Views.{slot_at}
use Rattle.arrivals.specs.Meetings.{action_from, may_wait}
use Rattle.operators.specs.Table.{action_of}
use Rattle.progress.specs.Seats.{InputsSeated, list_end, list_start, places_at, room_of, seat_action, seat_slot}
use Rattle.progress.proofs.Inputs.{slot-most}
use Rattle.progress.proofs.Parts.{places_most, room_most, room-third}
use Rattle.slots.specs.Steps.{AllInputs, Filling, room_at, start_at, total}
use Rattle.slots.proofs.Rooms.{zeros, zeros_at}
use Rattle.slots.proofs.Takers.{inputs-next, takers_all, takers_kept, takers_next, takers_start, takers_turn}

-- ---- sums
pub total-next : (f : ℕ → ℕ) (n : ℕ) → total f (n + 1) ≡ total f n + f n
unfolding total
total-next f n = rw (add-one n)

pub total-most : (f : ℕ → ℕ) (most : ℕ) → ((n : ℕ) → f n ≤ most) → (n : ℕ) → total f n ≤ n * most
unfolding total
total-most f most each zero = omega arith
total-most f most each (suc n) = omega (arith, total-most f most each n, each n, suc-mul n most)

-- ---- where the lists begin
module _ (places : List ℕ) (nodes : List Node) where
  start_first : start_at places nodes 0 0 ≡ 0
  unfolding start_at total
  start_first = refl

  start-next : (k i : ℕ) → start_at places nodes k (i + 1) ≡ start_at places nodes k i + room_at places nodes k i
  unfolding start_at
  start-next k i = rw (total-next (room_at places nodes k) i) (omega arith)

  start-node : (k : ℕ) → start_at places nodes (k + 1) 0 ≡ start_at places nodes k 3
  unfolding start_at total
  start-node k = rw (total-next (λ j. total (room_at places nodes j) 3) k) (omega arith)

  module _ (most : (q : ℕ) → get_or places q 0 ≤ 16) where
    room-at-most : (k i : ℕ) → room_at places nodes k i ≤ 17
    unfolding room_at
    room-at-most k i = room_most i _ _ (places_most places most _)

    room-at-third : (k : ℕ) → 0 ≡ room_at places nodes k 2
    unfolding room_at
    room-at-third k = room-third _ _

    pub start-most : (k : ℕ) → start_at places nodes k 0 ≤ 34 * k
    start-most k = go k
      where
        go : (k : ℕ) → start_at places nodes k 0 ≤ 34 * k
        go zero = omega (arith, start_first)
        go (suc k) = omega (arith, go k, rw (add-one k) at (start-node k), start-next k 0, start-next k 1, start-next k 2, room-at-most k 0, room-at-most k 1, room-at-third k)

-- ---- three numbers that are stored one after the other
abbrev stored_at : List ℕ → (at x y z : ℕ) → List ℕ
stored_at seats at x y z = set (set (set seats (at + 2) x) (at + 3) y) (at + 4) z

module _ (seats : List ℕ) (at x y z : ℕ) (fits : at + 4 < length seats) where
  abbrev stored : List ℕ
  stored = stored_at seats at x y z

  stored_size : length stored ≡ length seats
  stored_size = simp length-set

  stored_other : (b : ℕ) → (at + 2 ≤ b → b ≤ at + 4 → ⊥) → get_or stored b 0 ≡ get_or seats b 0
  stored_other b out =
      get_or-set_other (set (set seats (at + 2) x) (at + 3) y) (at + 4) b z 0 (λ e. out (omega arith) (omega arith))
      ∙ get_or-set_other (set seats (at + 2) x) (at + 3) b y 0 (λ e. out (omega arith) (omega arith))
      ∙ get_or-set_other seats (at + 2) b x 0 (λ e. out (omega arith) (omega arith))

  stored_first : get_or stored (at + 2) 0 ≡ x
  stored_first =
      get_or-set_other (set (set seats (at + 2) x) (at + 3) y) (at + 4) (at + 2) z 0 (λ e. omega arith)
      ∙ get_or-set_other (set seats (at + 2) x) (at + 3) (at + 2) y 0 (λ e. omega arith)
      ∙ get_or-set_same seats (at + 2) x 0 (omega arith)

  stored_second : get_or stored (at + 3) 0 ≡ y
  stored_second =
      get_or-set_other (set (set seats (at + 2) x) (at + 3) y) (at + 4) (at + 3) z 0 (λ e. omega arith)
      ∙ get_or-set_same (set seats (at + 2) x) (at + 3) y 0 (simp length-set (omega arith))

  stored_third : get_or stored (at + 4) 0 ≡ z
  stored_third = get_or-set_same (set (set seats (at + 2) x) (at + 3) y) (at + 4) z 0 (simp length-set (omega arith))

-- ---- the seats
module _ (places : List ℕ) (nodes : List Node) where
  pub filling_start : Filling places nodes 0 0 (zeros 187) (zeros 50) 0
  filling_start =
      record {
        size = refl;
        action = λ j h m l. absurd (omega arith);
        slot = λ j h m l. absurd (omega arith);
        list = λ j h m l. absurd (omega arith);
        next = sym (start_first places nodes);
        past = λ j a l m. zeros_at 187 a;
        taken = takers_start (zeros 187);
      }

  -- with input i of node k
  module _ (k i : ℕ) (seats takers : List ℕ) (l action slot room node : ℕ) (f : Filling places nodes k i seats takers l) (in-nodes : k < 16) (in_three : i < 3)
      (does : action_from action ≡ action_of (get_or nodes k no_node).operator i) (looks : slot ≡ slot_at k (get_or (inputs_of (get_or nodes k no_node)) i 0))
      (takes : room ≡ room_of i (may_wait (action_from action)) (places_at places slot)) (bit : node ≡ 2 ^ (4 * k + i)) where
    abbrev at : ℕ
    at = 11 * k + 3 * i

    fits : at + 4 < length seats
    fits = omega (arith, f.size)

    abbrev after : List ℕ
    after = stored_at seats at action slot l

    -- the inputs before keep their numbers
    kept : (c j h : ℕ) → 2 ≤ c → c ≤ 4 → h < 3 → 3 * j + h < 3 * k + i → get_or after (11 * j + 3 * h + c) 0 ≡ get_or seats (11 * j + 3 * h + c) 0
    kept c j h least most in-h before = stored_other seats at action slot l fits (11 * j + 3 * h + c) (λ x y. omega arith)

    room-is : room ≡ room_at places nodes k i
    unfolding room_at
    room-is = takes ∙ rw (does, looks)

    pub filling_turn : Filling places nodes k (i + 1) after (set takers slot (bit_or (get_or takers slot 0) node)) (l + room)
    filling_turn =
        record {
          size = stored_size seats at action slot l fits ∙ f.size;
          action = inputs-next (λ j h. action_from (seat_action after j h) ≡ action_of (get_or nodes j no_node).operator h) k i in_three
              (λ j h m b. rw (kept 2 j h (omega arith) (omega arith) m b) (f.action j h m b)) (rw (stored_first seats at action slot l fits) does);
          slot = inputs-next (λ j h. seat_slot after j h ≡ slot_at j (get_or (inputs_of (get_or nodes j no_node)) h 0)) k i in_three
              (λ j h m b. kept 3 j h (omega arith) (omega arith) m b ∙ f.slot j h m b) (stored_second seats at action slot l fits ∙ looks);
          list = inputs-next (λ j h. list_start after j h ≡ start_at places nodes j h) k i in_three
              (λ j h m b. kept 4 j h (omega arith) (omega arith) m b ∙ f.list j h m b) (stored_third seats at action slot l fits ∙ f.next);
          next = omega (arith, f.next, room-is, start-next places nodes k i);
          past = λ j a b m. stored_other seats at action slot l fits a (λ x y. omega arith) ∙ f.past j a (omega arith) m;
          taken = takers_turn seats takers after k i slot node f.taken in_three (omega (arith, slot-most k (get_or (inputs_of (get_or nodes k no_node)) i 0))) bit
              (λ j h m b. kept 3 j h (omega arith) (omega arith) m b) (stored_second seats at action slot l fits);
        }

  module _ (k : ℕ) (seats takers : List ℕ) (l : ℕ) where
    pub filling_most : ((q : ℕ) → get_or places q 0 ≤ 16) → Filling places nodes k 0 seats takers l → l ≤ 34 * k
    filling_most most f = omega (arith, f.next, start-most places nodes most k)

    -- after all inputs of a node
    pub filling_next : Filling places nodes k 3 seats takers l → Filling places nodes (k + 1) 0 seats takers l
    filling_next f =
        record {
          size = f.size;
          action = λ j h m b. f.action j h m (omega arith);
          slot = λ j h m b. f.slot j h m (omega arith);
          list = λ j h m b. f.list j h m (omega arith);
          next = f.next ∙ sym (start-node places nodes k);
          past = λ j a b. f.past j a (omega arith);
          taken = takers_next f.taken;
        }

  -- after all nodes, with the end of the last list
  module _ (n : ℕ) (seats takers : List ℕ) (l : ℕ) (all : n ≡ length nodes) (few : n ≤ 16) (most : (q : ℕ) → get_or places q 0 ≤ 16)
      (f : Filling places nodes n 0 seats takers l) where
    abbrev ended : List ℕ
    ended = set seats (11 * n + 4) l

    same : (b : ℕ) → (b ≡ 11 * n + 4 → ⊥) → get_or ended b 0 ≡ get_or seats b 0
    same b d = get_or-set_other seats (11 * n + 4) b l 0 d

    starts : (j h : ℕ) → h < 3 → 3 * j + h < 3 * n + 1 → list_start ended j h ≡ start_at places nodes j h
    starts = inputs-next (λ j h. list_start ended j h ≡ start_at places nodes j h) n 0 (omega arith)
        (λ j h m b. same (11 * j + 3 * h + 4) (λ e. omega arith) ∙ f.list j h m b)
        (let here : 11 * n + 3 * 0 + 4 ≡ 11 * n + 4 = omega arith in rw here (get_or-set_same seats (11 * n + 4) l 0 (omega (arith, f.size)) ∙ f.next))

    ends : (j i : ℕ) → j < n → i < 3 → list_end ended j i ≡ start_at places nodes j (i + 1)
    ends j zero in-n in_three = starts j 1 (omega arith) (omega arith)
    ends j (suc zero) in-n in_three = starts j 2 (omega arith) (omega arith)
    ends j (suc (suc zero)) in-n in_three = starts (j + 1) 0 (omega arith) (omega arith) ∙ start-node places nodes j
    ends j (suc (suc (suc i))) in-n in_three = absurd (omega arith)

    does : (j i : ℕ) → j < n → i < 3 → action_from (seat_action ended j i) ≡ action_of (get_or nodes j no_node).operator i
    does j i in-n in_three = rw (same (11 * j + 3 * i + 2) (λ e. omega arith)) (f.action j i in_three (omega arith))

    slot_same : (j i : ℕ) → j < n → i < 3 → seat_slot ended j i ≡ seat_slot seats j i
    slot_same j i in-n in_three = same (11 * j + 3 * i + 3) (λ e. omega arith)

    looks : (j i : ℕ) → j < n → i < 3 → seat_slot ended j i ≡ slot_at j (get_or (inputs_of (get_or nodes j no_node)) i 0)
    looks j i in-n in_three = slot_same j i in-n in_three ∙ f.slot j i in_three (omega arith)

    room_there : (j i : ℕ) → j < n → i < 3 → room_at places nodes j i ≡ room_of i (may_wait (action_from (seat_action ended j i))) (places_at places (seat_slot ended j i))
    unfolding room_at
    room_there j i in-n in_three = rw (does j i in-n in_three, looks j i in-n in_three)

    pub filling_all : AllInputs nodes places takers ended
    filling_all = record { inputs = inputs; taken = rw (← all) (takers_kept seats ended takers n slot_same (takers_all f.taken)) }
      where
        inputs : InputsSeated nodes places ended
        inputs = record {
          few = omega arith;
          size = length-set seats (11 * n + 4) l ∙ f.size;
          action = λ j i in-n. does j i (omega arith);
          slot = λ j i in-n. looks j i (omega arith);
          first = starts 0 0 (omega arith) (omega arith) ∙ start_first places nodes;
          lists = λ j i in-n in_three. omega (arith, ends j i (omega arith) in_three, start-next places nodes j i, starts j i in_three (omega arith), room_there j i (omega arith) in_three);
          past = λ j m. same (11 * j + 3 * 0 + 4) (λ e. omega arith) ∙ f.past j (11 * j + 3 * 0 + 4) (omega arith) (omega arith);
          made-past = λ j m. same (11 * j + 1) (λ e. omega arith) ∙ f.past j (11 * j + 1) (omega arith) (omega arith);
        }
