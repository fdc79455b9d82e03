-- The arrivals of an input one by one, and how many wait after them: each list grows by at most one for each arrival of its own input.
use mathlib.Core.Bool.{Bool, true, false}
use mathlib.Core.List.{List, [], ◌∷◌}
use mathlib.Core.Path.{◌≡◌, refl, sym, ap, subst, ◌∙◌}
use Prim.Native.Nat.{ℕ, zero, suc, ◌+◌, ◌≤◌, ◌<◌}
use native.Mathlib.Decide.{dec_lt}
use native.Mathlib.Omega.{arith}
use lib.Dec.{eqb}
use lib.ListN.{drop, get_or, length, take, length-append, length-take, take-append-drop}
use lib.Seq.{get_or-take}
use Rattle.sequences.specs.Choice.{pick}
use Rattle.sequences.specs.Loops.{fold, loop}
use Rattle.sequences.specs.Marks.{unmarked}
use Rattle.sequences.proofs.Booleans.{false_of_not_true, never_both}
use Rattle.sequences.proofs.Loops.{fold-append, fold-before, fold_next, fold-none, fold_still, fold-whole}
use Rattle.sequences.proofs.Marks.{unmarked-length}
use Rattle.occurrences.specs.declared.Occurrence.{Occurrence}
use Rattle.occurrences.specs.Occurrences.{no_occurrence}
use Rattle.occurrences.specs.Packed.{Notes, Stand, Stands}
use Rattle.occurrences.proofs.Packed.{stand-at, stand-length}
use Rattle.waiting_lists.specs.Waiting.{appended_to}
use Rattle.waiting_lists.proofs.Appends.{appended_full, appended-room}
use Rattle.plans.specs.declared.Node.{Node}
use Rattle.emissions.specs.Emissions.{Emitting, emitted_all, reached}
use Rattle.arrivals.specs.Meetings.{Arrival, Meeting, Setting, Sides, appended, carried_out, may_wait, meeting_of}
use Rattle.operators.specs.Table.{action_of}
use Rattle.operators.specs.Turns.{Turned, arrives, in_order, input_turn, meeting_at, node_turn, sides_of, turned_of}
use Rattle.operators.proofs.Carried.{waits_may}
use Rattle.operators.proofs.Table.{third_never}

-- stands for an arrival where there is none
abbrev pub no_arrival : Arrival
no_arrival = record { event = 0; input = 0; place = 0; occurrence = no_occurrence }

-- ---- the arrivals of an input
pub in_order-length : (event input place : ℕ) (l : List Occurrence) → length (in_order event input place l) ≡ length l
unfolding in_order
in_order-length event input place [] = refl
in_order-length event input place (o ∷ l) = ap suc (in_order-length event input (place + 1) l)

pub in_order-at : (event input place : ℕ) (l : List Occurrence) (i : ℕ) → i < length l
    → get_or (in_order event input place l) i no_arrival ≡ record { event = event; input = input; place = place + i; occurrence = get_or l i no_occurrence }
unfolding in_order
in_order-at event input place [] i h = absurd (omega arith)
in_order-at event input place (o ∷ l) zero h = let z : place + 0 ≡ place = omega arith in rw z
in_order-at event input place (o ∷ l) (suc i) h = let z : place + suc i ≡ place + 1 + i = omega arith in rw z (in_order-at event input (place + 1) l i (omega arith))

-- the arrival at place i of an input, among those that stand in rows
module _ (event input : ℕ) (l : List Occurrence) (i : ℕ) where
  abbrev pub arrival-at : Arrival
  arrival-at = get_or (in_order event input 0 l) i no_arrival

  pub stands_at : {ticks globals : List ℕ} (t : Notes ticks globals) (rows : List (List ℕ)) → Stand t rows l → i < length rows → Stands t (get_or rows i []) arrival-at.occurrence
  stands_at t rows g h =
      let in_l : i < length l = omega (arith, h, stand-length t rows l g) in
      subst (λ (o : Occurrence). Stands t (get_or rows i []) o) (sym (ap (λ (x : Arrival). x.occurrence) (in_order-at event input 0 l i in_l))) (stand-at t rows l i g h)

  pub by_input : i < length l → arrival-at.input ≡ input
  by_input h = ap (λ (x : Arrival). x.input) (in_order-at event input 0 l i h)

  pub one_more : (s : Setting) (node : Node) (place : ℕ) (x : Turned) → i < length l
      → arrives s node place (fold (arrives s node place) (take i (in_order event input 0 l)) x) arrival-at ≡ fold (arrives s node place) (take (i + 1) (in_order event input 0 l)) x
  one_more s node place x h = sym (fold-before (arrives s node place) (in_order event input 0 l) i x no_arrival (omega (arith, h, in_order-length event input 0 l)))

-- where nothing arrives the node is left alone
pub input_none : (s : Setting) (node : Node) (place event input : ℕ) (t : Turned) → input_turn s node place event input [] t ≡ t
unfolding input_turn in_order
input_none s node place event input t = fold-none (arrives s node place) t

-- after a limit nothing happens
pub arrives_still : (s : Setting) (node : Node) (place : ℕ) (t : Turned) (a : Arrival) → reached t.emit.limit ≡ true → arrives s node place t a ≡ t
unfolding arrives
arrives_still s node place t a h = rw h

pub input_still : (s : Setting) (node : Node) (place event input : ℕ) (l : List Occurrence) (t : Turned) → reached t.emit.limit ≡ true → input_turn s node place event input l t ≡ t
unfolding input_turn
input_still s node place event input l t h = fold_still (arrives s node place) t (λ a. arrives_still s node place t a h) (in_order event input 0 l)

-- where a limit is met at one of them, that is all
pub turn_stops : (s : Setting) (node : Node) (place event input : ℕ) (l : List Occurrence) (k : ℕ) (t x : Turned) → x ≡ fold (arrives s node place) (take k (in_order event input 0 l)) t
    → reached x.emit.limit ≡ true → x ≡ input_turn s node place event input l t
unfolding input_turn
turn_stops s node place event input l k t x e h =
    let all = in_order event input 0 l in
    sym (fold_still (arrives s node place) x (λ a. arrives_still s node place x a h) (drop k all)) ∙ ap (fold (arrives s node place) (drop k all)) e
    ∙ sym (fold-append (arrives s node place) (take k all) (drop k all) t) ∙ ap (λ (r : List Arrival). fold (arrives s node place) r t) (take-append-drop k all)

pub turn_ends : (s : Setting) (node : Node) (place event input : ℕ) (l : List Occurrence) (k : ℕ) (t : Turned) → length l ≤ k
    → fold (arrives s node place) (take k (in_order event input 0 l)) t ≡ input_turn s node place event input l t
unfolding input_turn
turn_ends s node place event input l k t h = fold-whole (arrives s node place) (in_order event input 0 l) k t (omega (arith, in_order-length event input 0 l))

-- ---- how many wait after one arrival
pick_few : {A B : Type 0} (f : A → List B) (b : Bool) (x y : A) (n : ℕ) → length (f x) ≤ n → length (f y) ≤ n → length (f (pick b x y)) ≤ n
pick_few f true x y n h k = h
pick_few f false x y n h k = k

appended-few : (l : List Occurrence) (o : Occurrence) → length (appended_to l o) ≤ length l + 1
appended-few l o = elim (dec_lt (length l) 16) [
  | yes h ↦ omega (arith, ap length (appended-room l o h).1 ∙ length-append l (o ∷ []))
  | no h ↦ omega (arith, ap length (appended_full l o (omega arith)).1)
]

module _ (s : Setting) (place : ℕ) (e : Emitting) (m : Meeting) where
  abbrev f : Emitting
  f = emitted_all s.room s.loggers place e m.made

  carried_own : length (carried_out s place e m).own ≤ length m.own + 1
  unfolding carried_out appended
  carried_own =
      let less = unmarked-length m.own m.cleared in
      pick_few (λ (x : Sides). x.own) (reached f.limit) _ _ (length m.own + 1) (omega arith)
      (pick_few (λ (x : Sides). x.own) m.waits _ _ (length m.own + 1) (omega (arith, less, appended-few (unmarked m.own m.cleared) m.arrival.occurrence)) (omega (arith, less)))

  carried_other : length (carried_out s place e m).other ≤ length m.other
  unfolding carried_out appended
  carried_other =
      let less = unmarked-length m.other m.removed in
      pick_few (λ (x : Sides). x.other) (reached f.limit) _ _ (length m.other) (omega arith) (pick_few (λ (x : Sides). x.other) m.waits _ _ (length m.other) less less)

-- a node seen from one side, and back
sides_by : (b : Bool) (input : ℕ) → eqb input 0 ≡ b → (x : Sides) → ((sides_of input (turned_of input x)).own ≡ x.own) × ((sides_of input (turned_of input x)).other ≡ x.other)
unfolding sides_of turned_of
sides_by true input e x = rw e (refl, refl)
sides_by false input e x = rw e (refl, refl)

module _ (s : Setting) (node : Node) (place : ℕ) (t : Turned) (a : Arrival) where
  abbrev then : Sides
  then = carried_out s place t.emit (meeting_at s node t a)

  meeting-sides : ((meeting_at s node t a).own ≡ (sides_of a.input t).own) × ((meeting_at s node t a).other ≡ (sides_of a.input t).other)
  unfolding meeting_at meeting_of
  meeting-sides = (refl, refl)

  one_own : length (sides_of a.input (arrives s node place t a)).own ≤ length (sides_of a.input t).own + 1
  unfolding arrives
  one_own =
      pick_few (λ (x : Turned). (sides_of a.input x).own) (reached t.emit.limit) t (turned_of a.input then) (length (sides_of a.input t).own + 1) (omega arith)
      (omega (arith, ap length (sides_by (eqb a.input 0) a.input refl then).0, carried_own s place t.emit (meeting_at s node t a), ap length meeting-sides.0))

  one_other : length (sides_of a.input (arrives s node place t a)).other ≤ length (sides_of a.input t).other
  unfolding arrives
  one_other =
      pick_few (λ (x : Turned). (sides_of a.input x).other) (reached t.emit.limit) t (turned_of a.input then) (length (sides_of a.input t).other) (omega arith)
      (omega (arith, ap length (sides_by (eqb a.input 0) a.input refl then).1, carried_other s place t.emit (meeting_at s node t a), ap length meeting-sides.1))

  one_few : (input : ℕ) → a.input ≡ input
      → (length (sides_of input (arrives s node place t a)).own ≤ length (sides_of input t).own + 1) × (length (sides_of input (arrives s node place t a)).other ≤ length (sides_of input t).other)
  one_few input by =
      subst (λ (n : ℕ). (length (sides_of n (arrives s node place t a)).own ≤ length (sides_of n t).own + 1) × (length (sides_of n (arrives s node place t a)).other ≤ length (sides_of n t).other)) by
      (one_own, one_other)

-- ---- after several of an input
module _ (s : Setting) (node : Node) (place input : ℕ) where
  pub some-few : (l : List Arrival) → ((k : ℕ) → k < length l → (get_or l k no_arrival).input ≡ input) → (t : Turned)
      → (length (sides_of input (fold (arrives s node place) l t)).own ≤ length (sides_of input t).own + length l)
      × (length (sides_of input (fold (arrives s node place) l t)).other ≤ length (sides_of input t).other)
  some-few [] by t = rw (fold-none (arrives s node place) t) (omega arith, omega arith)
  some-few (a ∷ l) by t =
      let first = one_few s node place t a input (by 0 (omega arith)) in
      let rest = some-few l (λ k h. by (suc k) (omega arith)) (arrives s node place t a) in
      rw (fold_next (arrives s node place) a l t)
      (omega (arith, rest.0, first.0), omega (arith, rest.1, first.1))

  in_order_by : (event : ℕ) (l : List Occurrence) (k : ℕ) → k < length (in_order event input 0 l) → (get_or (in_order event input 0 l) k no_arrival).input ≡ input
  in_order_by event l k h = ap (λ (a : Arrival). a.input) (in_order-at event input 0 l k (omega (arith, in_order-length event input 0 l)))

  pub first-few : (event : ℕ) (l : List Occurrence) (i : ℕ) (t : Turned)
      → (length (sides_of input (fold (arrives s node place) (take i (in_order event input 0 l)) t)).own ≤ length (sides_of input t).own + i)
      × (length (sides_of input (fold (arrives s node place) (take i (in_order event input 0 l)) t)).other ≤ length (sides_of input t).other)
  first-few event l i t =
      let few = some-few (take i (in_order event input 0 l)) by t in
      (omega (arith, few.0, length-take i (in_order event input 0 l)), few.1)
    where
      by : (k : ℕ) → k < length (take i (in_order event input 0 l)) → (get_or (take i (in_order event input 0 l)) k no_arrival).input ≡ input
      by k h =
          let in-i : k < i = omega (arith, length-take i (in_order event input 0 l)) in
          let in_l : k < length (in_order event input 0 l) = omega (arith, length-take i (in_order event input 0 l)) in
          ap (λ (a : Arrival). a.input) (get_or-take i (in_order event input 0 l) k no_arrival in-i) ∙ in_order_by event l k in_l

  pub input-few : (event : ℕ) (l : List Occurrence) (t : Turned)
      → (length (sides_of input (input_turn s node place event input l t)).own ≤ length (sides_of input t).own + length l)
      × (length (sides_of input (input_turn s node place event input l t)).other ≤ length (sides_of input t).other)
  unfolding input_turn
  input-few event l t = let few = some-few (in_order event input 0 l) (in_order_by event l) t in (omega (arith, few.0, in_order-length event input 0 l), few.1)

-- ---- arrivals that may not wait make their own list no longer
carried_same : (s : Setting) (place : ℕ) (e : Emitting) (m : Meeting) → m.waits ≡ false → length (carried_out s place e m).own ≤ length m.own
unfolding carried_out
carried_same s place e m w = pick_few (λ (x : Sides). x.own) (reached (f s place e m).limit) _ _ (length m.own) (omega arith) (rw w (unmarked-length m.own m.cleared))

module _ (s : Setting) (node : Node) (place : ℕ) (t : Turned) (a : Arrival) (never : may_wait (action_of node.operator a.input) ≡ false) where
  waits-not : (meeting_at s node t a).waits ≡ false
  unfolding meeting_at meeting_of
  waits-not = false_of_not_true _ (λ w. never_both (waits_may _ _ _ _ refl w) never)

  one_same : length (sides_of a.input (arrives s node place t a)).own ≤ length (sides_of a.input t).own
  unfolding arrives
  one_same =
      pick_few (λ (x : Turned). (sides_of a.input x).own) (reached t.emit.limit) t (turned_of a.input (then s node place t a)) (length (sides_of a.input t).own) (omega arith)
      (omega (
        arith,
        ap length (sides_by (eqb a.input 0) a.input refl (then s node place t a)).0,
        carried_same s place t.emit (meeting_at s node t a) waits-not,
        ap length (meeting-sides s node place t a).0,
      ))

module _ (s : Setting) (node : Node) (place input : ℕ) (never : may_wait (action_of node.operator input) ≡ false) where
  some_same : (l : List Arrival) → ((k : ℕ) → k < length l → (get_or l k no_arrival).input ≡ input) → (t : Turned)
      → length (sides_of input (fold (arrives s node place) l t)).own ≤ length (sides_of input t).own
  some_same [] by t = rw (fold-none (arrives s node place) t) (omega arith)
  some_same (a ∷ l) by t =
      let mine : a.input ≡ input = by 0 (omega arith) in
      let first = subst (λ (n : ℕ). length (sides_of n (arrives s node place t a)).own ≤ length (sides_of n t).own) mine (one_same s node place t a (rw mine never)) in
      rw (fold_next (arrives s node place) a l t) (omega (arith, first, some_same l (λ k h. by (suc k) (omega arith)) (arrives s node place t a)))

  pub input-same : (event : ℕ) (l : List Occurrence) (t : Turned) → length (sides_of input (input_turn s node place event input l t)).own ≤ length (sides_of input t).own
  unfolding input_turn
  input-same event l t = some_same (in_order event input 0 l) (in_order_by s node place input event l) t

-- ---- a node's turn: the arrivals of its first input, then those of its second, then those of its third
pub sides_0 : (x : Turned) → ((sides_of 0 x).own ≡ x.left) × ((sides_of 0 x).other ≡ x.middle)
unfolding sides_of
sides_0 x = (refl, refl)

pub sides_1 : (x : Turned) → ((sides_of 1 x).own ≡ x.middle) × ((sides_of 1 x).other ≡ x.left)
unfolding sides_of
sides_1 x = (refl, refl)

pub sides_2 : (x : Turned) → ((sides_of 2 x).own ≡ x.middle) × ((sides_of 2 x).other ≡ x.left)
unfolding sides_of
sides_2 x = (refl, refl)

module _ (s : Setting) (node : Node) (place event : ℕ) (first second third : List Occurrence) (t : Turned) where
  abbrev turn : Turned
  turn = node_turn s node place event (first ∷ second ∷ third ∷ []) t

  pub node_turn-is : turn ≡ input_turn s node place event 2 third (input_turn s node place event 1 second (input_turn s node place event 0 first t))
  unfolding node_turn loop
  node_turn-is = refl

  -- what comes by the third makes neither list longer
  pub node-few : (length turn.left ≤ length t.left + length first) × (length turn.middle ≤ length t.middle + length second)
  node-few =
      let x = input_turn s node place event 0 first t in
      let y = input_turn s node place event 1 second x in
      let z = input_turn s node place event 2 third y in
      let one = input-few s node place 0 event first t in
      let two = input-few s node place 1 event second x in
      let three = input-few s node place 2 event third y in
      let same = input-same s node place 2 (third_never node.operator) event third y in
      rw node_turn-is (
        omega (arith, one.0, two.1, three.1, ap length (sides_0 t).0, ap length (sides_0 x).0, ap length (sides_1 x).1, ap length (sides_1 y).1, ap length (sides_2 y).1, ap length (sides_2 z).1),
        omega (arith, one.1, two.0, same, ap length (sides_0 t).1, ap length (sides_0 x).1, ap length (sides_1 x).0, ap length (sides_1 y).0, ap length (sides_2 y).0, ap length (sides_2 z).0),
      )
