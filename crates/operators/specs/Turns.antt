-- Document 01, "How an event is worked": a node's turn, arrival by arrival.
use Rattle.std.specs.Prelude.{List, [], ◌∷◌, None, ℕ, ◌+◌, eqb, get_or, length}
use Rattle.sequences.specs.Choice.{pick}
use Rattle.sequences.specs.Loops.{fold, loop}
use Rattle.occurrences.specs.declared.Occurrence.{Occurrence}
use Rattle.contexts.specs.Table.{row_of}
use Rattle.plans.specs.declared.Node.{Node}
use Rattle.emissions.specs.Emissions.{Emitting, reached}
use Rattle.arrivals.specs.Meetings.{Arrival, Meeting, Setting, Sides, carried_out, meeting_of, sides}
use Rattle.operators.specs.Table.{action_of}

-- a node in its turn: what waits on its left and on its middle, and what it has made
pub record Turned : Type 0 where
  pub left : List Occurrence
  pub middle : List Occurrence
  pub emit : Emitting

-- ---- the node as an arrival by an input sees it: by the left input, 0, its own side is the left, by any other the middle
unfoldable pub sides_of : ℕ → Turned → Sides
sides_of input t = pick (eqb input 0) (sides t.left t.middle t.emit) (sides t.middle t.left t.emit)

unfoldable pub turned_of : ℕ → Sides → Turned
turned_of input x =
    pick (eqb input 0) (record { left = x.own; middle = x.other; emit = x.emit }) (record { left = x.other; middle = x.own; emit = x.emit })

-- what an arrival meets at a node: by the operator's row and the context's
unfoldable pub meeting_at : Setting → Node → Turned → Arrival → Meeting
meeting_at s node t a =
    let x = sides_of a.input t in
    meeting_of (action_of node.operator a.input) (row_of node.context) s.clocks x.own x.other a

-- the arrival is worked. After a limit nothing happens
unfoldable pub arrives : Setting → Node → ℕ → Turned → Arrival → Turned
arrives s node place t a = pick (reached t.emit.limit) t (turned_of a.input (carried_out s place t.emit (meeting_at s node t a)))

-- ---- the turn

-- the arrivals of one input in an event, in the order made, from a place on
unfoldable pub in_order : (event input place : ℕ) → List Occurrence → List Arrival
in_order event input place [] = []
in_order event input place (o ∷ l) = record { event = event; input = input; place = place; occurrence = o } ∷ in_order event input (place + 1) l

unfoldable pub input_turn : Setting → Node → (place event input : ℕ) → List Occurrence → Turned → Turned
input_turn s node place event input l t = fold (arrives s node place) (in_order event input 0 l) t

-- a node first takes the arrivals of its left input, then those of its middle input, then those of its third
unfoldable pub node_turn : Setting → Node → (place event : ℕ) → List (List Occurrence) → Turned → Turned
node_turn s node place event inputs t = loop (λ i. input_turn s node place event i (get_or inputs i [])) (length inputs) 0 t

-- a node at the start of its turn: it has made nothing yet
abbrev pub begun : (left middle : List Occurrence) → ℕ → List ℕ → Turned
begun left middle findings bytes = record { left = left; middle = middle; emit = record { made = []; findings = findings; bytes = bytes; limit = None } }
