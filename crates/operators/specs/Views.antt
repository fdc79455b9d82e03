-- What the code's values stand for, beside what is lent: a node's two waiting lists, what it made, the output.
use Rattle.timestamps.specs.declared.Note.{Note}
use Rattle.std.specs.Prelude.{Bool, true, not, List, Option, None, ◌≡◌, ℕ, ◌≤◌, eqb, drop, length, take}
use Rattle.sequences.specs.Choice.{pick}
use Rattle.timestamps.specs.Order.{Clocks}
use Rattle.occurrences.specs.declared.Occurrence.{Occurrence}
use Rattle.occurrences.specs.Packed.{Notes, NotesOf, Stand, Stands}
use Rattle.waiting_lists.specs.Lists.{Waits}
use Rattle.waiting_lists.specs.Marks.{marks_of}
use Rattle.contexts.specs.declared.Choice.{Choice}
use Rattle.contexts.specs.Choice.{chosen}
use Rattle.contexts.specs.Table.{row_of}
use Rattle.plans.specs.declared.Node.{Node}
use Rattle.emissions.specs.declared.Limit.{Limit}
use Rattle.emissions.specs.declared.Made.{Made}
use Rattle.emissions.specs.Emissions.{Emits}
use Rattle.arrivals.specs.Meetings.{action_from, candidates_of, may_wait}
use Rattle.arrivals.specs.Views.{Spare}
use Rattle.operators.specs.Table.{action_of}
use Rattle.operators.specs.Turns.{Turned, sides_of}
use Rattle.operators.specs.declared.Part.{Part}
use Rattle.operators.specs.declared.Turn.{Turn}

-- a node's two lists in one: the left one up to the split, the middle one from there on
pub record NodeWaits {ticks globals : List ℕ} (t : Notes ticks globals) (split : ℕ) (lists : List (List ℕ)) (left middle : List Occurrence) : Type 0 where
  pub inside : split ≤ length lists
  pub left-waits : Waits t (take split lists) left
  pub middle-waits : Waits t (drop split lists) middle

-- the node in its turn
pub record HoldsTurned {ticks globals : List ℕ} (t : Notes ticks globals) (met : Option Limit) (split : ℕ) (lists : List (List ℕ)) (made : Made) (out : List ℕ) (x : Turned) : Type 0 where
  pub waits : NodeWaits t split lists x.left x.middle
  pub emit : Emits t met made out x.emit

-- one of them, as a part
pub record Half (left : Bool) (split end : ℕ) (p : Part) : Type 0 where
  pub from : p.from ≡ pick left 0 split
  pub to : p.to ≡ pick left split end
  pub up : p.from ≤ p.to
  pub within : p.to ≤ end

-- the part of the turn's own side, and the other
abbrev pub Halves : Turn → ℕ → (own other : Part) → Type 0
Halves turn end own other = Half (eqb turn.input 0) turn.split end own × Half (not (eqb turn.input 0)) turn.split end other

-- the list on the arrival's own side, and the other one
abbrev pub own_part : {A : Type 0} → (input split : ℕ) → List A → List A
own_part input split lists = pick (eqb input 0) (take split lists) (drop split lists)

-- the turn is of this node: what the operator's row says of the input, and the context
pub record Takes (node : Node) (turn : Turn) : Type 0 where
  pub action : action_from turn.action ≡ action_of node.operator turn.input
  pub context : turn.context ≡ node.context

-- the marks of an arrival's candidates, and what the turn's context chooses of them
pub record Chose (turn : Turn) (clocks : Clocks) (x : Turned) (o : Occurrence) (candidates : ℕ) (choice : Choice) : Type 0 where
  pub are : marks_of candidates ≡ candidates_of (action_from turn.action) clocks (sides_of turn.input x).own (sides_of turn.input x).other o
  pub taken : marks_of choice.taken ≡ (chosen (row_of turn.context) clocks (sides_of turn.input x).other (marks_of candidates)).taken
  pub removed : marks_of choice.removed ≡ (chosen (row_of turn.context) clocks (sides_of turn.input x).other (marks_of candidates)).removed

-- its own list has places for n that arrive, where they may come to wait
abbrev pub Spares : Turn → (lists : List (List ℕ)) → ℕ → Type 0
Spares turn lists n = may_wait (action_from turn.action) ≡ true → Spare (own_part turn.input turn.split lists) n

-- ---- that there are such notes and occurrences: of one arrival, and of those of an input of a node, where no limit is met yet
abbrev pub Offered : (turn : Turn) (notes : List Note) (lists : List (List ℕ)) (made : Made) (out o : List ℕ) → Type 0
Offered turn notes lists made out o =
    (t : NotesOf notes) × (x : Turned) × (y : Occurrence) × HoldsTurned t None turn.split lists made out x × Stands t o y

abbrev pub AllOffered : (turn : Turn) (notes : List Note) (lists : List (List ℕ)) (made : Made) (out : List ℕ) (arrivals : List (List ℕ)) → Type 0
AllOffered turn notes lists made out arrivals =
    (t : NotesOf notes) × (node : Node) × (x : Turned) × (l : List Occurrence)
    × Takes node turn × HoldsTurned t None turn.split lists made out x × Stand t arrivals l
