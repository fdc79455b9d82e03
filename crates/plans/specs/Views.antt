-- What the code's values stand for.
use Rattle.std.specs.Prelude.{not, ◌≡◌, ℕ, ◌+◌, ◌-◌, ◌≤◌, ◌<◌, List, [], map, eqb, ltb, get_or, length, take, Result, Ok, Err, IfOk}
use Rattle.sequences.specs.Choice.{pick}
use Rattle.forms.specs.Sections.{Read, Section, bad, got, section, then}
use Rattle.plans.specs.Faults.{number_of}
use Rattle.plans.specs.Layout.{Plan}
use Rattle.plans.specs.Reader.{PlanAnswer, accepted, is_input, refused}
use Rattle.plans.specs.declared.Node.{Node}
use Rattle.plans.specs.declared.NodeRow.{NodeRow}
use Rattle.plans.specs.declared.PlanFault.{PlanFault}
use Rattle.plans.specs.declared.PlanRead.{PlanRead}
use Rattle.plans.specs.declared.PlanRefusal.{PlanRefusal}

-- ---- slots: where what arrives by an input is counted. Slot q for the kind at place q, from 0 to 32; slot 34 + p for what node p made; slot 33 for nothing
-- the slot of an input of node k: only earlier nodes have made something
unfoldable pub slot_at : ℕ → ℕ → ℕ
slot_at k input = pick (ltb input 33) input (pick (ltb input 32768) 33 (pick (ltb (input - 32768) k) (input - 32768 + 34) 33))

-- the input whose slot it is
unfoldable pub input_from : ℕ → ℕ
input_from slot = pick (ltb slot 33) slot (pick (eqb slot 33) 65535 (slot - 34 + 32768))

-- a slot that the code gives an input of the node at a place, under so many kinds: 33 if the input is not allowed
pub record SlotOf (kinds place input slot : ℕ) : Type 0 where
  pub allowed : is_input kinds place input ≡ not (eqb slot 33)
  pub from : (slot ≡ 33 → ⊥) → input_from slot ≡ input
  pub below : slot < 34 + place

-- ---- nodes
-- a node from the row that the code keeps: it has the slots of its left, middle and third input
abbrev pub node_of : NodeRow → Node
node_of row =
    record {
      operator = row.operator;
      context = row.context;
      left = input_from (get_or row.slots 0 0);
      middle = input_from (get_or row.slots 1 0);
      third = input_from (get_or row.slots 2 0);
    }

-- stands for a row where there is none
abbrev pub no_row : NodeRow
no_row = record { operator = 0; context = 0; slots = [] }

-- a row that is filled from a node at a place, before the node is judged
pub record RowOf (kinds place : ℕ) (n : Node) (row : NodeRow) : Type 0 where
  pub operator : row.operator ≡ n.operator
  pub context : row.context ≡ n.context
  pub left : SlotOf kinds place n.left (get_or row.slots 0 0)
  pub middle : SlotOf kinds place n.middle (get_or row.slots 1 0)
  pub third : SlotOf kinds place n.third (get_or row.slots 2 0)

-- the slots in the row of node k are kinds' or earlier nodes', or 33
abbrev pub SlotsBelow : ℕ → NodeRow → Type 0
SlotsBelow k row = (i : ℕ) → i < 3 → get_or row.slots i 0 < 34 + k

-- the first n rows are so
unfoldable pub Slotted : ℕ → List NodeRow → Type 0
Slotted n rows = (k : ℕ) → k < n → SlotsBelow k (get_or rows k no_row)

-- ---- plans
-- the plan that is held in lists
abbrev pub plan_of : ℕ → (loggers kinds : List ℕ) → (nodes : List NodeRow) → Plan
plan_of ratio loggers kinds nodes = record { ratio = ratio; loggers = loggers; kinds = kinds; nodes = map node_of nodes }

-- with as many of each as are counted
abbrev pub answer_of : Result PlanRead PlanRefusal → (loggers kinds : List ℕ) → (nodes : List NodeRow) → PlanAnswer
answer_of (Ok r) loggers kinds nodes =
    accepted (plan_of r.ratio (take r.logger_count loggers) (take r.kind_count kinds) (take r.node_count nodes))
answer_of (Err r) loggers kinds nodes = refused (number_of r.fault) r.place

-- ---- what the readers give
abbrev pub refused_as : {A : Type 0} → PlanRefusal → Read A
refused_as r = bad (number_of r.fault) r.place

-- a value and the place after it
abbrev pub read_as : {A : Type 0} → Result (A × ℕ) PlanRefusal → Read A
read_as (Ok r) = got r.0 r.1
read_as (Err r) = refused_as r

-- the number of a fault, 0 for none
abbrev pub judged_as : Result Unit PlanFault → ℕ
judged_as (Ok u) = 0
judged_as (Err fault) = number_of fault

-- what reading a section gives, with as many as are counted in front of a list
pub record Filled {A : Type 0} (s : Section A) (b : List ℕ) (start : ℕ) (r : Result (ℕ × ℕ) PlanRefusal) (l : List A) : Type 0 where
  pub is : then (read_as r) (λ count next. got (take count l) next) ≡ section s b start
  pub counted : IfOk r (λ n. (n.0 ≤ s.most) × (length (take n.0 l) ≡ n.0))
