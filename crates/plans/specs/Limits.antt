-- The limits of a plan, in document 01's words, with request Q-2.
use Rattle.std.specs.Prelude.{◌≡◌, ◌⊎◌, ℕ, ◌+◌, ◌≤◌, ◌<◌, List, length, get_or}
use Rattle.plans.specs.Layout.{Plan}
use Rattle.plans.specs.declared.Node.{Node}

-- at least one and at most so many numbers of two bytes, strictly rising
pub record NumbersOk (limit : ℕ) (l : List ℕ) : Type 0 where
  pub least : 1 ≤ length l
  pub most : length l ≤ limit
  pub small : (i : ℕ) → i < length l → get_or l i 0 < 65536
  pub rising : (i : ℕ) → i + 1 < length l → get_or l i 0 < get_or l (i + 1) 0

-- the place of a kind, or 32,768 plus the place of an earlier node
abbrev pub InputOk : ℕ → ℕ → ℕ → Type 0
InputOk kinds place x = (x < kinds) ⊎ ((earlier : ℕ) × (earlier < place) × (x ≡ 32768 + earlier))

-- 65,535 for operators 1 to 3, an input for operators 4 to 6
abbrev pub ThirdOk : ℕ → ℕ → Node → Type 0
ThirdOk kinds place n = ((n.operator ≤ 3) × (n.third ≡ 65535)) ⊎ ((4 ≤ n.operator) × InputOk kinds place n.third)

-- the node at a place, under so many kinds
pub record NodeOk (kinds place : ℕ) (n : Node) : Type 0 where
  pub operator-least : 1 ≤ n.operator
  pub operator-most : n.operator ≤ 6
  pub context-least : 1 ≤ n.context
  pub context-most : n.context ≤ 4
  pub left : InputOk kinds place n.left
  pub middle : InputOk kinds place n.middle
  pub third : ThirdOk kinds place n

-- stands for a node where there is none
abbrev pub no_node : Node
no_node = record { operator = 0; context = 0; left = 0; middle = 0; third = 0 }

pub record PlanOk (p : Plan) : Type 0 where
  pub ratio-least : 1 ≤ p.ratio
  pub ratio-most : p.ratio ≤ 1000000
  pub loggers : NumbersOk 8 p.loggers
  pub kinds : NumbersOk 32 p.kinds
  pub nodes-least : 1 ≤ length p.nodes
  pub nodes-most : length p.nodes ≤ 16
  pub nodes : (i : ℕ) → i < length p.nodes → NodeOk (length p.kinds) i (get_or p.nodes i no_node)
