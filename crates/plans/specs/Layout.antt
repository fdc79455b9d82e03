-- The plan file as document 01 lays it out, under "Files", with request Q-2: four sections, each after its count, integers big-endian.
use Rattle.std.specs.Prelude.{ℕ, List, [], ◌∷◌, ◌++◌}
use Rattle.forms.specs.Forms.{Form, number, pair, via, section_bytes}
use Rattle.timestamps.specs.Order.{Clocks, clocks_of}
use Rattle.plans.specs.declared.Node.{Node}

pub record Plan : Type 0 where
  -- local ticks in a global tick
  pub ratio : ℕ
  -- numbers of the loggers and of the kinds
  pub loggers : List ℕ
  pub kinds : List ℕ
  pub nodes : List Node

-- the clocks of its loggers
abbrev pub plan_clocks : Plan → Clocks
plan_clocks p = clocks_of p.ratio

-- a node: operator 1 byte, context 1 byte, left input 2 bytes, middle input 2 bytes, third input 2 bytes
abbrev pub to_node : ℕ × (ℕ × (ℕ × (ℕ × ℕ))) → Node
to_node p = record { operator = p.0; context = p.1.0; left = p.1.1.0; middle = p.1.1.1.0; third = p.1.1.1.1 }

abbrev pub from_node : Node → ℕ × (ℕ × (ℕ × (ℕ × ℕ)))
from_node n = (n.operator, (n.context, (n.left, (n.middle, n.third))))

abbrev pub node : Form Node
node = via to_node from_node (pair (number 1) (pair (number 1) (pair (number 2) (pair (number 2) (number 2)))))

-- its inputs, by index: left, then middle, then third
abbrev pub inputs_of : Node → List ℕ
inputs_of n = n.left ∷ n.middle ∷ n.third ∷ []

-- clocks: the ratio, 4 bytes; loggers and kinds: a number each, 2 bytes; nodes
unfoldable pub plan_bytes : Plan → List ℕ
plan_bytes p =
    section_bytes (number 4) (p.ratio ∷ []) ++ section_bytes (number 2) p.loggers ++ section_bytes (number 2) p.kinds
    ++ section_bytes node p.nodes
