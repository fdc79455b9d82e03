-- Reading a plan file: the table of document 01, "Where work is turned back", in its order, with request Q-2.
use Rattle.std.specs.Prelude.{ℕ, ◌-◌, List, [], ◌∷◌, Bool, true, ◌&&◌, ◌||◌, length, get_or, ltb, leb, eqb}
use Rattle.sequences.specs.Choice.{pick}
use Rattle.forms.specs.Forms.{number}
use Rattle.forms.specs.Sections.{unless, within, outside, Read, got, bad, then, Section, section, ended}
use Rattle.plans.specs.Faults.{number_of}
use Rattle.plans.specs.Layout.{Plan, node}
use Rattle.plans.specs.declared.Node.{Node}
use Rattle.plans.specs.declared.PlanFault.TheVariants.{CutShort, ClockCount, Ratio, LoggerCount, LoggerNumber, KindCount, KindNumber, NodeCount, Operator, Context, Input, ThirdInput, BytesRemain}

-- ---- clocks: count 1; the ratio, 1 to 1,000,000
abbrev pub clocks : Section ℕ
clocks =
    record {
      least = 1;
      most = 1;
      entry = number 4;
      count_fault = number_of ClockCount;
      entry_fault = λ before ratio. outside 1 1000000 (number_of Ratio) ratio;
      cut = number_of CutShort;
    }

-- ---- loggers, 1 to 8, and kinds, 1 to 32: numbers, each above the one before
-- above the last of those before it, if there is one
abbrev pub above : List ℕ → ℕ → Bool
above [] v = true
above (x ∷ []) v = ltb x v
above (x ∷ y ∷ l) v = above (y ∷ l) v

abbrev pub numbers : (limit count_fault number-fault : ℕ) → Section ℕ
numbers limit count_fault number-fault =
    record {
      least = 1;
      most = limit;
      entry = number 2;
      count_fault = count_fault;
      entry_fault = λ before v. unless (above before v) number-fault 0;
      cut = number_of CutShort;
    }

abbrev pub loggers : Section ℕ
loggers = numbers 8 (number_of LoggerCount) (number_of LoggerNumber)

abbrev pub kinds : Section ℕ
kinds = numbers 32 (number_of KindCount) (number_of KindNumber)

-- ---- nodes, 1 to 16: operator, context, left input, middle input, third input
-- the place of one of so many kinds, or 32,768 plus the place of a node before this place
abbrev pub is_input : ℕ → ℕ → ℕ → Bool
is_input kinds place x = ltb x kinds || (leb 32768 x && ltb (x - 32768) place)

-- the third input is 65,535 for operators 1 to 3, and an input for the others
abbrev pub is_third : ℕ → ℕ → Node → Bool
is_third kinds place n = pick (leb n.operator 3) (eqb n.third 65535) (is_input kinds place n.third)

-- the fault of a node at a place, under so many kinds
abbrev pub node_fault : ℕ → ℕ → Node → ℕ
node_fault kinds place n =
    unless (within 1 6 n.operator) (number_of Operator)
    (unless (within 1 4 n.context) (number_of Context)
    (unless (is_input kinds place n.left) (number_of Input)
    (unless (is_input kinds place n.middle) (number_of Input)
    (unless (is_third kinds place n) (number_of ThirdInput) 0))))

abbrev pub nodes : ℕ → Section Node
nodes kinds =
    record {
      least = 1;
      most = 16;
      entry = node;
      count_fault = number_of NodeCount;
      entry_fault = λ before n. node_fault kinds (length before) n;
      cut = number_of CutShort;
    }

-- ---- the whole file
unfoldable pub plan_at : List ℕ → Read Plan
plan_at b =
    then (section clocks b 0) λ ratios at₁.
    then (section loggers b at₁) λ ls at₂.
    then (section kinds b at₂) λ ks at₃.
    then (section (nodes (length ks)) b at₃) λ ns at₄.
    ended (number_of BytesRemain) b (record { ratio = get_or ratios 0 0; loggers = ls; kinds = ks; nodes = ns }) at₄

-- the answer: the fault's number, 0 for none; its place, with 0 the place 0; the plan
pub record PlanAnswer : Type 0 where
  pub number : ℕ
  pub place : ℕ
  pub plan : Plan

abbrev pub accepted : Plan → PlanAnswer
accepted p = record { number = 0; place = 0; plan = p }

-- with a plan that has nothing in it
abbrev pub refused : ℕ → ℕ → PlanAnswer
refused number place = record { number = number; place = place; plan = record { ratio = 0; loggers = []; kinds = []; nodes = [] } }

abbrev pub answered : Read Plan → PlanAnswer
answered (got p at) = accepted p
answered (bad fault at) = refused fault at

unfoldable pub read_plan : List ℕ → PlanAnswer
read_plan b = answered (plan_at b)
