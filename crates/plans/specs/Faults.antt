-- The faults of a plan file by the numbers of document 01, with request Q-2.
use Rattle.std.specs.Prelude.{◌≡◌, ◌⊎◌, ℕ, ◌≤◌}
use Rattle.plans.specs.declared.PlanFault.{PlanFault}
use Rattle.plans.specs.declared.PlanFault.TheVariants.{CutShort, ClockCount, Ratio, LoggerCount, LoggerNumber, KindCount, KindNumber, NodeCount, Operator, Context, Input, ThirdInput, BytesRemain}

abbrev pub number_of : PlanFault → ℕ
number_of CutShort = 1
number_of ClockCount = 2
number_of Ratio = 3
number_of LoggerCount = 4
number_of LoggerNumber = 5
number_of KindCount = 6
number_of KindNumber = 7
number_of NodeCount = 8
number_of Operator = 9
number_of Context = 10
number_of Input = 11
number_of ThirdInput = 41
number_of BytesRemain = 12

-- a plan is turned back under 1 to 12, or under 41
abbrev pub PlanNumber : ℕ → Type 0
PlanNumber k = ((1 ≤ k) × (k ≤ 12)) ⊎ (k ≡ 41)
