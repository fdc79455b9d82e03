-- No fault has the number 0.
use Prim.Native.Nat.{◌<◌}
use native.Mathlib.Omega.{arith}
use Rattle.plans.specs.Faults.{number_of}
use Rattle.plans.specs.declared.PlanFault.{PlanFault}
use Rattle.plans.specs.declared.PlanFault.TheVariants.{CutShort, ClockCount, Ratio, LoggerCount, LoggerNumber, KindCount, KindNumber, NodeCount, Operator, Context, Input, ThirdInput, BytesRemain}

pub some_number : (fault : PlanFault) → 0 < number_of fault
some_number CutShort = omega arith
some_number ClockCount = omega arith
some_number Ratio = omega arith
some_number LoggerCount = omega arith
some_number LoggerNumber = omega arith
some_number KindCount = omega arith
some_number KindNumber = omega arith
some_number NodeCount = omega arith
some_number Operator = omega arith
some_number Context = omega arith
some_number Input = omega arith
some_number ThirdInput = omega arith
some_number BytesRemain = omega arith
