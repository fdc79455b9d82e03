-- By the operator.
use Rattle.std.proofs.Common.{arith}
use Rattle.operators.proofs.Table.{absence-says, accumulated-says, and-says, aperiodic-says, or-says, seq-says}
use Rattle.operators.proofs.actions_of.Goals as goal

pub returns-in-1 : goal.returns-in-1
returns-in-1 c = or-says _ c.in-1.is

pub returns-in-2 : goal.returns-in-2
returns-in-2 c = and-says _ c.in-2.is

pub returns-in-4 : goal.returns-in-4
returns-in-4 c = aperiodic-says _ c.in-4.is

pub returns-in-5 : goal.returns-in-5
returns-in-5 c = accumulated-says _ c.in-5.is

pub returns-in-6 : goal.returns-in-6
returns-in-6 c = absence-says _ c.in-6.is

pub returns-in_default : goal.returns-in_default
returns-in_default c = seq-says _ (λ e. omega arith) (λ e. omega arith) (λ e. omega arith) (λ e. omega arith) (λ e. omega arith)
