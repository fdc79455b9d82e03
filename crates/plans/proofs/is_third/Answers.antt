-- `plans::is_third`: past operator 3 the slot says whether the input is allowed.
use mathlib.Core.Path.{sym}
use Prim.Native.Nat.{◌<◌}
use native.Mathlib.Omega.{arith}
use borrow.Author.Tests.{lt-leb}
use Rattle.plans.proofs.is_third.Goals as goal

pub returns-else-node-le-SEQ : goal.returns-else-node-le-SEQ
returns-else-node-le-SEQ c =
    let with : 3 < c.args.node.operator = omega arith in
    λ kinds place s. rw (lt-leb c.args.node.operator 3 with) (sym s.allowed)
