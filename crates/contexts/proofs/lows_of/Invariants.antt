-- The lowest of each before place i are there.
use Rattle.std.proofs.Common.{◌≡◌, length}
use Rattle.contexts.specs.Steps.{Lows}
use Rattle.contexts.proofs.lows_of.Given as goal

abbrev pub invariant-loop-i : goal.invariant-loop-i
invariant-loop-i l = (length l.lows ≡ 16) × Lows l.notes l.list l.i l.lows
