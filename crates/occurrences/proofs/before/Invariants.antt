-- Each stamp of the second at a place before k has one before it.
use Rattle.std.proofs.Common.{◌≡◌, ℕ, ◌<◌, true}
use Rattle.timestamps.specs.Notes.{globals_of, ticks_of}
use Rattle.occurrences.proofs.Befores.{Both, has_at}
use Rattle.occurrences.proofs.before.Given as goal

abbrev pub invariant-loop-k : goal.invariant-loop-k
invariant-loop-k l = ((j : ℕ) → j < l.k → Both (ticks_of l.notes) (globals_of l.notes) l.a l.b j → has_at (ticks_of l.notes) (globals_of l.notes) l.a l.b j l.low.0 ≡ true)
