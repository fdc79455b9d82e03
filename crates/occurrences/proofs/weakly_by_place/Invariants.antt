-- No stamp of the first at a place before k has one of the second before it.
use Rattle.std.proofs.Common.{◌≡◌, ℕ, ◌<◌, false}
use Rattle.timestamps.specs.Notes.{globals_of, ticks_of}
use Rattle.occurrences.proofs.Befores.{Both, reached_at}
use Rattle.occurrences.proofs.weakly_by_place.Given as goal

abbrev pub invariant-loop-k : goal.invariant-loop-k
invariant-loop-k l = ((j : ℕ) → j < l.k → Both (ticks_of l.notes) (globals_of l.notes) l.b l.a j → reached_at (ticks_of l.notes) (globals_of l.notes) l.b l.a j l.first.0 ≡ false)
