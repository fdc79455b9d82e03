-- What is left from place k on is the whole: so far each has one.
use Rattle.std.proofs.Common.{◌≡◌}
use Rattle.comparisons.specs.Notes.{each_has_earlier}
use Rattle.comparisons.proofs.Relations.{earlier_rest}
use Rattle.comparisons.proofs.each_has_earlier.Given as goal

abbrev pub invariant-loop-k : goal.invariant-loop-k
invariant-loop-k l = earlier_rest l.ratio l.first l.second l.k ≡ each_has_earlier l.ratio l.first l.second
