-- What is left from place k on, with the replies so far, is the whole.
use Rattle.std.proofs.Common.{◌≡◌}
use Rattle.comparisons.specs.Notes.{related_lists}
use Rattle.comparisons.proofs.Relations.{related_rest}
use Rattle.comparisons.proofs.relate.Given as goal

abbrev pub invariant-loop-k : goal.invariant-loop-k
invariant-loop-k l = related_rest l.first l.second l.r l.k ≡ related_lists l.first l.second
