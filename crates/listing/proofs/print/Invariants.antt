-- Each page leaves fewer lines to come.
use Rattle.std.proofs.Common.{◌≡◌, ◌≤◌, length}
use Rattle.listing.proofs.print.Given as goal

abbrev pub invariant-loop-filled : goal.invariant-loop-filled
invariant-loop-filled g l = record { whole : length l.page ≡ 16384; room : l.filled.len ≤ 16272 }

abbrev pub decreases-loop-filled : goal.decreases-loop-filled
decreases-loop-filled g l = l.filled.left
