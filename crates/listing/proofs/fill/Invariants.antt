-- The page and the lines still to come are all lines. A line takes at most 3,072 bytes, so a page that ends with lines to come has one at least.
use Rattle.std.proofs.Common.{◌≡◌, ◌*◌, ◌-◌, ◌≤◌, ◌++◌, length, take}
use Rattle.listing.specs.Text.{lines_at}
use Rattle.listing.proofs.fill.Given as goal

abbrev pub invariant-loop-done : goal.invariant-loop-done
invariant-loop-done l = record {
  room : l.len ≤ 16272;
  each : l.len ≤ 3072 * l.done;
  same : length l.page ≡ length l.fn.page;
  lines : take l.len l.page ++ lines_at l.output l.next (l.count - l.done) ≡ lines_at l.output l.from l.count;
}
