-- The first i entries are good, and joined.
use Rattle.std.proofs.Common.{◌≡◌, true, take}
use Rattle.sequences.specs.Select.{each_passes}
use Rattle.timestamps.specs.Order.{clocks_of, valid}
use Rattle.open_calls.specs.Notes.{Joined, no_notes}
use Rattle.open_calls.proofs.join_entries.Given as goal

abbrev pub invariant-loop-i : goal.invariant-loop-i
invariant-loop-i l = record {
  good : each_passes valid (take l.i l.list) ≡ true;
  joined : l.fn.join ≡ no_notes → Joined (clocks_of l.ratio) (take l.i l.list) l.join;
}
