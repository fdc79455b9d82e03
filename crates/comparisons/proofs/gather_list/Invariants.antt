-- The first i entries are gathered, and what is left from the entry i on is the whole.
use Rattle.std.proofs.Common.{◌≡◌, ◌+◌, [], drop, take}
use Rattle.timestamps.specs.Order.{clocks_of}
use Rattle.comparisons.specs.Answers.{judged}
use Rattle.comparisons.specs.Notes.{NotedList, nothing_gathered}
use Rattle.comparisons.proofs.gather_list.Given as goal

abbrev pub invariant-loop-i : goal.invariant-loop-i
invariant-loop-i l = l.fn.gathered ≡ nothing_gathered
    → NotedList (clocks_of l.ratio) (take l.i l.list) l.gathered
    × (judged l.ratio (take l.i l.list) (l.from + l.i) (drop l.i l.list) ≡ judged l.ratio [] l.from l.list)
