-- Of those looked at the ones that stay close up behind the others.
use Rattle.std.proofs.Common.{◌≤◌}
use Rattle.waiting_lists.specs.Marks.{marks_of}
use Rattle.waiting_lists.proofs.Removals.{Closing}
use Rattle.waiting_lists.proofs.remove.Given as goal

abbrev pub invariant-loop-i : goal.invariant-loop-i
invariant-loop-i l = record {
  left : l.i ≤ l.len;
  fewer : l.len ≤ l.initial.len;
  few : l.initial.len ≤ 16;
  closing : Closing l.initial.order l.initial.len (marks_of l.gone) l.order l.len l.i;
}
