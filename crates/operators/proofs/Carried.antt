-- What an arrival does at a node, and who waits.
use mathlib.Core.Bool.{Bool, true}
use mathlib.Core.List.{List}
use mathlib.Core.Path.{◌≡◌, refl, sym, ◌∙◌}
use Prim.Native.Nat.{ℕ}
use Rattle.sequences.proofs.Booleans.{never_both}
use Rattle.contexts.specs.Table.{Afterwards, row_of}
use Rattle.plans.specs.declared.Node.{Node}
use Rattle.std.specs.Prelude.{None}
use Rattle.arrivals.specs.Meetings.{Action, pass, wait, meet, meet_and_wait, delete, accumulate, absent, nothing, Arrival, Setting, action_from, carried_out, may_wait, meeting_of, waits_by}
use Rattle.operators.specs.Table.{action_of}
use Rattle.operators.specs.Turns.{Turned, arrives, meeting_at, sides_of, turned_of}

-- who waits may wait
may_by : (x : Action) (y : Afterwards) (m : List Bool) → waits_by x y m ≡ true → may_wait x ≡ true
unfolding waits_by may_wait
may_by pass y m h = absurd (never_both h refl)
may_by wait y m h = refl
may_by meet y m h = absurd (never_both h refl)
may_by meet_and_wait y m h = refl
may_by delete y m h = absurd (never_both h refl)
may_by accumulate y m h = absurd (never_both h refl)
may_by absent y m h = absurd (never_both h refl)
may_by nothing y m h = absurd (never_both h refl)

pub waits_may : (x : Action) (y : Afterwards) (m : List Bool) (r : Bool) → r ≡ waits_by x y m → r ≡ true → may_wait x ≡ true
waits_may x y m r e h = may_by x y m (sym e ∙ h)

-- ---- the arrival at the node
pub arrives-is : (s : Setting) (node : Node) (place : ℕ) (x : Turned) (a : Arrival) (input code context : ℕ) → x.emit.limit ≡ None → a.input ≡ input
    → action_from code ≡ action_of node.operator input → context ≡ node.context
    → turned_of input (carried_out s place x.emit (meeting_of (action_from code) (row_of context) s.clocks (sides_of input x).own (sides_of input x).other a)) ≡ arrives s node place x a
unfolding arrives meeting_at
arrives-is s node place x a input code context h i c n = rw (h, i, ← c, ← n)
