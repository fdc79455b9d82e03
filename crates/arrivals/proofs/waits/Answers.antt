-- By the code, the candidates and the row.
use Prim.Native.Nat.{◌<◌}
use Rattle.arrivals.proofs.Actions.{waits_consumed, waits-first, waits-joins, waits_never, waits-none}
use Rattle.sequences.proofs.Booleans.{either_way}
use Rattle.sequences.specs.Marks.{first_mark}
use Rattle.waiting_lists.proofs.Marks.{length_marks, none_first, some_first}
use Rattle.waiting_lists.specs.Marks.{marks_of}
use lib.ListN.{length}
use mathlib.Core.Logic.{⊎_elim}
use mathlib.Core.Bool.{not}
use mathlib.Core.Path.{◌∙◌, ap}
use native.Mathlib.Omega.{arith}
use Rattle.arrivals.proofs.waits.Goals as goal

pub returns-then-action-eq-WAIT : goal.returns-then-action-eq-WAIT
returns-then-action-eq-WAIT c = waits-first _ _ _ c.if-action-eq-WAIT.true

pub returns-then-is_none : goal.returns-then-is_none
returns-then-is_none c =
    let m = c.args.candidates in
    let off = none_first m _ c.first_marked.ensures (c.is_none.ensures ∙ ap not c.if-is_none.true) in
    waits-none _ _ (marks_of m) c.if-action-eq-MEET_AND_WAIT.true (omega (arith, off, length_marks m))

pub returns-then-action-eq-MEET_AND_WAIT : goal.returns-then-action-eq-MEET_AND_WAIT
returns-then-action-eq-MEET_AND_WAIT c =
    let m = c.args.candidates in
    let met = c.if-action-eq-MEET_AND_WAIT.true in
    let some = some_first m _ c.first_marked.ensures (c.is_none.ensures ∙ ap not c.if-is_none.false) in
    let few : first_mark (marks_of m) < length (marks_of m) = omega (arith, some, length_marks m) in
    ⊎_elim
    (λ y. y ∙ waits-joins _ _ (marks_of m) met (c.joins_afterwards.ensures.0 y))
    (λ n. n ∙ waits_consumed _ _ (marks_of m) met few (c.joins_afterwards.ensures.1 n))
    (either_way c.joins_afterwards.result)

pub returns : goal.returns
returns c = waits_never _ _ _ c.if-action-eq-WAIT.false c.if-action-eq-MEET_AND_WAIT.false
