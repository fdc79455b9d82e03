-- The first of them, or all, by the context's row.
use Rattle.arrivals.proofs.Groups.{next-each, next_together}
use Rattle.event_sets.proofs.Words.{rest_less}
use Rattle.waiting_lists.proofs.Marks.{first_some, length_marks, marks_none, marks_rest}
use Rattle.waiting_lists.specs.Marks.{marks_of}
use Rattle.sequences.specs.Marks.{first_mark}
use lib.ListN.{set}
use Prim.Native.Nat.{◌<◌}
use mathlib.Core.Bool.{true}
use mathlib.Core.Path.{◌∙◌, ap, refl}
use native.Mathlib.Omega.{arith}
use Rattle.arrivals.proofs.next_group.Goals as goal

pub overflow_sub-others : goal.overflow_sub-others
overflow_sub-others c = first_some c.args.rest (omega (arith, c.requires))

pub returns-then-each : goal.returns-then-each
returns-then-each c =
    let rest = c.args.rest in
    let few : first_mark (marks_of rest) < 16 = omega (arith, c.requires) in (
      (λ l in_l.
          next-each _ l (marks_of rest) _ _ (marks_of 0) in_l (length_marks rest) few marks_none (c.makes_each-each.ensures.0 c.if-each.true)
          (c.with_mark.ensures ∙ ap (λ i. set (marks_of 0) i true) c.requires.0) (marks_rest rest)),
      rest_less rest (first_some rest few),
    )

pub returns-else-each : goal.returns-else-each
returns-else-each c =
    let rest = c.args.rest in
    let few : first_mark (marks_of rest) < 16 = omega (arith, c.requires) in (
      (λ l in_l. next_together _ l (marks_of rest) _ _ (marks_of 0) in_l (length_marks rest) few marks_none (c.makes_each-each.ensures.1 c.if-each.false) refl refl),
      first_some rest few,
    )
