-- The marks before place i are those of the middles between.
use Rattle.contexts.proofs.between.Invariants.{after}
use Rattle.std.proofs.Common.{◌≡◌, ◌<◌, length, get_or, ◌∙◌, arith}
use Rattle.contexts.proofs.Steps.{marked_on, unmarked_off, zipped_turn}
use Rattle.contexts.specs.Steps.{after_marks}
use Rattle.occurrences.specs.Occurrences.{no_occurrence}
use Rattle.sequences.proofs.Arrays.{length_zip}
use Rattle.sequences.proofs.Marks.{padded_end, padded-start}
use Rattle.sequences.specs.Marks.{marked}
use Rattle.waiting_lists.proofs.Marks.{length_marks, marks_none}
use Rattle.waiting_lists.proofs.Waits.{read_at, read-few, read_length, waits-few}
use Rattle.waiting_lists.specs.Marks.{marks_of}
use mathlib.Core.List.{zip_with}
use Rattle.contexts.proofs.between.Goals as goal
use Rattle.contexts.proofs.between.Goals.{then-is_marked, else-is_marked}

pub loop-i-init : goal.loop-i-init
loop-i-init c = λ t k l h g. marks_none ∙ padded-start 16

pub some_before-mark-requires : goal.some_before-mark-requires
some_before-mark-requires c =
    let (t, k, l, h, g) = c.requires in
    (t, k, _, h, read_at t _ l g _ c.list_of-waiting.ensures _ _ c.place_at-place.ensures c.loop-i-test.true)

pub loop-i-preserved : goal.loop-i-preserved
loop-i-preserved c = λ t k l h g.
    let here : c.loop-i.i < length l = omega (arith, read_length t _ l g _ c.list_of-waiting.ensures, c.loop-i-test.true) in
    let those = after t (marked k (marks_of c.args.marks)) in
    let told : c.if-is_marked.mark ≡ those (get_or l c.loop-i.i no_occurrence) c.is_marked.result =
    elim c.if-is_marked.branch [
      | then-is_marked w ↦ w.mark-is ∙ marked_on _ _ _ w.if-is_marked.true (w.some_before-mark.ensures t k _ h (read_at t _ l g _ c.list_of-waiting.ensures _ _ c.place_at-place.ensures c.loop-i-test.true))
      | else-is_marked w ↦ unmarked_off _ _ _ w.if-is_marked.false w.mark-is
    ] in
    zipped_turn l (marks_of c.loop-i.found) c.loop-i.i here (waits-few t _ l g) those (marks_of c.args.earlier) _ _ _ (length_marks c.args.earlier) (c.loop-i.invariant t k l h g)
    c.is_marked.ensures told c.with_mark-found.ensures

pub returns : goal.returns
unfolding after_marks
returns c = λ t k l h g.
    let len = read_length t _ l g _ c.list_of-waiting.ensures in
    let few = read-few t _ l g _ c.list_of-waiting.ensures in
    let long = length_marks c.args.earlier in
    let f = after t (marked k (marks_of c.args.marks)) in
    padded_end 16 (zip_with f l (marks_of c.args.earlier)) (marks_of c.loop-i.found) c.loop-i.i
    (omega (arith, len, few, long, c.loop-i-test.false, length_zip f l (marks_of c.args.earlier) (omega (arith, len, few, long)))) (c.loop-i.invariant t k l h g)
