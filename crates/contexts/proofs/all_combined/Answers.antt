-- The rest from place i on, combined with what there is, is the whole.
use Rattle.timestamps.specs.Notes.{globals_of, ticks_of}
use Rattle.std.proofs.Common.{◌+◌, ◌<◌, length, sym, ◌∙◌, subst, arith}
use Rattle.contexts.proofs.Combines.{Combines, combines_end, combines_no, combines_yes}
use Rattle.occurrences.proofs.Packed.{stands-within}
use Rattle.waiting_lists.proofs.Marks.{length_marks}
use Rattle.waiting_lists.proofs.Waits.{read-bytes, read-few}
use Rattle.waiting_lists.specs.Marks.{marks_of}
use Rattle.contexts.proofs.all_combined.Goals as goal
use Rattle.contexts.proofs.all_combined.Goals.{then-is_marked, else-is_marked}

pub combined-all-requires : goal.combined-all-requires
combined-all-requires c =
    let (t, l, x, h, p) = c.requires in
    (stands-within _ t _ _ (c.loop-i.invariant t l x h p).stands, read-bytes _ t _ l h _ c.list_of-waiting.ensures _ _ c.place_at-place.ensures c.loop-i-test.true)

pub loop-i-preserved : goal.loop-i-preserved
loop-i-preserved c =
    let (t, l, x, h, p) = c.requires in
    let m = marks_of c.args.taken in
    let in-m : c.loop-i.i < length m = omega (arith, read-few t _ l h _ c.list_of-waiting.ensures, c.loop-i-test.true, length_marks c.args.taken) in
    elim c.if-is_marked.branch [
      | then-is_marked w ↦ subst (λ all. Combines (ticks_of c.args.notes.now) (globals_of c.args.notes.now) c.args.list.now m c.args.o.now all (c.loop-i.i + 1)) (sym w.all-is)
          (combines_yes (ticks_of c.args.notes.now) (globals_of c.args.notes.now) c.args.list.now m c.args.o.now _ c.list_of-waiting.ensures _ c.loop-i.i c.loop-i-test.true in-m _ _ w.place_at-place.ensures
          (sym c.is_marked.ensures ∙ w.if-is_marked.true) w.combined-all.ensures c.loop-i.invariant)
      | else-is_marked w ↦ subst (λ all. Combines (ticks_of c.args.notes.now) (globals_of c.args.notes.now) c.args.list.now m c.args.o.now all (c.loop-i.i + 1)) (sym w.all-is)
          (combines_no (ticks_of c.args.notes.now) (globals_of c.args.notes.now) c.args.list.now m c.args.o.now _ c.list_of-waiting.ensures _ c.loop-i.i c.loop-i-test.true in-m
          (sym c.is_marked.ensures ∙ w.if-is_marked.false) c.loop-i.invariant)
    ]

pub returns : goal.returns
returns c = combines_end (ticks_of c.args.notes.now) (globals_of c.args.notes.now) c.args.list.now (marks_of c.args.taken) c.args.o.now _ c.list_of-waiting.ensures _ _ c.loop-i-test.false c.loop-i.invariant
