-- What is left to make, from the state so far, is the whole.
use Rattle.timestamps.specs.Notes.{globals_of}
use Prim.Native.Nat.{◌≤◌}
use Rattle.arrivals.proofs.Each.{emits_stopped}
use Rattle.arrivals.proofs.Groups.{group_end, group_turn}
use Rattle.contexts.specs.Made.{accumulated_of, accumulation_of, groups_of}
use Rattle.contexts.specs.Table.{row_of}
use Rattle.detections.proofs.Writing.{beyond_none, beyond_then}
use Rattle.emissions.specs.Emissions.{Emits, emitted, emitted_all}
use Rattle.occurrences.specs.declared.Occurrence.{Occurrence}
use Rattle.sequences.specs.Marks.{first_mark, marked}
use Rattle.std.proofs.lemmas.Result.{err_from_is_err_and}
use Rattle.waiting_lists.proofs.Waits.{read-few, read_length}
use Rattle.waiting_lists.specs.Marks.{marks_of}
use borrow.Author.Rules.{rules}
use lib.ListN.{length}
use mathlib.Core.List.{List, map}
use mathlib.Core.Path.{◌∙◌, ◌≡◌, refl, subst, sym}
use native.Mathlib.Omega.{arith}
use Rattle.arrivals.proofs.emit_accumulated.Goals as goal

pub list_of-waiting-requires : goal.list_of-waiting-requires
list_of-waiting-requires c =
    let ((t, k, l, s, x, g, h, m, p), fits) = c.requires in
    h.some

pub loop-i-init : goal.loop-i-init
unfolding emitted_all accumulated_of
loop-i-init c = (
  refl,
  beyond_none c.requires.1.0 c.requires.1.1,
  λ t k l s x g h m p early. record { so_far = s; emits = m; same = refl },
)

pub next_group-group-requires : goal.next_group-group-requires
next_group-group-requires c =
    let ((t, k, l, s, x, g, h, m, p), fits) = c.requires in
    omega (arith, c.if-i-waiting.true, c.in-Some.ensures.0, read-few t c.args.lefts.now l h c.list_of-waiting.result c.list_of-waiting.ensures)

pub accumulated-all-requires : goal.accumulated-all-requires
accumulated-all-requires c =
    let ((t, k, l, s, x, g, h, m, p), fits) = c.requires in
    (t, l, k, x, h, g, p)

pub emit_one-requires : goal.emit_one-requires
emit_one-requires c =
    let ((t, k, l, s, x, g, h, m, p), fits) = c.requires in
    (c.accumulated-all.ensures.within, t.no_tick, (c.loop-i.invariant.1.within, c.loop-i.invariant.1.few))

pub returns-in_err-emit_one : goal.returns-in_err-emit_one
returns-in_err-emit_one c =
    let a = c.args in
    let p = err_from_is_err_and c.from_residual.result c.from_residual.ensures.1 in
    let group = c.next_group-group.result in
    record {
      emits = λ t k l s x g h m q early.
          let r = c.loop-i.invariant.2 t k l s x g h m q early in
          let read = c.list_of-waiting in
          let next = c.next_group-group.ensures.0 l (omega (arith, c.in-Some.ensures.0, c.if-i-waiting.true, read_length t a.lefts.now l h read.result read.ensures)) in
          let st = c.accumulated-all.ensures.stands t l k x h g q early next.1 in
          let then = c.in_err-emit_one.ensures.emits (globals_of a.setting.now.notes.now) t r.so_far (accumulation_of t.clocks (marked l (marks_of group.lefts)) k x) r.emits st in
          let finds = (row_of a.context).finds in
          rw (p.1, p.2)
          (emits_stopped t (length a.out.now) a.setting.now.loggers.now a.place then refl (map (λ (lefts : List Occurrence). accumulation_of t.clocks lefts k x) (groups_of finds (marked l (marks_of group.rest))))
          (group_turn _ finds t.clocks k x l (marks_of c.loop-i.rest) (marks_of group.lefts) (marks_of group.rest) next.0 r.so_far _ (rw c.loop-i.invariant.0) ∙ r.same));
      beyond = beyond_then c.loop-i.invariant.1 c.emit_one.ensures.beyond;
    }

pub loop-i-smaller : goal.loop-i-smaller
loop-i-smaller c = c.next_group-group.ensures.1

pub loop-i-preserved : goal.loop-i-preserved
loop-i-preserved c = let a = c.args in let group = c.next_group-group.result in (
  search rules,
  beyond_then c.loop-i.invariant.1 c.emit_one.ensures.beyond,
  λ t k l s x g h m p early.
      let r = c.loop-i.invariant.2 t k l s x g h m p early in
      let read = c.list_of-waiting in
      let next = c.next_group-group.ensures.0 l (omega (arith, c.in-Some.ensures.0, c.if-i-waiting.true, read_length t a.lefts.now l h read.result read.ensures)) in
      let st = c.accumulated-all.ensures.stands t l k x h g p early next.1 in
      record {
        so_far = emitted (length c.loop-i.out) a.setting.now.loggers.now a.place r.so_far (accumulation_of t.clocks (marked l (marks_of group.lefts)) k x);
        emits = c.in_ok-emit_one.ensures.emits (globals_of a.setting.now.notes.now) t r.so_far _ r.emits st;
        same = group_turn _ (row_of a.context).finds t.clocks k x l (marks_of c.loop-i.rest) (marks_of group.lefts) (marks_of group.rest) next.0 r.so_far _ (rw c.loop-i.invariant.0) ∙ r.same;
      },
)

pub returns-else-i-waiting : goal.returns-else-i-waiting
returns-else-i-waiting c = record {
  emits = (λ t k l s x g h m p early.
      let r = c.loop-i.invariant.2 t k l s x g h m p early in
      let past : length l ≤ first_mark (marks_of c.loop-i.rest) = omega (arith, read_length t c.args.lefts.now l h c.list_of-waiting.result c.list_of-waiting.ensures, c.in-Some.ensures.0, c.if-i-waiting.false) in
      subst (Emits t _ _ _) (sym (group_end _ (row_of c.args.context).finds t.clocks k x l (marks_of c.loop-i.rest) r.so_far past) ∙ r.same) r.emits);
  beyond = c.loop-i.invariant.1;
}

pub returns-in-loop-i : goal.returns-in-loop-i
returns-in-loop-i c = let off : first_mark (marks_of c.loop-i.rest) ≡ 16 = omega arith in record {
  emits = (λ t k l s x g h m p early.
      let r = c.loop-i.invariant.2 t k l s x g h m p early in
      let past : length l ≤ first_mark (marks_of c.loop-i.rest) = omega (arith, read_length t c.args.lefts.now l h c.list_of-waiting.result c.list_of-waiting.ensures, read-few t c.args.lefts.now l h c.list_of-waiting.result c.list_of-waiting.ensures, off) in
      subst (Emits t _ _ _) (sym (group_end _ (row_of c.args.context).finds t.clocks k x l (marks_of c.loop-i.rest) r.so_far past) ∙ r.same) r.emits);
  beyond = c.loop-i.invariant.1;
}
