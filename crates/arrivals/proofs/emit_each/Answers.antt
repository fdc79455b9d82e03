-- What is left to make, from the state so far, is the whole.
use Prim.Native.Nat.{◌<◌, ◌≤◌}
use Rattle.arrivals.proofs.Each.{each_end, each_turn, emits_stopped}
use Rattle.detections.proofs.Writing.{beyond_none, beyond_then}
use Rattle.emissions.specs.Emissions.{Emits, emitted, emitted_all}
use Rattle.event_sets.proofs.Words.{rest_less}
use Rattle.occurrences.proofs.Packed.{stands-within}
use Rattle.occurrences.specs.Combination.{combined_of}
use Rattle.occurrences.specs.Occurrences.{no_occurrence}
use Rattle.timestamps.specs.Notes.{globals_of}
use Rattle.sequences.specs.Marks.{first_mark, marked}
use Rattle.waiting_lists.proofs.Marks.{first_some, length_marks, marks_rest}
use Rattle.waiting_lists.proofs.Waits.{read_at, read-bytes, read-few, read_length, read-place, read_small}
use Rattle.waiting_lists.specs.Marks.{marks_of}
use borrow.Author.Rules.{rules}
use lib.ListN.{get_or, length, set}
use mathlib.Core.Bool.{false}
use mathlib.Core.List.{map}
use Rattle.std.proofs.lemmas.Result.{err_from_is_err_and}
use mathlib.Core.Path.{◌∙◌, ◌≡◌, refl, subst, sym}
use native.Mathlib.Omega.{arith}
use Rattle.arrivals.proofs.emit_each.Goals as goal

pub list_of-waiting-requires : goal.list_of-waiting-requires
list_of-waiting-requires c =
    let ((t, l, s, x, h, m, p), fits) = c.requires in
    h.some

pub loop-i-init : goal.loop-i-init
unfolding emitted_all
loop-i-init c = (refl, beyond_none c.requires.1.0 c.requires.1.1, λ t l s x h m p. record { so_far = s; emits = m; same = refl })

pub place_at-at-requires : goal.place_at-at-requires
place_at-at-requires c =
    let ((t, l, s, x, h, m, p), fits) = c.requires in
    omega (arith, c.if-i-waiting.true, read-few t c.args.list.now l h c.list_of-waiting.result c.list_of-waiting.ensures)

pub offset_bounds-list-at : goal.offset_bounds-list-at
offset_bounds-list-at c =
    let ((t, l, s, x, h, m, p), fits) = c.requires in
    omega (arith, read_small t c.args.list.now l h c.list_of-waiting.result c.list_of-waiting.ensures _ _ c.place_at-at.ensures c.if-i-waiting.true)

pub bounds-list-at : goal.bounds-list-at
bounds-list-at c =
    let ((t, l, s, x, h, m, p), fits) = c.requires in
    read-place t c.args.list.now l h c.list_of-waiting.result c.list_of-waiting.ensures _ _ c.place_at-at.ensures c.if-i-waiting.true

pub combined-c-requires : goal.combined-c-requires
combined-c-requires c =
    let ((t, l, s, x, h, m, p), fits) = c.requires in
    (read-bytes _ t c.args.list.now l h c.list_of-waiting.result c.list_of-waiting.ensures _ _ c.place_at-at.ensures c.if-i-waiting.true, stands-within _ t _ x p)

pub emit_one-requires : goal.emit_one-requires
emit_one-requires c =
    let ((t, l, s, x, h, m, p), fits) = c.requires in
    let st = c.combined-c.ensures t (get_or l c.in-Some.i no_occurrence) x (read_at t c.args.list.now l h c.list_of-waiting.result c.list_of-waiting.ensures _ _ c.place_at-at.ensures c.if-i-waiting.true) p in
    (stands-within _ t _ _ st, t.no_tick, (c.loop-i.invariant.1.within, c.loop-i.invariant.1.few))

pub returns-in_err-emit_one : goal.returns-in_err-emit_one
returns-in_err-emit_one c =
    let a = c.args in
    let p = err_from_is_err_and c.from_residual.result c.from_residual.ensures.1 in
    record {
      emits = λ t l s x h m q.
          let r = c.loop-i.invariant.2 t l s x h m q in
          let first : c.in-Some.i ≡ first_mark (marks_of c.loop-i.rest) = c.in-Some.ensures.0 in
          let read = c.list_of-waiting in
          let few = read-few t a.list.now l h read.result read.ensures in
          let in-marks : first_mark (marks_of c.loop-i.rest) < length (marks_of c.loop-i.rest) = omega (arith, length_marks c.loop-i.rest, few, first, c.if-i-waiting.true) in
          let in_l : first_mark (marks_of c.loop-i.rest) < length l = omega (arith, first, c.if-i-waiting.true, read_length t a.list.now l h read.result read.ensures) in
          let st = c.combined-c.ensures t (get_or l c.in-Some.i no_occurrence) x (read_at t a.list.now l h read.result read.ensures _ _ c.place_at-at.ensures c.if-i-waiting.true) q in
          let then = c.in_err-emit_one.ensures.emits (globals_of a.setting.now.notes.now) t r.so_far (combined_of t.clocks (get_or l c.in-Some.i no_occurrence) x) r.emits st in
          rw (p.1, p.2)
          (emits_stopped t (length a.out.now) a.setting.now.loggers.now a.place then refl (map (λ w. combined_of t.clocks w x) (marked l (set (marks_of c.loop-i.rest) (first_mark (marks_of c.loop-i.rest)) false)))
          (each_turn _ (λ w. combined_of t.clocks w x) l (marks_of c.loop-i.rest) _ no_occurrence in_l in-marks refl r.so_far _ (rw (first, c.loop-i.invariant.0)) ∙ r.same));
      beyond = beyond_then c.loop-i.invariant.1 c.emit_one.ensures.beyond;
    }

pub overflow_sub-rest : goal.overflow_sub-rest
overflow_sub-rest c =
    let ((t, l, s, x, h, m, p), fits) = c.requires in
    let few = read-few t c.args.list.now l h c.list_of-waiting.result c.list_of-waiting.ensures in
    first_some c.loop-i.rest (omega (arith, c.in-Some.ensures.0, c.if-i-waiting.true, few))

pub loop-i-smaller : goal.loop-i-smaller
loop-i-smaller c =
    let ((t, l, s, x, h, m, p), fits) = c.requires in
    let few = read-few t c.args.list.now l h c.list_of-waiting.result c.list_of-waiting.ensures in
    rest_less c.loop-i.rest (first_some c.loop-i.rest (omega (arith, c.in-Some.ensures.0, c.if-i-waiting.true, few)))

pub loop-i-preserved : goal.loop-i-preserved
loop-i-preserved c = let a = c.args in (
  search rules,
  beyond_then c.loop-i.invariant.1 c.emit_one.ensures.beyond,
  λ t l s x h m p.
      let r = c.loop-i.invariant.2 t l s x h m p in
      let first : c.in-Some.i ≡ first_mark (marks_of c.loop-i.rest) = c.in-Some.ensures.0 in
      let read = c.list_of-waiting in
      let few = read-few t a.list.now l h read.result read.ensures in
      let in-marks : first_mark (marks_of c.loop-i.rest) < length (marks_of c.loop-i.rest) = omega (arith, length_marks c.loop-i.rest, few, first, c.if-i-waiting.true) in
      let in_l : first_mark (marks_of c.loop-i.rest) < length l = omega (arith, first, c.if-i-waiting.true, read_length t a.list.now l h read.result read.ensures) in
      let st = c.combined-c.ensures t (get_or l c.in-Some.i no_occurrence) x (read_at t a.list.now l h read.result read.ensures _ _ c.place_at-at.ensures c.if-i-waiting.true) p in
      record {
        so_far = emitted (length c.loop-i.out) a.setting.now.loggers.now a.place r.so_far (combined_of t.clocks (get_or l c.in-Some.i no_occurrence) x);
        emits = c.in_ok-emit_one.ensures.emits (globals_of a.setting.now.notes.now) t r.so_far _ r.emits st;
        same = each_turn _ (λ w. combined_of t.clocks w x) l (marks_of c.loop-i.rest) _ no_occurrence in_l in-marks (marks_rest c.loop-i.rest) r.so_far _ (rw (first, c.loop-i.invariant.0)) ∙ r.same;
      },
)

pub returns-else-i-waiting : goal.returns-else-i-waiting
returns-else-i-waiting c = record {
  emits = (λ t l s x h m p.
      let r = c.loop-i.invariant.2 t l s x h m p in
      let past : length l ≤ first_mark (marks_of c.loop-i.rest) = omega (arith, read_length t c.args.list.now l h c.list_of-waiting.result c.list_of-waiting.ensures, c.in-Some.ensures.0, c.if-i-waiting.false) in
      subst (Emits t _ _ _) (sym (each_end _ (λ w. combined_of t.clocks w x) l (marks_of c.loop-i.rest) r.so_far past) ∙ r.same) r.emits);
  beyond = c.loop-i.invariant.1;
}

pub returns-in-loop-i : goal.returns-in-loop-i
returns-in-loop-i c = let off : first_mark (marks_of c.loop-i.rest) ≡ 16 = omega arith in record {
  emits = (λ t l s x h m p.
      let r = c.loop-i.invariant.2 t l s x h m p in
      let past : length l ≤ first_mark (marks_of c.loop-i.rest) = omega (arith, read_length t c.args.list.now l h c.list_of-waiting.result c.list_of-waiting.ensures, read-few t c.args.list.now l h c.list_of-waiting.result c.list_of-waiting.ensures, off) in
      subst (Emits t _ _ _) (sym (each_end _ (λ w. combined_of t.clocks w x) l (marks_of c.loop-i.rest) r.so_far past) ∙ r.same) r.emits);
  beyond = c.loop-i.invariant.1;
}
