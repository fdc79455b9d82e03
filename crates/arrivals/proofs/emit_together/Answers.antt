-- None, or one for all taken.
use Rattle.arrivals.proofs.Each.{emits_none, emits_one}
use Rattle.contexts.proofs.Findings.{together_none, together_some}
use Rattle.emissions.specs.Emissions.{Emits}
use Rattle.occurrences.proofs.Packed.{stands-within}
use Rattle.occurrences.specs.Combination.{combined_of}
use Rattle.sequences.specs.Loops.{fold}
use Rattle.sequences.specs.Marks.{marked}
use Rattle.timestamps.specs.Notes.{globals_of}
use Rattle.waiting_lists.proofs.Marks.{length_marks}
use Rattle.waiting_lists.proofs.Waits.{read-few, read_length}
use Rattle.waiting_lists.specs.Marks.{marks_of}
use mathlib.Core.Path.{refl, subst}
use native.Mathlib.Omega.{arith}
use Prim.Native.Nat.{◌≤◌}
use Rattle.sequences.specs.Marks.{first_mark}
use Rattle.arrivals.proofs.emit_together.Goals.{in_default-via-in-None-1, in_default-via-in-Some+else-first-waiting}
use Rattle.arrivals.proofs.emit_together.Goals as goal

pub list_of-waiting-requires : goal.list_of-waiting-requires
list_of-waiting-requires c =
    let (one, fits) = c.requires in
    let (t, l, s, x, h, m, p) = one in
    h.some

pub emit_one-requires : goal.emit_one-requires
emit_one-requires c =
    let ((t, l, s, x, h, m, p), fits) = c.requires in
    (stands-within _ t _ _ (c.all_combined-all.ensures t l x h p), t.no_tick, fits)

pub returns : goal.returns
returns c =
    let a = c.args in
    let read = c.list_of-waiting in
    record {
      emits = λ t l s x h m p.
          let one = together_some t.clocks x l (marks_of a.taken) _ _ c.in-Some.ensures.0 (read_length t a.list.now l h read.result read.ensures) (read-few t a.list.now l h read.result read.ensures) (length_marks a.taken) c.if-first-waiting.true in
          subst (Emits t _ _ _) (emits_one _ _ _ s _ _ _ refl one)
          (c.emit_one.ensures.emits (globals_of a.setting.now.notes.now) t s (fold (combined_of t.clocks) (marked l (marks_of a.taken)) x) m (c.all_combined-all.ensures t l x h p));
      beyond = c.emit_one.ensures.beyond;
    }

pub returns-2-clause-emits : goal.returns-2-clause-emits
returns-2-clause-emits c = λ t l s x h m p.
    let a = c.args in
    let read = c.list_of-waiting in
    let few = read-few t a.list.now l h read.result read.ensures in
    let past : read.result.len ≤ first_mark (marks_of a.taken) = elim c.in_default.branch [
      | in_default-via-in-None-1 w ↦ omega (arith, few)
      | in_default-via-in-Some+else-first-waiting w ↦ omega (arith, w.in-Some.ensures.0, w.if-first-waiting.false)
    ] in
    let none = together_none t.clocks x l (marks_of a.taken) _ _ refl (read_length t a.list.now l h read.result read.ensures) past in
    subst (Emits t _ _ _) (emits_none _ _ _ s _ none) m
