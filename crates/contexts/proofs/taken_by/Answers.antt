-- Every candidate that waits; else the marks before place i are those of the rule.
use Rattle.std.proofs.Common.{◌<◌, Bool, ◌&&◌, length, sym, refl, ap, ◌∙◌, arith, rules}
use Rattle.contexts.proofs.Only.{only_taken}
use Rattle.contexts.proofs.Steps.{every_taken, zipped_turn}
use Rattle.contexts.specs.Choice.{taken_of, takes}
use Rattle.contexts.specs.Table.{every}
use Rattle.contexts.specs.contracts.Taken.{the_type}
use Rattle.occurrences.proofs.Seen.{stands-composite}
use Rattle.occurrences.specs.declared.Occurrence.{Occurrence}
use Rattle.sequences.proofs.Arrays.{length_zip}
use Rattle.sequences.proofs.Marks.{padded_end, padded-start}
use Rattle.sequences.specs.Marks.{marked}
use Rattle.waiting_lists.proofs.Marks.{length_marks, marks_none}
use Rattle.waiting_lists.proofs.Waits.{read_at, read-few, read_length, waits-few}
use Rattle.waiting_lists.specs.declared.WaitingList.{WaitingList}
use Rattle.waiting_lists.specs.Marks.{marks_of}
use denote.Enum.Bare.{same_true}
use mathlib.Core.List.{zip_with}
use Rattle.contexts.proofs.taken_by.Goals as goal
use Rattle.contexts.proofs.taken_by.Goals.{then-eq-via-then-eq, then-eq-via-else-eq+then-at_most_one}

-- all of those that wait are taken; those have a stamp
pub returns-then-eq : goal.returns-then-eq
returns-then-eq c = λ t l h.
    let len = read_length t _ l h _ c.list_of-waiting.ensures in
    let all = c.all_waiting.ensures l (sym len) in
    elim c.then-eq.branch [
      | then-eq-via-then-eq w ↦ rw (same_true the_type (search rules) c.args.rule every (sym c.eq.ensures ∙ w.if-eq.true)) (every_taken t.clocks l _ _ (waits-few t _ l h) all)
      | then-eq-via-else-eq+then-at_most_one w ↦ only_taken c.args.rule t.clocks l _ _ (waits-few t _ l h) (w.at_most_one.ensures w.if-at_most_one.true) all
          (λ i k. stands-composite t _ _ (read_at t _ l h _ c.list_of-waiting.ensures i _ refl (omega (arith, len, k))))
    ]

pub loop-i-init : goal.loop-i-init
loop-i-init c = λ t l h. marks_none ∙ padded-start 16

pub loop-i-preserved : goal.loop-i-preserved
loop-i-preserved c = λ t l h.
    let len = read_length t _ l h _ c.list_of-waiting.ensures in
    let here : c.loop-i.i < length l = omega (arith, len, c.loop-i-test.true) in
    let same = ap (λ (x : WaitingList). x.len) c.list_of-waiting.ensures in
    let marks = marks_of c.args.candidates in
    zipped_turn l (marks_of c.loop-i.marks) c.loop-i.i here (waits-few t _ l h) (λ w m. m && takes c.args.rule t.clocks (marked l marks) w) marks _ _ _ (length_marks c.args.candidates)
    (c.loop-i.invariant t l h) refl (c.is_taken-taken.ensures t l h (λ j r. c.lows_of.ensures j (omega (arith, r, len, same)))) c.with_mark-marks.ensures

pub returns : goal.returns
unfolding taken_of
returns c = λ t l h.
    let len = read_length t _ l h _ c.list_of-waiting.ensures in
    let few = read-few t _ l h _ c.list_of-waiting.ensures in
    let long = length_marks c.args.candidates in
    let marks = marks_of c.args.candidates in
    let f : Occurrence → Bool → Bool = λ w m. m && takes c.args.rule t.clocks (marked l marks) w in
    padded_end 16 (zip_with f l marks) (marks_of c.loop-i.marks) c.loop-i.i
    (omega (arith, len, few, long, c.loop-i-test.false, length_zip f l marks (omega (arith, len, few, long)))) (c.loop-i.invariant t l h)
