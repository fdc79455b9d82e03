-- No other candidate before place j bars it.
use Rattle.std.proofs.Common.{◌≡◌, ℕ, ◌<◌, List, length, get_or, sym, refl, ap, ◌∙◌, arith}
use Rattle.contexts.proofs.Steps.{bars_itself, found_here, lows_at, marked_on, not-here, others_tell, unmarked_off}
use Rattle.contexts.specs.Steps.{bars_of}
use Rattle.occurrences.proofs.Seen.{stands-composite}
use Rattle.occurrences.specs.Occurrences.{no_occurrence}
use Rattle.sequences.proofs.Marks.{marked_end}
use Rattle.sequences.specs.Select.{some_passes}
use Rattle.waiting_lists.proofs.Marks.{length_marks}
use Rattle.waiting_lists.proofs.Waits.{read_at, read-bytes, read-few, read_length}
use Rattle.waiting_lists.specs.Lists.{list_of}
use Rattle.waiting_lists.specs.declared.WaitingList.{WaitingList}
use Rattle.waiting_lists.specs.Marks.{marks_of}
use Rattle.contexts.proofs.barred.Goals as goal
use Rattle.contexts.proofs.barred.Goals.{else-is_other-via-then-is_other+else-bars, else-is_other-via-else-is_other}

-- one of those that wait
waits : (list : WaitingList) (w : List (List ℕ)) (i : ℕ) → list ≡ list_of w → i < (list_of w).len → i < list.len
waits list w i is h = omega (arith, ap (λ (x : WaitingList). x.len) is)

pub bars-requires : goal.bars-requires
bars-requires c =
    let (here, (t, l, h)) = c.requires in (
      read-bytes _ t _ l h _ c.list_of-waiting.ensures _ _ c.place_at-own.ensures (waits _ _ _ c.list_of-waiting.ensures here),
      read-bytes _ t _ l h _ c.list_of-waiting.ensures _ _ c.place_at-place.ensures c.loop-j-test.true,
    )

pub returns-then-bars : goal.returns-then-bars
returns-then-bars c = λ t l h low.
    let list = c.list_of-waiting.ensures in
    let len = read_length t _ l h _ list in
    let own = waits _ _ _ list c.requires.0 in
    let here : c.loop-j.j < length l = omega (arith, len, c.loop-j-test.true) in
    let few : c.loop-j.j < length (marks_of c.args.candidates) = omega (arith, read-few t _ l h _ list, c.loop-j-test.true, length_marks c.args.candidates) in
    let mine = read_at t _ l h _ list _ _ c.place_at-own.ensures own in
    let p = bars_of c.args.rule t.clocks (get_or l c.args.i no_occurrence) in
    let bars : c.bars.result ≡ p (get_or l c.loop-j.j no_occurrence) =
    c.bars.ensures t _ _ (lows_at _ _ _ _ (length l) c.args.i _ list c.place_at-own.ensures (omega (arith, len, own)) low) (lows_at _ _ _ _ (length l) c.loop-j.j _ list c.place_at-place.ensures here low)
    mine (read_at t _ l h _ list _ _ c.place_at-place.ensures c.loop-j-test.true) in
    let told = others_tell p l c.args.i c.loop-j.j _ c.is_other.result c.bars.result (bars_itself c.args.rule t.clocks _ (stands-composite t _ _ mine)) c.is_other.ensures (marked_on _ _ _ c.if-is_other.true bars) in
    sym (found_here l (marks_of c.args.candidates) c.loop-j.j here few p _ told c.if-bars.true) ∙ c.loop-j.invariant t l h low

pub loop-j-preserved : goal.loop-j-preserved
loop-j-preserved c = λ t l h low.
    let list = c.list_of-waiting.ensures in
    let len = read_length t _ l h _ list in
    let own = waits _ _ _ list c.requires.0 in
    let here : c.loop-j.j < length l = omega (arith, len, c.loop-j-test.true) in
    let few : c.loop-j.j < length (marks_of c.args.candidates) = omega (arith, read-few t _ l h _ list, c.loop-j-test.true, length_marks c.args.candidates) in
    let mine = read_at t _ l h _ list _ _ c.place_at-own.ensures own in
    let p = bars_of c.args.rule t.clocks (get_or l c.args.i no_occurrence) in
    let itself = bars_itself c.args.rule t.clocks _ (stands-composite t _ _ mine) in
    elim c.else-is_other.branch [
      | else-is_other-via-then-is_other+else-bars w ↦ (
          let bars : w.bars.result ≡ p (get_or l c.loop-j.j no_occurrence) =
          w.bars.ensures t _ _ (lows_at _ _ _ _ (length l) c.args.i _ list c.place_at-own.ensures (omega (arith, len, own)) low) (lows_at _ _ _ _ (length l) c.loop-j.j _ list c.place_at-place.ensures here low)
          mine (read_at t _ l h _ list _ _ c.place_at-place.ensures c.loop-j-test.true) in
          let told = others_tell p l c.args.i c.loop-j.j _ c.is_other.result w.bars.result itself c.is_other.ensures (marked_on _ _ _ w.if-is_other.true bars) in
          sym (not-here l (marks_of c.args.candidates) c.loop-j.j here few p _ told w.if-bars.false) ∙ c.loop-j.invariant t l h low)
      | else-is_other-via-else-is_other w ↦ (
          let told = others_tell p l c.args.i c.loop-j.j _ c.is_other.result c.is_other.result itself c.is_other.ensures (unmarked_off _ _ _ w.if-is_other.false refl) in
          sym (not-here l (marks_of c.args.candidates) c.loop-j.j here few p _ told w.if-is_other.false) ∙ c.loop-j.invariant t l h low)
    ]

pub returns : goal.returns
unfolding some_passes
returns c = λ t l h low.
    let len = read_length t _ l h _ c.list_of-waiting.ensures in
    sym (ap (some_passes (bars_of c.args.rule t.clocks (get_or l c.args.i no_occurrence))) (marked_end l (marks_of c.args.candidates) c.loop-j.j (omega (arith, len, c.loop-j-test.false))))
    ∙ c.loop-j.invariant t l h low
