-- The marks before place i are those of the test.
use Rattle.std.proofs.Common.{◌<◌, map, length, get_or, ◌∙◌, arith}
use Rattle.contexts.proofs.Steps.{before_told, tested_turn}
use Rattle.contexts.specs.Choice.{seq_candidates}
use Rattle.occurrences.proofs.Packed.{stands-within}
use Rattle.occurrences.specs.Occurrences.{is_before, no_occurrence}
use Rattle.sequences.proofs.Marks.{padded_end, padded-start}
use Rattle.waiting_lists.proofs.Marks.{marks_none}
use Rattle.waiting_lists.proofs.Waits.{read_at, read-bytes, read_length, waits-few}
use Rattle.waiting_lists.specs.Marks.{marks_of}
use lib.ListN.{length-map}
use Rattle.contexts.proofs.before_arrival.Goals as goal

pub loop-i-init : goal.loop-i-init
loop-i-init c = λ t l x h p. marks_none ∙ padded-start 16

pub lowest-low-requires : goal.lowest-low-requires
lowest-low-requires c =
    let (t, l, x, h, p) = c.requires in
    read-bytes _ t _ l h _ c.list_of-waiting.ensures _ _ c.place_at-place.ensures c.loop-i-test.true

pub order-word-requires : goal.order-word-requires
order-word-requires c = let (t, l, x, h, p) = c.requires in (read-bytes _ t _ l h _ c.list_of-waiting.ensures _ _ c.place_at-place.ensures c.loop-i-test.true, stands-within _ t _ x p)

pub loop-i-preserved : goal.loop-i-preserved
loop-i-preserved c = λ t l x h p.
    let here : c.loop-i.i < length l = omega (arith, read_length t _ l h _ c.list_of-waiting.ensures, c.loop-i-test.true) in
    let word = c.order-word.ensures t (get_or l c.loop-i.i no_occurrence) x (c.lowest-low.ensures t.no_global) (c.lowest-first.ensures t.no_global) (read_at t _ l h _ c.list_of-waiting.ensures _ _ c.place_at-place.ensures c.loop-i-test.true) p in
    tested_turn l (marks_of c.loop-i.marks) c.loop-i.i here (waits-few t _ l h) (λ o. is_before t.clocks o x) _ _ (c.loop-i.invariant t l x h p)
    (before_told t.clocks _ x c.order-word.result c.eq.result c.eq.ensures word) c.with_mark-marks.ensures

pub returns : goal.returns
unfolding seq_candidates
returns c = λ t l x h p.
    padded_end 16 (map (λ w. is_before t.clocks w x) l) (marks_of c.loop-i.marks) c.loop-i.i
    (omega (arith, read_length t _ l h _ c.list_of-waiting.ensures, c.loop-i-test.false, length-map l (λ w. is_before t.clocks w x))) (c.loop-i.invariant t l x h p)
