-- The marks before place i are those of the lefts that are free.
use Rattle.contexts.proofs.unblocked.Invariants.{free}
use Rattle.std.proofs.Common.{◌<◌, map, length, take, ◌∙◌, arith}
use Rattle.contexts.proofs.Steps.{tested_turn}
use Rattle.contexts.specs.Choice.{absence_candidates}
use Rattle.sequences.proofs.Marks.{padded_end, padded-start}
use Rattle.waiting_lists.proofs.Marks.{marks_none}
use Rattle.waiting_lists.proofs.Waits.{read_at, read-bytes, read_length, waits-few}
use Rattle.waiting_lists.specs.Marks.{marks_of}
use lib.ListN.{length-map}
use Rattle.contexts.proofs.unblocked.Goals as goal

pub loop-i-init : goal.loop-i-init
loop-i-init c = λ t k l x h g p. marks_none ∙ padded-start 16

pub is_free-free-requires : goal.is_free-free-requires
is_free-free-requires c =
    let ((t, k, l, x, h, g, p), most) = c.requires in
    (read-bytes _ t _ k h _ c.list_of-waiting.ensures _ _ c.place_at-place.ensures c.loop-i-test.true, (t, l, x, g, p), most)

pub loop-i-preserved : goal.loop-i-preserved
loop-i-preserved c = λ t k l x h g p.
    let here : c.loop-i.i < length k = omega (arith, read_length t _ k h _ c.list_of-waiting.ensures, c.loop-i-test.true) in
    tested_turn k (marks_of c.loop-i.marks) c.loop-i.i here (waits-few t _ k h) (free t (take c.args.blockers l) x) _ _ (c.loop-i.invariant t k l x h g p)
    (c.is_free-free.ensures t l _ x (c.lowest-first.ensures t.no_global) g (read_at t _ k h _ c.list_of-waiting.ensures _ _ c.place_at-place.ensures c.loop-i-test.true) p) c.with_mark-marks.ensures

pub returns : goal.returns
unfolding absence_candidates
returns c = λ t k l x h g p.
    let is = free t (take c.args.blockers l) x in
    padded_end 16 (map is k) (marks_of c.loop-i.marks) c.loop-i.i
    (omega (arith, read_length t _ k h _ c.list_of-waiting.ensures, c.loop-i-test.false, length-map k is)) (c.loop-i.invariant t k l x h g p)
