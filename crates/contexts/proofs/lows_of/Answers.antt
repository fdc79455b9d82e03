-- The lowest of each before place i are there.
use Rattle.contexts.proofs.Steps.{lows_turn}
use Rattle.std.proofs.Common.{◌<◌, length, arith, length-set}
use Rattle.waiting_lists.proofs.Waits.{read-bytes, read-few}
use Rattle.contexts.proofs.lows_of.Goals as goal

pub lowest-requires : goal.lowest-requires
lowest-requires c = let (t, l, h) = c.requires in read-bytes _ t _ l h _ c.list_of-waiting.ensures _ _ c.place_at-place.ensures c.loop-i-test.true

pub loop-i-preserved : goal.loop-i-preserved
loop-i-preserved c =
    let (t, l, h) = c.requires in
    let few : c.loop-i.i < length c.loop-i.lows = omega (arith, read-few t _ l h _ c.list_of-waiting.ensures) in (
      simp length-set c.loop-i.invariant.0,
      lows_turn c.args.notes.now c.args.list.now c.loop-i.lows c.list_of-waiting.result c.loop-i.i c.place_at-place.result _ c.list_of-waiting.ensures c.place_at-place.ensures few (c.lowest.ensures t.no_global) c.loop-i.invariant.1,
    )
