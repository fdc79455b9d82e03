-- What is left of the stamps: one less with each turn, none at the end.
use Rattle.std.proofs.Common.{arith, rules}
use Rattle.detections.proofs.Writing.{wrote_none, wrote_then}
use Rattle.listing.specs.Text.{stamp_text}
use Rattle.listing.proofs.Lines.{listed_turn, listed_end}
use Rattle.listing.proofs.put_stamps.Goals as goal

pub loop-s-preserved : goal.loop-s-preserved
loop-s-preserved c =
    let l = c.loop-s in
    let turn = listed_turn stamp_text c.args.stamps.now l.separator l.s-index (record { logger = 0; tick = record { 0 = 0 } }) c.loop-s-test.true in
    record {
      onward = search rules;
      room = search rules;
      same = search rules;
      rest = (λ r p rest. l.invariant.rest r p (rw turn (wrote_then (omega arith) c.put_stamp-to.ensures.0 rest)));
    }

pub returns : goal.returns
returns c =
    let l = c.loop-s in
    (l.invariant.rest _ _ (rw (listed_end stamp_text c.args.stamps.now l.separator l.s-index c.loop-s-test.false) (wrote_none _ _)), search rules, omega arith)
