-- The lines still to come: none where no finding stands, else one less with each turn.
use Rattle.std.proofs.Common.{◌≡◌, ◌+◌, ◌-◌, Ok, Err, append_assoc, arith, refl, rules}
use Rattle.readings.specs.Views.{answer_of}
use Rattle.detections.proofs.Writing.{wrote_prefix}
use Rattle.listing.proofs.Lines.{lines_turn, lines_stop, lines_none}
use Rattle.listing.proofs.fill.Goals as goal

pub loop-done-preserved : goal.loop-done-preserved
loop-done-preserved c =
    let l = c.loop-done in
    let b = c.args.output.now in
    let turn = lines_turn b l.next (c.args.count - l.done) (answer_of (Ok c.in-Ok.f)) c.in-Ok.ensures (omega arith) refl in
    let there = wrote_prefix (omega arith) c.put_line-len.ensures.0 in
    let fewer : c.args.count - (l.done + 1) ≡ c.args.count - l.done - 1 = omega arith in
    record {
      room = search rules;
      each = omega arith;
      same = search rules;
      lines = rw (fewer, there, append_assoc) (rw turn at l.invariant.lines);
    }

pub returns-in_default : goal.returns-in_default
returns-in_default c =
    let l = c.loop-done in
    let b = c.args.output.now in
    let stop = lines_stop b l.next (c.args.count - l.done) (answer_of (Err c.in_default.field-0)) c.in_default.ensures refl in
    record { room = l.invariant.room; fewer = omega arith; lines = rw (lines_none b l.next 0 refl) (rw stop at l.invariant.lines) }

pub returns : goal.returns
returns c =
    let l = c.loop-done in
    let all : c.args.count - l.done ≡ 0 = omega arith in
    record { room = l.invariant.room; fewer = omega arith; lines = rw all at l.invariant.lines }
