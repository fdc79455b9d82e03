-- `readings::read_events`: the count, and an event more with each turn.
use mathlib.Core.Path.{sym}
use native.Mathlib.Omega.{arith}
use Rattle.std.proofs.lemmas.Result.{err_from_is_err_and}
use Rattle.forms.proofs.Sections.{section_go, section_stop}
use Rattle.readings.specs.Reader.{event_section}
use Rattle.readings.proofs.Reading.{event-read, events-none, events_go, events_stop, events_done}
use Rattle.readings.proofs.read_events.Goals as goal

pub returns-in_err-count : goal.returns-in_err-count
returns-in_err-count c =
    let (e, returned, is) = err_from_is_err_and c.from_residual.result c.from_residual.ensures.1 in
    rw (returned, is) (sym (section_stop event_section c.args.bytes.now c.args.start 1 _ (sym c.in_err-count.ensures.is)))

pub loop-i-init : goal.loop-i-init
loop-i-init c =
    let e = events-none _ c.none-events.ensures in
    record { next = e.1; rest = rw e.0 (section_go event_section c.args.bytes.now c.args.start _ _ (sym c.in_ok-count.ensures.is)) }

pub returns-in_err-n : goal.returns-in_err-n
returns-in_err-n c =
    let l = c.loop-i in
    let (e, returned, is) = err_from_is_err_and c.from_residual-in_err-n.result c.from_residual-in_err-n.ensures.1 in
    rw (returned, is) (events_stop c.args.bytes.now l.events l.least l.at l.invariant.next _ _ l.i _ c.in_err-n.ensures.is c.loop-i-test.true l.invariant.rest)

pub loop-i-preserved : goal.loop-i-preserved
loop-i-preserved c =
    let b = c.args.bytes.now in
    let l = c.loop-i in
    let read = event-read b l.events l.least l.at l.invariant.next _ _ c.in_ok-n.ensures.is in
    let g = events_go b _ l.i l.events l.at _ l.invariant.rest _ _ _ c.loop-i-test.true read c.marked-events.ensures in
    record { next = g.0; rest = g.1 }

pub returns : goal.returns
returns c =
    let l = c.loop-i in
    events_done c.args.bytes.now _ l.i l.events l.at _ l.invariant.rest (omega arith)
