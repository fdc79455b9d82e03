-- What is found next, and what is left of the events.
use Rattle.std.proofs.Common.{sym, ◌∙◌, arith, rules}
use Rattle.event_sets.proofs.Walks.{from_start, next-later, next-most}
use Rattle.detections.proofs.Writing.{wrote_none, wrote_then}
use Rattle.listing.proofs.Lines.{events_turn, events_end}
use Rattle.listing.proofs.put_events.Goals as goal

pub loop-e-init : goal.loop-e-init
loop-e-init c = record {
  bound = search rules;
  onward = search rules;
  room = search rules;
  same = search rules;
  rest = (λ r l w. rw (← from_start c.args.events) w);
}

pub put_number-to-requires : goal.put_number-to-requires
put_number-to-requires c =
    let f = sym c.next_from.ensures ∙ c.in-Some.is in
    omega (arith, next-later c.args.events c.loop-e.from f, next-most c.args.events c.loop-e.from f)

pub overflow_add-from : goal.overflow_add-from
overflow_add-from c = omega (arith, next-most c.args.events c.loop-e.from (sym c.next_from.ensures ∙ c.in-Some.is))

pub loop-e-smaller : goal.loop-e-smaller
loop-e-smaller c =
    let f = sym c.next_from.ensures ∙ c.in-Some.is in
    omega (arith, next-later c.args.events c.loop-e.from f, next-most c.args.events c.loop-e.from f)

pub loop-e-preserved : goal.loop-e-preserved
loop-e-preserved c =
    let f = sym c.next_from.ensures ∙ c.in-Some.is in
    let later = next-later c.args.events c.loop-e.from f in
    let most = next-most c.args.events c.loop-e.from f in
    record {
      bound = omega (arith, most);
      onward = search rules;
      room = omega (arith, later, most, c.put_number-to.ensures.2, c.loop-e.invariant.room);
      same = c.put_number-to.auto.page ∙ c.loop-e.invariant.same;
      rest = (λ r l rest. c.loop-e.invariant.rest r l (rw (events_turn c.args.events c.loop-e.from c.loop-e.separator f) (wrote_then (omega arith) c.put_number-to.ensures.0 rest)));
    }

pub returns : goal.returns
returns c =
    let f = sym c.next_from.ensures ∙ c.in_default.is in
    (c.loop-e.invariant.rest _ _ (rw (events_end c.args.events c.loop-e.from c.loop-e.separator f) (wrote_none _ _)), search rules, omega arith)
