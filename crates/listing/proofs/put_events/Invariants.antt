-- The events that are left from a number on, written from here, make all of them.
use Rattle.std.proofs.Common.{◌≡◌, ℕ, ◌+◌, ◌*◌, ◌-◌, ◌≤◌, List, length}
use Rattle.event_sets.specs.Sets.{elements, elements_from}
use Rattle.detections.specs.Writing.{Wrote}
use Rattle.listing.specs.Text.{space, listed, number_text}
use Rattle.listing.proofs.put_events.Given as goal

abbrev pub invariant-loop-e : goal.invariant-loop-e
invariant-loop-e l = record {
  bound : l.from ≤ 128;
  onward : l.at ≤ l.to;
  room : l.to + 21 * (128 - l.from) ≤ l.at + 2688;
  same : length l.page ≡ length l.fn.page;
  rest : (r : ℕ) (p : List ℕ) → Wrote l.page l.to (listed number_text l.separator (elements_from l.events l.from)) r p → Wrote l.fn.page l.at (listed number_text space (elements l.events)) r p;
}

abbrev pub decreases-loop-e : goal.decreases-loop-e
decreases-loop-e l = 128 - l.from
