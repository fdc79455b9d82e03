-- `readings::read_events`: the events that are left, read from here after those marked, are all of them.
use mathlib.Core.Path.{◌≡◌}
use Prim.Native.Nat.{◌-◌}
use Rattle.event_sets.specs.Sets.{elements}
use Rattle.forms.specs.Sections.{entries, section}
use Rattle.readings.specs.Reader.{event_section}
use Rattle.readings.proofs.Reading.{Least}
use Rattle.readings.proofs.read_events.Given as goal

abbrev pub invariant-loop-i : goal.invariant-loop-i
invariant-loop-i l = record {
  next : Least (elements l.events) l.least;
  rest : entries event_section (l.count - l.i) (elements l.events) l.bytes l.at ≡ section event_section l.bytes l.start;
}
