-- The answer that the code's values stand for.
use Rattle.std.specs.Prelude.{take, Result, Ok, Err}
use Rattle.event_sets.specs.Sets.{elements}
use Rattle.readings.specs.declared.FindingRead.{FindingRead}
use Rattle.readings.specs.declared.NoFinding.{NoFinding}
use Rattle.readings.specs.Reader.{FindingAnswer, found, not_found}

-- the answer of a finding that was read, of its stamps as many as their count says; or of what is not in order
abbrev pub answer_of : Result FindingRead NoFinding → FindingAnswer
answer_of (Ok r) = found (record { node = r.node; stamps = take r.stamps.count r.stamps.slots; events = elements r.events }) r.next
answer_of (Err e) = not_found e.place
