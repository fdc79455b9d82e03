-- The node, the section of the stamps and the section of the events, one after the other.
use Rattle.occurrences.specs.Packed.{from_words, occurrence_of, words_of}
use Rattle.timestamps.specs.Notes.{ticks_of}
use Rattle.detections.proofs.Findings.{all_done, events-room, node-room, stamps-room}
use Rattle.detections.proofs.write.Goals as goal

pub put_u16-a-requires : goal.put_u16-a-requires
put_u16-a-requires c = node-room _ _ (occurrence_of (ticks_of c.args.notes.now) c.args.o.now) c.args.out.now _ c.requires.2

pub put_stamp_section-b-requires : goal.put_stamp_section-b-requires
put_stamp_section-b-requires c = (c.requires.0, c.requires.1, stamps-room _ _ (occurrence_of (ticks_of c.args.notes.now) c.args.o.now) _ _ c.requires.2 c.put_u16-a.ensures)

pub put_event_section-requires : goal.put_event_section-requires
unfolding from_words words_of
put_event_section-requires c =
    let o = occurrence_of (ticks_of c.args.notes.now) c.args.o.now in
    let stamps = c.put_stamp_section-b in
    rw c.events_of.ensures (events-room _ _ o _ _ c.requires.2 c.put_u16-a.ensures {b = stamps.result} {l₂ = stamps.new.out} stamps.ensures)

pub returns : goal.returns
unfolding from_words words_of
returns c =
    let events = rw c.events_of.ensures at c.put_event_section.ensures in
    all_done _ _ (occurrence_of (ticks_of c.args.notes.now) c.args.o.now) _ _ c.requires.2 c.put_u16-a.ensures c.put_stamp_section-b.ensures events
