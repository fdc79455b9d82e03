-- The stamps, and then their count in front of them.
use Rattle.timestamps.specs.Notes.{ticks_of}
use native.Mathlib.Omega.{arith}
use Rattle.detections.specs.Findings.{stamp}
use Rattle.detections.specs.Views.{written_stamps}
use Rattle.detections.proofs.Findings.{count_room, entries-counted, entries-room, section_done}
use Rattle.detections.proofs.Sizes.{stamp_laws}
use Rattle.detections.proofs.put_stamp_section.Goals as goal

pub put_stamps-to-requires : goal.put_stamps-to-requires
put_stamps-to-requires c =
    (c.requires.0, c.requires.1, entries-room stamp stamp_laws (written_stamps (ticks_of c.args.notes.now) c.args.loggers.now c.args.o.now) c.args.out.now c.args.at c.requires.2)

pub put_u16-requires : goal.put_u16-requires
put_u16-requires c = count_room stamp stamp_laws (written_stamps (ticks_of c.args.notes.now) c.args.loggers.now c.args.o.now) c.args.out.now c.args.at c.requires.2 c.put_stamps-to.ensures

pub returns : goal.returns
returns c =
    let stamps = written_stamps (ticks_of c.args.notes.now) c.args.loggers.now c.args.o.now in
    let counted = entries-counted stamp stamp_laws stamps c.args.out.now c.args.at c.requires.2 c.put_stamps-to.ensures in
    section_done stamp stamp_laws stamps c.args.out.now c.args.at c.requires.2 c.put_stamps-to.ensures (omega (arith, counted)) c.put_u16.ensures
