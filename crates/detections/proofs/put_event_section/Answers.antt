-- The numbers, and then their count in front of them.
use native.Mathlib.Omega.{arith}
use Rattle.event_sets.specs.Sets.{elements}
use Rattle.forms.specs.Forms.{number}
use Rattle.forms.proofs.Forms.{number_laws}
use Rattle.detections.proofs.Findings.{count_room, entries-counted, entries-room, section_done}
use Rattle.detections.proofs.put_event_section.Goals as goal

pub put_events-to-requires : goal.put_events-to-requires
put_events-to-requires c = entries-room (number 2) (number_laws 2) (elements c.args.s) c.args.out.now c.args.at c.requires

pub put_u16-requires : goal.put_u16-requires
put_u16-requires c = count_room (number 2) (number_laws 2) (elements c.args.s) c.args.out.now c.args.at c.requires c.put_events-to.ensures

pub returns : goal.returns
returns c =
    let counted = entries-counted (number 2) (number_laws 2) (elements c.args.s) c.args.out.now c.args.at c.requires c.put_events-to.ensures in
    section_done (number 2) (number_laws 2) (elements c.args.s) c.args.out.now c.args.at c.requires c.put_events-to.ensures (omega (arith, counted)) c.put_u16.ensures
