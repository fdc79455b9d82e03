-- One of three ways.
use mathlib.Core.Bool.{not}
use mathlib.Core.Path.{◌≡◌, ap}
use Prim.Native.Nat.{◌<◌}
use native.Mathlib.Omega.{arith}
use lib.ListN.{length}
use Rattle.detections.specs.Views.{finding_of, written_bytes}
use Rattle.detections.specs.Writing.{Wrote}
use Rattle.detections.proofs.Sizes.{beyond_finding}
use Rattle.detections.proofs.Writing.{beyond_none}
use Rattle.occurrences.specs.Packed.{occurrence_of}
use Rattle.timestamps.specs.Notes.{ticks_of}
use Rattle.emissions.proofs.Emitting.{emits_ninth, emits_no_room, emits_go, has_room, no_room}
use borrow.Author.Rules.{rules}
use Rattle.emissions.proofs.emit_one.Goals as goal

pub returns-then-made-ge8 : goal.returns-then-made-ge8
returns-then-made-ge8 c =
    let eight : length c.args.made.now.row ≡ 8 = search rules in
    record {
      emits = λ globals t s x h o. emits_ninth t _ _ h o eight (omega (arith, eight, c.if-made-ge8.true));
      beyond = beyond_none c.requires.2.0 c.requires.2.1;
    }

pub returns-then-not-fits : goal.returns-then-not-fits
returns-then-not-fits c =
    let a = c.args in
    let eight : length a.made.now.row ≡ 8 = search rules in
    let below : a.made.now.count < 8 = omega (arith, eight, c.if-made-ge8.false) in
    let size = no_room _ _ _ c.requires.2.0 (c.fits.ensures a.setting.now.loggers.now a.place) (ap not c.if-not-fits.true) in
    record {
      emits = λ globals t s x h o. emits_no_room t _ _ h o eight below c.requires.2.0 size;
      beyond = beyond_none c.requires.2.0 c.requires.2.1;
    }

pub write-made-requires : goal.write-made-requires
write-made-requires c =
    let a = c.args in
    (c.requires.0, c.requires.1, has_room _ _ _ c.requires.2.0 (c.fits.ensures a.setting.now.loggers.now a.place) (ap not c.if-not-fits.false))

pub returns : goal.returns
returns c =
    let a = c.args in
    let eight : length a.made.now.row ≡ 8 = search rules in
    let below : a.made.now.count < 8 = omega (arith, eight, c.if-made-ge8.false) in
    let size = has_room _ _ _ c.requires.2.0 (c.fits.ensures a.setting.now.loggers.now a.place) (ap not c.if-not-fits.false) in
    let w : Wrote a.out.now a.made.now.bytes (written_bytes (ticks_of a.setting.now.notes.now) a.setting.now.loggers.now a.place a.o.now) c.write-made.result c.write-made.new.out = c.write-made.ensures in
    let found = occurrence_of (ticks_of a.setting.now.notes.now) a.o.now in
    record {
      emits = λ globals t s x h o. emits_go t _ _ h o eight below c.requires.2.0 size w;
      beyond = beyond_finding (finding_of a.setting.now.loggers.now a.place found.latest found.events) size c.requires.2.1 w;
    }
