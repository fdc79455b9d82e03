-- `readings::read_stamps`: the count, and a stamp more with each turn.
use mathlib.Core.Path.{refl, sym, ◌∙◌}
use Prim.Native.Nat.{◌+◌, ◌≤◌, ◌<◌}
use native.Mathlib.Omega.{arith}
use lib.ListN.{length, length-set, take}
use Rattle.std.proofs.lemmas.Result.{err_from_is_err_and}
use Rattle.forms.proofs.Pieces.{got-seen, piece_short}
use Rattle.forms.proofs.Sections.{entries_stop, section_go, section_stop, turn_go, turn_end}
use Rattle.detections.specs.Findings.{stamp}
use Rattle.readings.specs.Reader.{stamp_section}
use Rattle.readings.proofs.Reading.{stamp-read}
use Rattle.readings.proofs.read_stamps.Goals as goal

pub returns-in_err-counted : goal.returns-in_err-counted
returns-in_err-counted c =
    let (e, returned, is) = err_from_is_err_and c.from_residual.result c.from_residual.ensures.1 in
    rw (returned, is) (sym (section_stop stamp_section c.args.bytes.now c.args.start 1 _ (sym c.in_err-counted.ensures.is)))

pub loop-i-init : goal.loop-i-init
loop-i-init c = record { slots = refl; rest = section_go stamp_section c.args.bytes.now c.args.start _ _ (sym c.in_ok-counted.ensures.is) }

pub returns-then-left-lt-STAMP_WIDTH : goal.returns-then-left-lt-STAMP_WIDTH
returns-then-left-lt-STAMP_WIDTH c =
    let b = c.args.bytes.now in
    let l = c.loop-i in
    let cut = piece_short stamp 1 (λ s. 0) b l.at (omega arith) in
    sym (entries_stop stamp_section b _ l.i (take l.i l.slots) l.at 1 l.at c.loop-i-test.true cut) ∙ l.invariant.rest

pub loop-i-preserved : goal.loop-i-preserved
loop-i-preserved c =
    let b = c.args.bytes.now in
    let l = c.loop-i in
    let h : l.at + 10 ≤ length b = omega arith in
    let j : l.i < length l.slots = omega (arith, l.invariant.slots, c.in_ok-counted.ensures.within) in
    record {
      slots = simp length-set l.invariant.slots;
      rest = turn_go stamp_section b _ l.i l.slots l.at _ l.invariant.rest 0 c.stamp_at.result (l.at + 10) c.loop-i-test.true j (stamp-read b l.at c.stamp_at.result h c.stamp_at.ensures) refl;
    }

pub returns : goal.returns
returns c =
    let l = c.loop-i in
    sym (got-seen _ l.at) ∙ turn_end stamp_section c.args.bytes.now _ l.i l.slots l.at _ l.invariant.rest (omega arith)
