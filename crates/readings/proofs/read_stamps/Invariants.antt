-- `readings::read_stamps`: the stamps that are left, read from here after those held, are all of them.
use mathlib.Core.Path.{◌≡◌}
use Prim.Native.Nat.{◌-◌}
use lib.ListN.{length, take}
use Rattle.forms.specs.Sections.{entries, section}
use Rattle.readings.specs.Reader.{stamp_section}
use Rattle.readings.proofs.read_stamps.Given as goal

abbrev pub invariant-loop-i : goal.invariant-loop-i
invariant-loop-i l = record {
  slots : length l.slots ≡ 8;
  rest : entries stamp_section (l.count - l.i) (take l.i l.slots) l.bytes l.at ≡ section stamp_section l.bytes l.start;
}
