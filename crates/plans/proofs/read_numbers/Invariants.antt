-- `plans::read_numbers`: the numbers that are left, read from here after those that are held, give the section; and a number is
-- above those held from `least` on.
use mathlib.Core.Path.{◌≡◌}
use Prim.Native.Nat.{ℕ, ◌-◌}
use lib.ListN.{take}
use lib.Dec.{leb}
use Rattle.forms.specs.Sections.{entries, section}
use Rattle.plans.specs.Faults.{number_of}
use Rattle.plans.specs.Reader.{above, numbers}
use Rattle.plans.proofs.read_numbers.Given as goal

abbrev pub invariant-loop-entry : goal.invariant-loop-entry
invariant-loop-entry g l =
    record {
      above : (v : ℕ) → above (take l.entry-index l.entry-items) v ≡ leb l.least v;
      rest : (let s = numbers g.row.N (number_of l.fn.miscount) (number_of l.disorder) in
          entries s (l.count - l.entry-index) (take l.entry-index l.entry-items) l.bytes l.at ≡ section s l.bytes l.start);
    }
