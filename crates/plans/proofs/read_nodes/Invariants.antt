-- `plans::read_nodes`: the nodes that are left, read from here after those that are held, give the section.
use mathlib.Core.Path.{◌≡◌}
use mathlib.Core.List.{map}
use Prim.Native.Nat.{◌-◌}
use lib.ListN.{length, take}
use Rattle.forms.specs.Sections.{entries, section}
use Rattle.plans.specs.Reader.{nodes}
use Rattle.plans.specs.Views.{Slotted, node_of}
use Rattle.plans.proofs.read_nodes.Given as goal

abbrev pub invariant-loop-place : goal.invariant-loop-place
invariant-loop-place l =
    record {
      long : length l.into ≡ 16;
      rest : entries (nodes l.kinds) (l.count - l.place) (take l.place (map node_of l.into)) l.bytes l.at ≡ section (nodes l.kinds) l.bytes l.start;
      slotted : Slotted l.place l.into;
    }
