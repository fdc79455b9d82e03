-- `forms::number_at`: the invariant: the bytes passed make the number so far.
use mathlib.Core.Path.{◌≡◌}
use Prim.Native.Nat.{◌^◌, ◌<◌}
use lib.ListN.{take}
use Rattle.forms.specs.Bytes.{value_of}
use Rattle.forms.proofs.number_at.Given as goal

abbrev pub invariant-loop-b : goal.invariant-loop-b
invariant-loop-b l = (l.v ≡ value_of (take l.b-index l.b-items)) × (l.v < 256 ^ l.b-index)
