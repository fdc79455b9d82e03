-- The bits that are left, written from here, make all of them.
use Prim.Native.Nat.{◌^◌, ◌<◌}
use Rattle.forms.specs.Forms.{number, each}
use Rattle.detections.specs.Steps.{bits_from}
use Rattle.detections.proofs.Writing.{Writes}
use Rattle.detections.proofs.put_bits.Given as goal

abbrev pub invariant-loop-rest : goal.invariant-loop-rest
invariant-loop-rest l = (l.rest < 2 ^ 64) × Writes l.initial.out l.at (each (number 2) (bits_from 64 l.first l.word)) l.out l.to (each (number 2) (bits_from 64 l.first l.rest))

abbrev pub decreases-loop-rest : goal.decreases-loop-rest
decreases-loop-rest l = l.rest
