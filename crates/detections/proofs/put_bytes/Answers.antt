-- The bytes in place of as many.
use Rattle.std.proofs.Common.{arith}
use Rattle.detections.proofs.Writing.{wrote_part}
use Rattle.detections.proofs.put_bytes.Goals as goal

pub returns : goal.returns
returns c = wrote_part c.requires (omega arith) c.copy_from_slice.ensures.after
