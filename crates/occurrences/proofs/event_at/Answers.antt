-- The shift and the remainder read the byte.
use Rattle.occurrences.proofs.Bytes.{byte_read}
use Rattle.occurrences.proofs.event_at.Goals as goal

pub returns : goal.returns
returns c = byte_read _ _
