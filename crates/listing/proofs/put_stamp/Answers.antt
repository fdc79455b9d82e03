-- The logger after the mark, the tick after a colon.
use Rattle.detections.proofs.Writing.{wrote_then}
use Rattle.listing.specs.Text.{stamp_text}
use Rattle.std.proofs.Common.{rules}
use Rattle.listing.proofs.put_stamp.Goals as goal

pub returns : goal.returns
unfolding stamp_text
returns c = (wrote_then (search rules) c.put_number-a.ensures.0 c.put_number.ensures.0, search rules, search rules)
