-- The bytes from the highest on.
use Rattle.std.proofs.Common.{subst, ◌∙◌}
use Rattle.detections.specs.Writing.{Wrote}
use Rattle.detections.proofs.Sizes.{bytes_down_lem}
use Rattle.detections.proofs.put_u64.Goals as goal

pub returns : goal.returns
returns c = subst (λ bs. Wrote c.args.out.now c.args.at bs c.put_bytes.result c.put_bytes.new.out) (c.to_be_bytes.ensures ∙ bytes_down_lem 7 c.args.v) c.put_bytes.ensures
