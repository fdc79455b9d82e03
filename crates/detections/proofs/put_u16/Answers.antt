-- The bytes of its lowest two.
use Rattle.std.proofs.Common.{subst, ◌∙◌}
use Rattle.detections.specs.Writing.{Wrote}
use Rattle.detections.proofs.Sizes.{lowest_two}
use Rattle.detections.proofs.put_u16.Goals as goal

pub returns : goal.returns
returns c = subst (λ bs. Wrote c.args.out.now c.args.at bs c.put_bytes.result c.put_bytes.new.out) (c.to_be_bytes.ensures ∙ lowest_two c.args.v) c.put_bytes.ensures
