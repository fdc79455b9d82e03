-- Its six pieces, one after the other.
use Rattle.detections.proofs.Writing.{wrote_then}
use Rattle.listing.specs.Text.{end_text}
use Rattle.std.proofs.Common.{◌≤◌, arith, length, rules}
use Rattle.listing.proofs.put_end.Goals as goal

pub returns : goal.returns
unfolding end_text
returns c =
    let h : c.args.at ≤ length c.args.page.now = omega (arith, c.requires) in
    let p₂ = wrote_then h c.put_text-b.ensures c.put_number-c.ensures.0 in
    let p₃ = wrote_then h p₂ c.put_number-d.ensures.0 in
    let p₄ = wrote_then h p₃ c.put_number-e.ensures.0 in
    let p₅ = wrote_then h p₄ c.put_number-f.ensures.0 in
    (wrote_then h p₅ c.put_text.ensures, search rules)
