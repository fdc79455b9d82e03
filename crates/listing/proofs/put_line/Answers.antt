-- Its seven pieces, one after the other.
use Rattle.detections.proofs.Writing.{wrote_then}
use Rattle.listing.specs.Text.{line_text}
use Rattle.std.proofs.Common.{◌≤◌, arith, length}
use Rattle.listing.proofs.put_line.Goals as goal

pub returns : goal.returns
unfolding line_text
returns c =
    let h : c.args.at ≤ length c.args.page.now = omega (arith, c.requires) in
    let p₂ = wrote_then h c.put_text-a.ensures c.put_number-b.ensures.0 in
    let p₃ = wrote_then h p₂ c.put_text-c.ensures in
    let few = c.listed.ensures.few in
    let p₄ = wrote_then h p₃ (rw c.listed.ensures.is at c.put_stamps-d.ensures.0) in
    let p₅ = wrote_then h p₄ c.put_text-e.ensures in
    let p₆ = wrote_then h p₅ c.put_events-g.ensures.0 in
    (wrote_then h p₆ c.put_text.ensures, omega (arith, few, c.put_text.ensures.next), omega (arith, few, c.put_text.ensures.next))
