-- The mark, and then the digits, of which a number of 64 bits has at most 20.
use Rattle.listing.proofs.Digits.{few_digits}
use Rattle.listing.proofs.Pieces.{wrote_number}
use Rattle.std.proofs.Common.{◌∙◌, ◌≤◌, ap, arith, length}
use Rattle.listing.proofs.put_number.Goals as goal

pub returns : goal.returns
returns c =
    let e = c.as_bytes.ensures.value ∙ c.format.ensures.text in
    let f : length c.as_bytes.result.now ≤ 20 = omega (arith, ap length e, few_digits c.args.n c.ranges.n.fits) in (
      wrote_number c.args.separator c.args.n (omega arith) c.ranges.n.fits e c.put_text.ensures,
      omega arith,
      omega (arith, f),
    )
