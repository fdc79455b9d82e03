-- The copy goes into the part of the page from the place on.
use Rattle.listing.proofs.Pieces.{wrote_mid}
use Rattle.listing.proofs.put_text.Goals as goal

pub returns : goal.returns
returns c = wrote_mid c.args.page.now c.args.text.now _ c.args.at c.copy_from_slice.ensures.after
