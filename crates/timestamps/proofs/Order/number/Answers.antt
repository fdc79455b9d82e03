-- Word by word.
use Rattle.std.proofs.Common.{◌≡◌, refl}
use denote.Enum.Declared.{tag_of}
use Rattle.timestamps.specs.declared.Order.{Order}
use Rattle.timestamps.specs.declared.Order.TheVariants.{Incomparable, Before, After, Concurrent}
use Rattle.timestamps.specs.contracts.Order.{the_type}
use Rattle.timestamps.specs.Comparison.{order_number}
use Rattle.timestamps.proofs.Order.number.Goals as goal

numbered : (w : Order) → tag_of the_type w ≡ order_number w
unfolding order_number
numbered Incomparable = refl
numbered Before = refl
numbered After = refl
numbered Concurrent = refl

pub returns : goal.returns
returns c = numbered c.args.self
