-- The row at that place, which says what document 01's row there says.
use Rattle.contexts.proofs.Table.{rows_say}
use Rattle.contexts.specs.Table.{recent}
use Rattle.std.proofs.Common.{get_or, ap, ◌∙◌}
use Rattle.contexts.proofs.row_of.Goals as goal

pub returns : goal.returns
returns c = ap (λ rows. get_or rows c.place_of.result recent) rows_say ∙ c.place_of.ensures.1
