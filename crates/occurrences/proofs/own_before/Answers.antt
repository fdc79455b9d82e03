-- One below each note, compared.
use Rattle.occurrences.proofs.Befores.{own_wraps}
use Rattle.std.proofs.Common.{◌∙◌, rules}
use Rattle.occurrences.proofs.own_before.Goals as goal

pub returns : goal.returns
returns c = λ p. c.earlier.ensures ∙ own_wraps _ _ _ _ (search rules) (search rules) c.tick_of.ensures c.tick_of-2.ensures p
