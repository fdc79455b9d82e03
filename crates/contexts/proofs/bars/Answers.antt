-- By the word.
use Rattle.contexts.proofs.Steps.{word_tells}
use Rattle.contexts.specs.Steps.{bars_by}
use Rattle.occurrences.proofs.Seen.{stands-composite}
use Rattle.std.proofs.Common.{ap, ◌∙◌}
use Rattle.contexts.proofs.bars.Goals as goal

pub returns : goal.returns
returns c = λ t x y lw lc p q.
    c.word_bars.ensures ∙ ap (bars_by c.args.rule) (c.order-word.ensures t x y lw lc p q) ∙ word_tells c.args.rule t.clocks x y (stands-composite t _ x p)
