-- By the rule.
use Rattle.contexts.proofs.Steps.{is-after, is-before}
use Rattle.contexts.specs.Steps.{bars_by}
use Rattle.std.proofs.Common.{◌∙◌}
use Rattle.contexts.proofs.word_bars.Goals as goal

pub returns-in-Latest : goal.returns-in-Latest
unfolding bars_by
returns-in-Latest c = rw c.in-Latest.is (c.eq.ensures ∙ is-before c.args.word)

pub returns-in-Earliest : goal.returns-in-Earliest
unfolding bars_by
returns-in-Earliest c = rw c.in-Earliest.is (c.eq-in-Earliest.ensures ∙ is-after c.args.word)

pub returns-in-Every : goal.returns-in-Every
unfolding bars_by
returns-in-Every c = rw c.in-Every.is
