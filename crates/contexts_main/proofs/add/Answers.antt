-- One more waits: there is room for 16.
use mathlib.Core.Logic.{inr}
use Rattle.std.proofs.Common.{◌≡◌, length, rules}
use Rattle.contexts_main.proofs.add.Goals as goal

pub returns : goal.returns
returns c =
    let long : length c.args.list.now ≡ 17 = search rules in
    λ ticks globals t l h within own. c.append_to.ensures ticks globals t l _ h (inr long) (c.of_event-o.ensures ticks globals t within own)
