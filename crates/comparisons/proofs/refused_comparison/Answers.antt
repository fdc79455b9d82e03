-- The number of the refusal, then the number of the word.
use Rattle.comparisons.specs.Answers.{refused_comparison}
use Rattle.std.proofs.Common.{false}
use Rattle.comparisons.proofs.refused_comparison.Goals as goal

pub returns : goal.returns
unfolding refused_comparison
returns c = λ i. record {
  number = c.number.ensures i;
  place = c.args.refused.place;
  order = c.number-2.ensures i;
  weakly_before = false;
}
