-- The bits of its first two numbers.
use mathlib.Core.Path.{ap, ◌∙◌}
use native.Mathlib.Omega.{arith}
use Rattle.event_sets.specs.Sets.{size_of}
use Rattle.occurrences.specs.Packed.{from_words, words_of}
use Rattle.event_sets.proofs.Members.{size-most}
use Rattle.detections.proofs.event_count.Goals as goal

pub returns : goal.returns
unfolding from_words words_of
returns c =
    let n = c.count.ensures in
    ((λ ticks. n ∙ ap size_of c.events_of.ensures), omega (arith, n, size-most c.events_of.result))
