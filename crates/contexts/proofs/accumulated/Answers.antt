-- The lefts with the arrival, and then the middles between.
use Rattle.contexts.proofs.Accumulations.{accumulation_is}
use Rattle.occurrences.proofs.Packed.{stands-within}
use Rattle.occurrences.specs.Packed.{Stands}
use Rattle.sequences.specs.Marks.{marked}
use Rattle.waiting_lists.specs.Marks.{marks_of}
use Rattle.std.proofs.Common.{subst}
use Rattle.contexts.proofs.accumulated.Goals as goal

pub between-found-requires : goal.between-found-requires
between-found-requires c = let (t, k, l, x, h, g, p) = c.requires in (t, k, l, h, g)

pub all_combined-all-requires : goal.all_combined-all-requires
all_combined-all-requires c = let (t, k, l, x, h, g, p) = c.requires in (t, k, x, h, p)

pub all_combined-requires : goal.all_combined-requires
all_combined-requires c =
    let one = c in
    let (t, k, l, x, h, g, p) = one.requires in
    (t, l, _, g, one.all_combined-all.ensures t k x h p)

pub returns : goal.returns
returns c =
    let one = c in
    let found = one in
    let s = found in
    let (t₀, k₀, l₀, x₀, h₀, g₀, p₀) = s.requires in record {
      stands = (λ t k l x h g p early some.
          subst (Stands t c.all_combined.result)
          (accumulation_is t.clocks (marked k (marks_of s.args.marks)) l x (marks_of s.args.earlier) (marks_of found.between-found.result) early some (found.between-found.ensures t k l h g))
          (c.all_combined.ensures t l _ g (one.all_combined-all.ensures t k x h p)));
      within = stands-within _ t₀ _ _ (c.all_combined.ensures t₀ l₀ _ g₀ (one.all_combined-all.ensures t₀ k₀ x₀ h₀ p₀));
    }
