-- Before the first entry nothing is noted; a bad entry is the first that is.
use Rattle.std.proofs.Common.{refl, sym, ◌∙◌, take}
use Rattle.sequences.specs.Select.{each_passes}
use Rattle.timestamps.specs.Order.{clocks_of}
use Rattle.open_calls.proofs.Entries.{bad_here, good_all, good_next, joined_next, joined_none}
use Rattle.open_calls.proofs.join_entries.Goals as goal

pub loop-i-init : goal.loop-i-init
unfolding each_passes
loop-i-init c = record { good = refl; joined = λ e. rw e (joined_none (clocks_of c.args.ratio)) }

pub add-requires : goal.add-requires
add-requires c = sym c.valid.ensures ∙ c.if-not-valid.false

pub loop-i-preserved : goal.loop-i-preserved
loop-i-preserved c =
    let good = c.loop-i.invariant.good in
    record {
      good = good_next _ _ _ c.loop-i-test.true good (sym c.valid.ensures ∙ c.if-not-valid.false);
      joined = λ e. joined_next _ _ _ _ _ c.loop-i-test.true (c.add.ensures.joined (take c.loop-i.i c.args.list.now) good (c.loop-i.invariant.joined e));
    }

pub returns-then-not-valid-clause-judged : goal.returns-then-not-valid-clause-judged
returns-then-not-valid-clause-judged c = bad_here _ _ _ c.loop-i-test.true c.loop-i.invariant.good (sym c.valid.ensures ∙ c.if-not-valid.true)

pub returns-clause-judged : goal.returns-clause-judged
returns-clause-judged c = good_all _ _ c.loop-i-test.false c.loop-i.invariant.good
