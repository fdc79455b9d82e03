-- By the code.
use Rattle.arrivals.proofs.Actions.{looked_absent, looked_before, looked_both}
use Rattle.arrivals.specs.Meetings.{action_from}
use Rattle.arrivals.specs.Views.{looked_for}
use Rattle.contexts.proofs.Absences.{all_block, none_block}
use Rattle.contexts.specs.Choice.{absence_candidates}
use Rattle.waiting_lists.proofs.Waits.{read-few, read_length, waits-length}
use Prim.Native.Nat.{ℕ, ◌≤◌}
use lib.ListN.{take}
use mathlib.Core.Path.{◌∙◌, ◌≡◌, ap, sym}
use native.Mathlib.Decide.{ℕ_discrete}
use native.Mathlib.Omega.{arith}
use Rattle.waiting_lists.specs.Lists.{list_of}
use Rattle.arrivals.proofs.candidates_of.Goals as goal

pub list_of-waiting-requires : goal.list_of-waiting-requires
list_of-waiting-requires c = let (t, k, l, x, g, h, p) = c.requires in h.some

pub all_waiting-requires : goal.all_waiting-requires
all_waiting-requires c = let (t, k, l, x, g, h, p) = c.requires in read-few t c.args.other.now l h c.list_of-waiting.result c.list_of-waiting.ensures

pub returns-then-action-eq-MEET_AND_WAIT : goal.returns-then-action-eq-MEET_AND_WAIT
returns-then-action-eq-MEET_AND_WAIT c =
    λ t k l x g h p looks.
    c.all_waiting.ensures l (sym (read_length t c.args.other.now l h c.list_of-waiting.result c.list_of-waiting.ensures))
    ∙ looked_both _ t.clocks k l x c.if-action-eq-MEET_AND_WAIT.true

-- ---- how many can block: all of them, or none
pub blockers_of-blockers-requires : goal.blockers_of-blockers-requires
blockers_of-blockers-requires c = let (t, k, l, x, g, h, p) = c.requires in g.some

pub unblocked-requires : goal.unblocked-requires
unblocked-requires c =
    let (t, k, l, x, g, h, p) = c.requires in
    let most : c.blockers_of-blockers.result ≤ (list_of c.args.own.now).len = elim (ℕ_discrete c.args.action 6) [
      | yes e ↦ omega (arith, c.blockers_of-blockers.ensures.0 e)
      | no n ↦ omega (arith, c.blockers_of-blockers.ensures.1 n)
    ] in
    ((t, l, k, x, h, g, p), most)

pub returns : goal.returns
returns c =
    λ t k l x g h p looks.
    let those : absence_candidates t.clocks l (take c.blockers_of-blockers.result k) x ≡ looked_for (action_from c.args.action) t.clocks k l x = elim (ℕ_discrete c.args.action 6) [
      | yes e ↦ all_block t.clocks l k x _ (c.blockers_of-blockers.ensures.0 e ∙ waits-length t _ k g) ∙ looked_absent _ t.clocks k l x e
      | no n ↦ ap (λ (b : ℕ). absence_candidates t.clocks l (take b k) x) (c.blockers_of-blockers.ensures.1 n) ∙ none_block t.clocks l k x
          ∙ looked_before _ t.clocks k l x looks c.if-action-eq-MEET_AND_WAIT.false n
    ] in
    c.unblocked.ensures t l k x h g p ∙ those
