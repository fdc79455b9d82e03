-- Demands 1 and 2, in the words of their theorems: how a pair of files ends, and which pairs are worked.
use Rattle.std.specs.Prelude.{List, ◌≡◌, ℕ, ◌≤◌}
use Rattle.plans.specs.Faults.{PlanNumber}
use Rattle.plans.specs.Layout.{Plan, plan_bytes}
use Rattle.plans.specs.Limits.{PlanOk}
use Rattle.plans.specs.Reader.{read_plan, accepted as accepted_plan}
use Rattle.passages.specs.declared.EventEntry.{EventEntry}
use Rattle.passages.specs.Events.{passage_events}
use Rattle.passages.specs.Layout.{passage_bytes}
use Rattle.passages.specs.Limits.{PassageOk}
use Rattle.passages.specs.Reader.{read_passage, accepted}
use Rattle.progress.specs.Progress.{run_of}
use Rattle.working.specs.Working.{end_of, turned_back, worked}

-- the plan is turned back under 1 to 12 or 41, or the passage under 21 to 26, or both are accepted and the passage is worked
pub data Ends (plan passage : List ℕ) (room : ℕ) : Type 0 where
  plan_fault : (number place : ℕ) → PlanNumber number → worked plan passage room ≡ turned_back number place → Ends plan passage room
  passage_fault : (p : Plan) → read_plan plan ≡ accepted_plan p → (number place : ℕ) → 21 ≤ number → number ≤ 26 → worked plan passage room ≡ turned_back number place → Ends plan passage room
  works : (p : Plan) → read_plan plan ≡ accepted_plan p → (es : List EventEntry) → read_passage p passage ≡ accepted es
      → worked plan passage room ≡ end_of (run_of room p (passage_events p passage)) → Ends plan passage room

-- a plan and a passage within the limits, laid out as bytes
pub record LaidOut (plan passage : List ℕ) : Type 0 where
  pub read : Plan
  pub entries : List EventEntry
  pub plan_ok : PlanOk read
  pub passage_ok : PassageOk read entries
  pub plan-bytes : plan ≡ plan_bytes read
  pub passage-bytes : passage ≡ passage_bytes entries
