-- What is known of a plan that was read into arrays, and the work under it. Readers of the promises need none of this.
use Rattle.timestamps.specs.Notes.{globals_of, ticks_of}
use Rattle.timestamps.specs.declared.Note.{Note}
use Rattle.std.specs.Prelude.{List, map, ◌≡◌, ℕ, ◌≤◌, length, take, Ok}
use Rattle.plans.specs.Layout.{Plan, plan_clocks}
use Rattle.plans.specs.declared.NodeRow.{NodeRow}
use Rattle.plans.specs.declared.PlanRead.{PlanRead}
use Rattle.plans.specs.Views.{Slotted, answer_of, node_of}
use Rattle.passages.specs.Views.{Noted, RisingByPlace, held_events}
use Rattle.progress.specs.Progress.{numbers_by_place}
use Rattle.detector.specs.Steps.{Ran}
use Rattle.detector.specs.declared.Run.{Run}
use Rattle.working.specs.declared.Answer.{Answer}
use Rattle.working.specs.Working.{Answers, plan_worked}

-- there are not too many loggers, kinds and nodes, the rows of the nodes hold slots, and the numbers of the kinds and of the loggers rise
pub record PlanHeld (read : PlanRead) (loggers kinds : List ℕ) (nodes : List NodeRow) : Type 0 where
  pub loggers-most : read.logger_count ≤ 8
  pub kinds-most : read.kind_count ≤ 32
  pub nodes-most : read.node_count ≤ 16
  pub slotted : Slotted read.node_count nodes
  pub rising : RisingByPlace (take read.kind_count kinds) × RisingByPlace (take read.logger_count loggers)

-- the answer and the output of a passage under the plan that was read
abbrev pub WorkedUnder : (read : PlanRead) (loggers kinds : List ℕ) (nodes : List NodeRow) (passage out : List ℕ) (r : Answer) (out' : List ℕ) → Type 0
WorkedUnder read loggers kinds nodes passage out r out' = Answers (plan_worked (length out) passage (answer_of (Ok read) loggers kinds nodes)) out r out'

-- the run over the events that the code keeps is the one under every plan whose logger numbers these are, whose nodes are the first n rows, and by whose clocks
-- the events are noted
abbrev pub RunsUnder : (numbers : List ℕ) (nodes : List NodeRow) (n count : ℕ) (kinds loggers : List ℕ) → List Note → (out : List ℕ) (r : Run) (out' : List ℕ) → Type 0
RunsUnder numbers nodes n count kinds loggers notes out r out' =
    (p : Plan) → numbers ≡ numbers_by_place p.loggers → p.nodes ≡ map node_of (take n nodes)
    → (let events = held_events count kinds loggers (ticks_of notes) in Noted (plan_clocks p) events count kinds loggers (ticks_of notes) (globals_of notes) → Ran p events out r out')
