-- Document 01, "Files" and "Where work is turned back": a passage worked under a plan, both from their bytes.
use Rattle.std.specs.Prelude.{List, [], ◌∷◌, ◌++◌, Option, None, Some, ◌≡◌, ℕ, eqb, drop, length}
use Rattle.sequences.specs.Choice.{pick}
use Rattle.sequences.specs.Range.{numbers_from}
use Rattle.plans.specs.Layout.{Plan}
use Rattle.plans.specs.Reader.{PlanAnswer, read_plan}
use Rattle.passages.specs.Events.{passage_events}
use Rattle.passages.specs.Reader.{PassageAnswer, read_passage}
use Rattle.emissions.specs.declared.Limit.{Limit}
use Rattle.emissions.specs.Emissions.{number_of, reached}
use Rattle.progress.specs.Progress.{Progress, run_of}
use Rattle.working.specs.declared.Answer.{Answer}

-- how the work ends: a number of the table or 0, its place, the findings and their bytes
pub record Work : Type 0 where
  pub number : ℕ
  pub place : ℕ
  pub findings : ℕ
  pub bytes : List ℕ

-- 0, and the numbers of the table for two files: 1 to 12 and 41 of the plan, 21 to 26 of the passage, 31 to 33 on the way
abbrev pub answer_numbers : List ℕ
answer_numbers = 0 ∷ 41 ∷ (numbers_from 1 12 ++ (numbers_from 21 6 ++ numbers_from 31 3))

-- a fault in a file: no finding, no byte
abbrev pub turned_back : ℕ → ℕ → Work
turned_back number place = record { number = number; place = place; findings = 0; bytes = [] }

-- the number of the limit that was met, 0 for none
abbrev pub number_met : Option Limit → ℕ
number_met None = 0
number_met (Some limit) = number_of limit

-- worked to its end, or to a limit: its place is the number of the event that met it
abbrev pub end_of : Progress → Work
end_of p = record { number = number_met p.limit; place = pick (reached p.limit) p.event 0; findings = p.findings; bytes = p.bytes }

abbrev pub passage_worked : ℕ → Plan → List ℕ → PassageAnswer → Work
passage_worked room plan passage a = pick (eqb a.number 0) (end_of (run_of room plan (passage_events plan passage))) (turned_back a.number a.place)

abbrev pub plan_worked : ℕ → List ℕ → PlanAnswer → Work
plan_worked room passage a =
    pick (eqb a.number 0) (passage_worked room a.plan passage (read_passage a.plan passage)) (turned_back a.number a.place)

-- both files are checked whole before the first event is worked, the plan first
unfoldable pub worked : (plan passage : List ℕ) → ℕ → Work
worked plan passage room = plan_worked room passage (read_plan plan)

-- the answer says how the work ends; the output has the bytes written, and then the bytes that were there
pub record Answers (w : Work) (out : List ℕ) (r : Answer) (out' : List ℕ) : Type 0 where
  pub number : r.number ≡ w.number
  pub place : r.place ≡ w.place
  pub findings : r.findings ≡ w.findings
  pub bytes : r.bytes ≡ length w.bytes
  pub written : out' ≡ w.bytes ++ drop (length w.bytes) out

-- what is promised of file working: the answer and the output of these two files
abbrev pub FilesWorked : (plan passage out : List ℕ) (r : Answer) (out' : List ℕ) → Type 0
FilesWorked plan passage out r out' = Answers (worked plan passage (length out)) out r out'
