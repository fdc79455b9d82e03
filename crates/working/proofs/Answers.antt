-- What an answer says of how the work ended.
use mathlib.Core.List.{List}
use mathlib.Core.Path.{◌≡◌, sym, ap, subst, ◌∙◌}
use Prim.Native.Nat.{ℕ}
use Rattle.sequences.specs.Choice.{pick}
use Rattle.emissions.specs.Emissions.{reached}
use Rattle.progress.specs.Progress.{Progress}
use Rattle.detector.specs.Steps.{Says}
use Rattle.detector.specs.declared.Run.{Run}
use Rattle.working.specs.declared.Answer.{Answer}
use Rattle.working.specs.Working.{Answers, Work, end_of, number_met}

-- the answer on a run
pub run_answers : (p : Progress) (out : List ℕ) (r : Run) (out' : List ℕ) (number place : ℕ) → Says p out r out' → number ≡ number_met r.limit
    → place ≡ pick (reached r.limit) r.event 0 → Answers (end_of p) out (record { number = number; place = place; findings = r.findings; bytes = r.bytes }) out'
run_answers p out r out' number place s n k = record {
  number = n ∙ ap number_met s.limit;
  place = k ∙ rw (s.limit, s.event);
  findings = s.findings;
  bytes = s.bytes;
  written = s.written;
}

pub answers_same : (v w : Work) (out : List ℕ) (r : Answer) (out' : List ℕ) → v ≡ w → Answers w out r out' → Answers v out r out'
answers_same v w out r out' e a = subst (λ (x : Work). Answers x out r out') (sym e) a
