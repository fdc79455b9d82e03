-- How the work ends, from what the readers and the run ensure.
use mathlib.Core.Bool.{true, false}
use mathlib.Core.List.{List}
use mathlib.Core.Path.{◌≡◌, refl, sym, ap, subst}
use Prim.Native.Nat.{ℕ, ◌≤◌}
use Rattle.std.specs.Prelude.{Ok, Err}
use lib.Dec.{eqb}
use Rattle.timestamps.specs.Order.{Clocks}
use Rattle.forms.specs.Bytes.{Bytes}
use Rattle.plans.specs.Layout.{Plan}
use Rattle.plans.specs.Reader.{PlanAnswer, read_plan}
use Rattle.plans.specs.Views.{Slotted, answer_of}
use Rattle.plans.specs.declared.NodeRow.{NodeRow}
use Rattle.plans.specs.declared.PlanRead.{PlanRead}
use Rattle.plans.proofs.Theorems.{accepted_ok}
use Rattle.passages.specs.Events.{passage_events}
use Rattle.passages.specs.Faults.{number_of as passage_number}
use Rattle.passages.specs.Reader.{read_passage}
use Rattle.passages.specs.Views.{Checked, Noted, RisingByPlace, check_of, counted, held_events}
use Rattle.passages.specs.declared.Event.{Event}
use Rattle.passages.specs.declared.PassageFault.{PassageFault}
use Rattle.passages.specs.declared.PassageFault.TheVariants.{CutShort, EventCount, Kind, Logger, Tick, BytesRemain}
use Rattle.passages.specs.declared.PassageRefusal.{PassageRefusal}
use Rattle.progress.specs.Progress.{run_of}
use Rattle.detector.specs.Steps.{Ran}
use Rattle.detector.specs.declared.Run.{Run}
use Rattle.gateway.specs.Steps.{PlanHeld}
use Rattle.working.specs.Working.{end_of, plan_worked, turned_back}

-- what is known of a plan that was read
pub read_held : (b : List ℕ) (r : PlanRead) (loggers kinds : List ℕ) (nodes : List NodeRow) → Bytes b → answer_of (Ok r) loggers kinds nodes ≡ read_plan b
    → r.logger_count ≤ 8 → r.kind_count ≤ 32 → r.node_count ≤ 16 → Slotted r.node_count nodes → PlanHeld r loggers kinds nodes
read_held b r loggers kinds nodes B e l k n s =
    let ok = accepted_ok b B (sym (ap (λ (a : PlanAnswer). a.number) e)) in
    record {
      loggers-most = l;
      kinds-most = k;
      nodes-most = n;
      slotted = s;
      rising = (subst (λ (a : PlanAnswer). RisingByPlace a.plan.kinds) (sym e) ok.kinds.rising, subst (λ (a : PlanAnswer). RisingByPlace a.plan.loggers) (sym e) ok.loggers.rising);
    }

-- each fault of a passage has a number that is not 0
a_number : (f : PassageFault) → eqb (passage_number f) 0 ≡ false
a_number CutShort = refl
a_number EventCount = refl
a_number Kind = refl
a_number Logger = refl
a_number Tick = refl
a_number BytesRemain = refl

-- under what reading the plan answers
module _ (room : ℕ) (passage : List ℕ) (a : PlanAnswer) where
  pub plan-refused : eqb a.number 0 ≡ false → plan_worked room passage a ≡ turned_back a.number a.place
  plan-refused e = rw e

  module _ (accepted : eqb a.number 0 ≡ true) where
    module _ (r : PassageRefusal) (checked : check_of (Err r) ≡ counted (read_passage a.plan passage)) where
      pub passage-refused : plan_worked room passage a ≡ turned_back (passage_number r.fault) r.place
      passage-refused = rw (accepted, ← ap (λ (x : Checked). x.number) checked, ← ap (λ (x : Checked). x.place) checked, a_number r.fault)

    pub both-accepted : (count : ℕ) → check_of (Ok count) ≡ counted (read_passage a.plan passage) → plan_worked room passage a ≡ end_of (run_of room a.plan (passage_events a.plan passage))
    both-accepted count checked = rw (accepted, ← ap (λ (x : Checked). x.number) checked)

-- the events that the check notes: they are noted as themselves, and the run over them is the passage's
module _ (clocks : Clocks) (events : List Event) (count : ℕ) (kinds loggers ticks globals : List ℕ) (noted : Noted clocks events count kinds loggers ticks globals) where
  pub noted_themselves : Noted clocks (held_events count kinds loggers ticks) count kinds loggers ticks globals
  noted_themselves = record {
    held = refl;
    few = noted.few;
    no_tick = noted.no_tick;
    no_global = noted.no_global;
    tick-room = noted.tick-room;
    global-room = noted.global-room;
    kind = noted.kind;
    logger = noted.logger;
    tick = noted.tick;
    global = noted.global;
  }

  pub ran_noted : (p : Plan) (out : List ℕ) (r : Run) (out' : List ℕ) → Ran p (held_events count kinds loggers ticks) out r out' → Ran p events out r out'
  ran_noted p out r out' ran = subst (λ (es : List Event). Ran p es out r out') noted.held ran
