-- Over the definition: every pair of files is worked, or turned back under one number with no finding and no byte (demand 1); exactly
-- those within layouts and limits are worked (demand 2); what is written has exact latest stamps, and two findings with the same set of
-- stamps have the same ones (demand 3).
use mathlib.Core.Logic.{◌⊎◌, inl, inr, ⊎_elim}
use mathlib.Core.List.Memᴰ
use mathlib.Core.List.{List, [], ◌++◌, map}
use mathlib.Core.Path.{◌≡◌, refl, sym, ap, subst, ◌∙◌}
use Prim.Native.Nat.{ℕ, ◌≤◌}
use native.Mathlib.Omega.{arith}
use lib.ListN.{drop, length, take}
use lib.Seq.{take_all, take-append_seam}
use borrow.Author.Tests.{ne_eqb}
use Rattle.sequences.specs.Members.{◌is_in◌, SameMembers}
use Rattle.sequences.specs.Range.{numbers_from}
use Rattle.sequences.proofs.Range.{range_in}
use Rattle.plans.specs.Faults.{PlanNumber}
use Rattle.plans.specs.Layout.{Plan, plan_bytes}
use Rattle.plans.specs.Limits.{PlanOk}
use Rattle.plans.specs.Layout.{plan_clocks}
use Rattle.plans.specs.Reader.{PlanAnswer, read_plan, accepted as accepted_plan, refused as refused_plan}
use Rattle.plans.proofs.Theorems.{accepted_is_laid_out, laid_out_is_accepted as plan-accepted, one_answer as one-plan-answer}
use Rattle.plans.proofs.First.{first-bytes as plan-first}
use Rattle.passages.specs.declared.EventEntry.{EventEntry}
use Rattle.passages.specs.Events.{passage_events, placed}
use Rattle.passages.specs.Layout.{event, passage_bytes}
use Rattle.passages.specs.Limits.{PassageOk}
use Rattle.passages.specs.Reader.{PassageAnswer, read_passage, accepted, refused}
use Rattle.passages.proofs.Entries.{event_laws}
use Rattle.passages.proofs.First.{first-bytes as passage-first}
use Rattle.passages.proofs.Theorems.{accepted-count, accepted-events, accepted_is_laid_out as passage-is-laid-out, laid_out_is_accepted as passage-accepted, laid_out_is_bytes, one_answer as one-passage-answer}
use Rattle.forms.specs.Bytes.{Bytes}
use Rattle.forms.proofs.Layouts.{length-section}
use Rattle.occurrences.specs.Latest.{Exact}
use Rattle.detections.specs.Findings.{Finding, findings_bytes}
use Rattle.readings.specs.Reader.{AllFit}
use Rattle.readings.proofs.Telling.{findings_told}
use Rattle.readings.proofs.Theorems.{within-fits}
use Rattle.emissions.specs.declared.Limit.{Limit}
use Rattle.emissions.specs.declared.Limit.TheVariants.{ListFull, NodeFull, OutputFull}
use Rattle.std.specs.Prelude.{Option, None, Some}
use Rattle.emissions.specs.Emissions.{number_of}
use Rattle.progress.specs.Progress.{numbers_by_place, run_of, stamp_of}
use Rattle.latest_stamps.specs.Written.{Kept}
use Rattle.latest_stamps.proofs.Theorems.{accepted-exact}
use Rattle.working.specs.declared.Answer.{Answer}
use Rattle.working.specs.Ends.{Ends, LaidOut, passage_fault, plan_fault, works}
use Rattle.working.specs.Latest.{ExactFinding, LatestExact, WrittenExact, entries_of, stamps_from}
use Rattle.working.specs.Working.{Answers, Work, answer_numbers, end_of, number_met, turned_back, worked}
use Rattle.working.proofs.Latest.{shown-exact, stamps-same}

module _ (plan passage : List ℕ) (room : ℕ) where
  plan_stops : (number place : ℕ) → PlanNumber number → read_plan plan ≡ refused_plan number place → worked plan passage room ≡ turned_back number place
  unfolding worked
  plan_stops number place k e = rw (e, ne_eqb number 0 (λ z. ⊎_elim (λ l. omega (arith, z, l)) (λ l. omega (arith, z, l)) k))

  passage_stops : (p : Plan) (number place : ℕ) → 21 ≤ number → read_plan plan ≡ accepted_plan p → read_passage p passage ≡ refused number place
      → worked plan passage room ≡ turned_back number place
  unfolding worked
  passage_stops p number place k e f = rw (e, f, ne_eqb number 0 (λ z. omega (arith, z)))

  both_pass : (p : Plan) (es : List EventEntry) → read_plan plan ≡ accepted_plan p → read_passage p passage ≡ accepted es
      → worked plan passage room ≡ end_of (run_of room p (passage_events p passage))
  unfolding worked
  both_pass p es e f = rw (e, f)

  pub every_pair_ends : Ends plan passage room
  every_pair_ends =
      ⊎_elim
      (λ a. ⊎_elim
      (λ b. works a.0 a.1 b.0 b.1 (both_pass a.0 b.0 a.1 b.1))
      (λ b. passage_fault a.0 a.1 b.0 b.1 b.2 b.3 (passage_stops a.0 b.0 b.1 b.2 a.1 b.4))
      (one-passage-answer a.0 passage))
      (λ a. plan_fault a.0 a.1 a.2 (plan_stops a.0 a.1 a.2 a.3))
      (one-plan-answer plan)

-- ---- demand 2: exactly the files within layouts and limits are worked
-- every plan and passage within the limits, laid out as bytes, are accepted and worked, with those very events
pub laid_out_is_worked : (p : Plan) (es : List EventEntry) (room : ℕ) → PlanOk p → PassageOk p es
    → worked (plan_bytes p) (passage_bytes es) room ≡ end_of (run_of room p (map (placed p.kinds p.loggers) es))
laid_out_is_worked p es room ok fine =
    let f = passage-accepted p es ok fine in
    both_pass (plan_bytes p) (passage_bytes es) room p es (plan-accepted p ok) f
    ∙ ap (λ l. end_of (run_of room p l)) (accepted-events p (passage_bytes es) es (laid_out_is_bytes p es ok fine) f)

-- and no other two are worked: with 0, or with a limit's number, both are such bytes
pub worked_is_laid_out : (plan passage : List ℕ) (room : ℕ) → Bytes plan → Bytes passage
    → ((worked plan passage room).number ≡ 0) ⊎ ((31 ≤ (worked plan passage room).number) × ((worked plan passage room).number ≤ 33)) → LaidOut plan passage
worked_is_laid_out plan passage room B C n = go (every_pair_ends plan passage room)
  where
    no_fault : (number place : ℕ) → ((1 ≤ number) × (number ≤ 26)) ⊎ (number ≡ 41) → worked plan passage room ≡ turned_back number place → ⊥
    no_fault number place l e =
        let same : (worked plan passage room).number ≡ number = ap (λ (w : Work). w.number) e in
        ⊎_elim (λ z. ⊎_elim (λ k. omega (arith, z, same, k)) (λ k. omega (arith, z, same, k)) l) (λ z. ⊎_elim (λ k. omega (arith, z, same, k)) (λ k. omega (arith, z, same, k)) l) n

    go : Ends plan passage room → LaidOut plan passage
    go (plan_fault number place l e) = absurd (no_fault number place (⊎_elim (λ k. inl (k.0, omega (arith, k))) (λ k. inr k) l) e)
    go (passage_fault p a number place l m e) = absurd (no_fault number place (inl (omega (arith, l), m)) e)
    go (works p a es b e) =
        let x = accepted_is_laid_out plan p B a in
        let y = passage-is-laid-out p passage es C b in
        record { read = p; entries = es; plan_ok = x.1; passage_ok = y.1; plan-bytes = x.0; passage-bytes = y.0 }

-- ---- the first bytes decide
-- one byte more than the longest plan and the longest passage have are enough: what stands after them changes nothing
module _ (plan passage : List ℕ) (room m n : ℕ) (enough : 221 ≤ m) (enough' : 1539 ≤ n) (C : Bytes passage) where
  same-plan : read_plan (take m plan) ≡ read_plan plan
  same-plan = plan-first plan m enough

  -- a passage that is accepted is taken whole
  taken-whole : (p : Plan) (es : List EventEntry) → read_passage p passage ≡ accepted es → take n passage ≡ passage
  unfolding passage_bytes
  taken-whole p es f =
      let (bytes, ok) = passage-is-laid-out p passage es C f in
      take_all n passage (omega (arith, ap length bytes, length-section event event_laws es, ok.most))

  pub first-bytes : worked (take m plan) (take n passage) room ≡ worked plan passage room
  first-bytes =
      ⊎_elim
      (λ a. ⊎_elim
      (λ b. ap (λ x. worked (take m plan) x room) (taken-whole a.0 b.0 b.1)
      ∙ both_pass (take m plan) passage room a.0 b.0 (same-plan ∙ a.1) b.1 ∙ sym (both_pass plan passage room a.0 b.0 a.1 b.1))
      (λ b. passage_stops (take m plan) (take n passage) room a.0 b.0 b.1 b.2 (same-plan ∙ a.1) (passage-first a.0 passage n enough' ∙ b.4)
      ∙ sym (passage_stops plan passage room a.0 b.0 b.1 b.2 a.1 b.4))
      (one-passage-answer a.0 passage))
      (λ a. plan_stops (take m plan) (take n passage) room a.0 a.1 a.2 (same-plan ∙ a.3) ∙ sym (plan_stops plan passage room a.0 a.1 a.2 a.3))
      (one-plan-answer plan)

-- ---- the numbers of the table
of_plan : (k : ℕ) → PlanNumber k → k is_in answer_numbers
of_plan k n = ⊎_elim (λ l. Memᴰ.tail (Memᴰ.tail (Memᴰ.append_left (numbers_from 21 6 ++ numbers_from 31 3) (range_in 1 12 k l.0 (omega (arith, l)))))) (λ l. Memᴰ.tail (Memᴰ.head l)) n

of_passage : (k : ℕ) → 21 ≤ k → k ≤ 26 → k is_in answer_numbers
of_passage k l m = Memᴰ.tail (Memᴰ.tail (Memᴰ.append_right (numbers_from 1 12) (Memᴰ.append_left (numbers_from 31 3) (range_in 21 6 k l (omega arith)))))

of_working : (k : ℕ) → 31 ≤ k → k ≤ 33 → k is_in answer_numbers
of_working k l m = Memᴰ.tail (Memᴰ.tail (Memᴰ.append_right (numbers_from 1 12) (Memᴰ.append_right (numbers_from 21 6) (range_in 31 3 k l (omega arith)))))

of_limit : (l : Option Limit) → number_met l is_in answer_numbers
unfolding number_of
of_limit None = Memᴰ.head refl
of_limit (Some ListFull) = of_working 31 (omega arith) (omega arith)
of_limit (Some NodeFull) = of_working 32 (omega arith) (omega arith)
of_limit (Some OutputFull) = of_working 33 (omega arith) (omega arith)

-- ---- demand 3 for what is written
module _ (plan passage : List ℕ) (room : ℕ) (B : Bytes plan) (C : Bytes passage) where
  -- a fault leaves no finding and no byte
  none_written : (number place : ℕ) → worked plan passage room ≡ turned_back number place
      → LatestExact plan passage (worked plan passage room).findings (worked plan passage room).bytes
  unfolding LatestExact findings_bytes
  none_written number place e = rw e (record { findings = []; many = refl; laid = refl; each = λ f m. absurd (Memᴰ.not-nil m) })

  module _ (p : Plan) (e : read_plan plan ≡ accepted_plan p) (es : List EventEntry) (f : read_passage p passage ≡ accepted es) where
    plan_ok : PlanOk p
    plan_ok = (accepted_is_laid_out plan p B e).1

    kept : Kept (Exact (plan_clocks p) (map stamp_of (passage_events p passage))) (numbers_by_place p.loggers) (length p.nodes) (length es)
        (run_of room p (passage_events p passage))
    kept =
        let whole : take (length es) (passage_events p passage) ≡ passage_events p passage =
        take_all (length es) (passage_events p passage) (omega (arith, accepted-count p passage es C f)) in
        rw whole at (accepted-exact p passage es plan_ok C f room (length es) (omega arith))

    run_written : WrittenExact (plan_clocks p) es (run_of room p (passage_events p passage)).findings (run_of room p (passage_events p passage)).bytes
    run_written =
        let w = kept.written in
        record { findings = w.findings; many = w.many; laid = w.laid; each = λ x m. shown-exact p passage es plan_ok C f x (w.each x m) }

    -- p and es are what the bytes are read as
    as_read : (count : ℕ) (bytes : List ℕ) → WrittenExact (plan_clocks p) es count bytes → LatestExact plan passage count bytes
    unfolding LatestExact
    as_read count bytes w =
        subst (λ (a : PlanAnswer). WrittenExact (plan_clocks a.plan) (read_passage a.plan passage).events count bytes) (sym e)
        (subst (λ (b : PassageAnswer). WrittenExact (plan_clocks p) b.events count bytes) (sym f) w)

  -- the bytes written are those of as many findings as the answer says, and the latest stamps of each are exact
  pub worked-exact : LatestExact plan passage (worked plan passage room).findings (worked plan passage room).bytes
  worked-exact = go (every_pair_ends plan passage room)
    where
      go : Ends plan passage room → LatestExact plan passage (worked plan passage room).findings (worked plan passage room).bytes
      go (plan_fault number place l e) = none_written number place e
      go (passage_fault p a number place l m e) = none_written number place e
      go (works p a es b e) = rw e (as_read p a es b _ _ (run_written p a es b))

  -- the number of every answer is 0 or one of the table's
  pub one_number : (worked plan passage room).number is_in answer_numbers
  one_number = go (every_pair_ends plan passage room)
    where
      go : Ends plan passage room → (worked plan passage room).number is_in answer_numbers
      go (plan_fault number place l e) = rw e (of_plan number l)
      go (passage_fault p a number place l m e) = rw e (of_passage number l m)
      go (works p a es b e) = rw e (of_limit (run_of room p (passage_events p passage)).limit)

  -- whichever list of findings has those bytes, each of it is exact
  pub findings-exact : (fs : List Finding) → AllFit fs → (worked plan passage room).bytes ≡ findings_bytes fs
      → (f : Finding) → f is_in fs → ExactFinding (plan_clocks (read_plan plan).plan) (entries_of plan passage) f
  unfolding LatestExact
  findings-exact fs fit e f m =
      let w = worked-exact in
      let same : fs ≡ w.findings = findings_told fs w.findings fit (λ g i. within-fits g (w.each g i).limits) (sym e ∙ w.laid) in
      w.each f (subst (λ l. f is_in l) same m)

-- so it is for the answer and the output of the function, however the work ended
pub told : (plan passage : List ℕ) (room : ℕ) (out : List ℕ) (r : Answer) (out' : List ℕ) (w : Work) → Bytes plan → Bytes passage
    → worked plan passage room ≡ w → Answers w out r out'
    → Answers (worked plan passage room) out r out' × LatestExact plan passage r.findings (take r.bytes out')
told plan passage room out r out' w B C e a =
    let bytes : take r.bytes out' ≡ w.bytes = rw (a.bytes, a.written) (take-append_seam w.bytes (drop (length w.bytes) out)) in
    let exact : LatestExact plan passage w.findings w.bytes =
    subst (λ (v : Work). LatestExact plan passage v.findings v.bytes) e (worked-exact plan passage room B C) in (
      subst (λ (v : Work). Answers v out r out') (sym e) a,
      subst (λ n. LatestExact plan passage n (take r.bytes out')) (sym a.findings)
          (subst (LatestExact plan passage w.findings) (sym bytes) exact),
    )

-- two findings of one or two passages under one plan whose events have the same set of stamps carry the same latest stamps
pub same-latest : (plan passage passage' : List ℕ) (room room' : ℕ) → Bytes plan → Bytes passage → Bytes passage'
    → (fs fs' : List Finding) → AllFit fs → AllFit fs' → (worked plan passage room).bytes ≡ findings_bytes fs → (worked plan passage' room').bytes ≡ findings_bytes fs'
    → (f f' : Finding) → f is_in fs → f' is_in fs'
    → SameMembers (stamps_from (entries_of plan passage) f.events) (stamps_from (entries_of plan passage') f'.events) → f.stamps ≡ f'.stamps
same-latest plan passage passage' room room' B C C' fs fs' a a' e e' f f' m m' same =
    stamps-same (plan_clocks (read_plan plan).plan) (entries_of plan passage) (entries_of plan passage') f f'
    (findings-exact plan passage room B C fs a e f m) (findings-exact plan passage' room' B C' fs' a' e' f' m') same
