-- Demand 3 over the run: after every event all that waits, was made or was written is exact.
use mathlib.Core.Bool.{true, false}
use mathlib.Core.List.Memᴰ
use mathlib.Core.List.{List, [], ◌∷◌, map}
use mathlib.Core.Logic.{◌⊎◌, inl, inr, ⊎_elim}
use mathlib.Core.Path.{◌≡◌, refl, sym, ap, subst}
use Prim.Native.Nat.{ℕ, zero, suc, ◌+◌, ◌-◌, ◌<◌, ◌≤◌}
use native.Mathlib.Omega.{arith}
use lib.ListN.{get_or, length, replicate, set, take, length-map, length-take}
use lib.Seq.{get_or-take}
use lib.Dec.{eqb, ltb}
use Rattle.sequences.specs.Choice.{pick}
use Rattle.sequences.specs.Loops.{fold, loop}
use Rattle.sequences.specs.Members.{◌is_in◌}
use Rattle.sequences.proofs.Booleans.{either_way, never_both}
use Rattle.sequences.proofs.Members.{map_of}
use Rattle.sequences.proofs.Parts.{get_or_map}
use Rattle.timestamps.specs.Order.{blank as blank_stamp}
use Rattle.timestamps.proofs.Join.{Placeable}
use Rattle.occurrences.specs.declared.Occurrence.{Occurrence}
use Rattle.occurrences.specs.Combination.{combination_of, combined_of}
use Rattle.occurrences.specs.Latest.{Exact}
use Rattle.occurrences.specs.Occurrences.{of_event}
use Rattle.occurrences.proofs.Latest.{exact_combination, exact_combined, exact-event}
use Rattle.detections.specs.Findings.{findings_bytes}
use Rattle.plans.specs.declared.Node.{Node}
use Rattle.plans.specs.Layout.{Plan, inputs_of, plan_clocks}
use Rattle.plans.specs.Limits.{no_node}
use Rattle.passages.specs.declared.Event.{Event}
use Rattle.emissions.specs.Emissions.{reached}
use Rattle.arrivals.specs.Meetings.{Setting, setting_of}
use Rattle.operators.specs.Turns.{Turned}
use Rattle.progress.specs.Progress.{NodeLists, Progress, arrivals_of, closed, event_step, no_lists, node_step, numbers_by_place, run_of, stamp_of, start, turn_at, turned}
use Rattle.latest_stamps.specs.Written.{All, Kept}
use Rattle.latest_stamps.proofs.Turns.{TurnOk, all_none, all_one, get_or_all, loop_all, pick_all, turn_keeps}

-- ---- lists of lists
module _ {A : Type 0} where
  -- what a list has at a place where something is set
  set_in : (l : List A) (k : ℕ) (x : A) {y : A} → y is_in set l k x → (y ≡ x) ⊎ (y is_in l)
  set_in [] k x m = absurd (Memᴰ.not-nil m)
  set_in (a ∷ l) zero x m = ⊎_elim inl (λ i. inr (Memᴰ.tail i)) (Memᴰ.cases_cons m)
  set_in (a ∷ l) (suc k) x m =
      ⊎_elim (λ e. inr (Memᴰ.head e)) (λ i. ⊎_elim inl (λ j. inr (Memᴰ.tail j)) (set_in l k x i)) (Memᴰ.cases_cons m)

  replicate_of : (n : ℕ) (x : A) {y : A} → y is_in replicate n x → y ≡ x
  replicate_of zero x m = absurd (Memᴰ.not-nil m)
  replicate_of (suc n) x m = ⊎_elim (λ e. e) (λ i. replicate_of n x i) (Memᴰ.cases_cons m)

-- ---- an event's turn
module _ (P : Occurrence → Type 0) (s : Setting) (nodes : List Node)
    (two : (a b : Occurrence) → P a → P b → P (combined_of s.clocks a b))
    (more : (o : Occurrence) (parts : List Occurrence) → All P (o ∷ parts) → P (combination_of s.clocks (o ∷ parts))) where
  abbrev Fine : ℕ → Progress → Type 0
  Fine i p = Kept P s.loggers (length nodes) i p

  abbrev BothOk : NodeLists → Type 0
  BothOk w = All P w.left × All P w.middle

  arrivals_keep : (kind : ℕ) (own : Occurrence) (made : List (List Occurrence)) (input : ℕ) → P own → ((l : List Occurrence) → l is_in made → All P l)
      → All P (arrivals_of kind own made input)
  unfolding arrivals_of
  arrivals_keep kind own made input h k =
      pick_all (All P) (ltb input 32768) _ _
      (pick_all (All P) (eqb input kind) _ _ (all_one P own h) (all_none P))
      (get_or_all (All P) made (input - 32768) [] k (all_none P))

  -- what a turn leaves
  turned_keeps : (i k : ℕ) (p : Progress) (t : Turned) → Fine i p → p.event ≡ i → TurnOk P s (length nodes) two more t → Fine i (turned k p t)
  unfolding turned
  turned_keeps i k p t q e w = record {
    waiting = λ x m. ⊎_elim (λ e. subst BothOk (sym e) (w.left, w.middle)) (q.waiting x) (set_in p.waiting k _ m);
    made = λ l m. ⊎_elim (q.made l) (λ i. subst (All P) (sym (Memᴰ.eq_of_singleton i)) w.emit.made) (Memᴰ.append_cases p.made m);
    written = w.emit.written;
    event = inr e;
  }

  node_keeps : (kind : ℕ) (own : Occurrence) → P own → (i k : ℕ) (p : Progress) → k < length nodes → Fine i p → Fine i (node_step s nodes kind own k p)
  unfolding node_step turn_at
  node_keeps kind own h i k p in-plan q = ⊎_elim stays goes (either_way (reached p.limit))
    where
      next : Progress
      next = turned k p (turn_at s nodes kind own k p)

      node : Node
      node = get_or nodes k no_node

      lists : BothOk (get_or p.waiting k no_lists)
      lists = get_or_all BothOk p.waiting k no_lists q.waiting (all_none P, all_none P)

      stays : reached p.limit ≡ true → Fine i (pick (reached p.limit) p next)
      stays e = rw e q

      goes : reached p.limit ≡ false → Fine i (pick (reached p.limit) p next)
      goes e =
          let same : p.event ≡ i = ⊎_elim (λ r. absurd (never_both r e)) (λ x. x) q.event in
          rw e (turned_keeps i k p _ q same
          (turn_keeps P s (length nodes) two more node k in-plan p.event _ _ _ p.findings p.bytes
          (λ l m. let (input, z, f) = map_of (arrivals_of kind own p.made) (inputs_of node) m in subst (All P) (sym f) (arrivals_keep kind own p.made input h q.made))
          lists.0 lists.1 q.written))

  -- the event is done
  closed_keeps : (i : ℕ) (p : Progress) → Fine i p → Fine (i + 1) (closed p)
  unfolding closed
  closed_keeps i p q = ⊎_elim stays goes (either_way (reached p.limit))
    where
      done : Progress
      done = record { limit = p.limit; event = p.event + 1; findings = p.findings; bytes = p.bytes; waiting = p.waiting; made = [] }

      stays : reached p.limit ≡ true → Fine (i + 1) (pick (reached p.limit) p done)
      stays e = rw e (record { waiting = q.waiting; made = q.made; written = q.written; event = inl e })

      goes : reached p.limit ≡ false → Fine (i + 1) (pick (reached p.limit) p done)
      goes e =
          let same : p.event ≡ i = ⊎_elim (λ r. absurd (never_both r e)) (λ x. x) q.event in
          rw e (record { waiting = q.waiting; made = λ l m. absurd (Memᴰ.not-nil m); written = q.written; event = inr (ap (λ x. x + 1) same) })

  -- an event whose own occurrence has the property
  event_keeps : (i : ℕ) (p : Progress) (e : Event) → P (of_event (stamp_of e) i) → Fine i p → Fine (i + 1) (event_step s nodes (length nodes) p e)
  unfolding event_step
  event_keeps i p e h q = ⊎_elim stays goes (either_way (reached p.limit))
    where
      next : Progress
      next = closed (loop (node_step s nodes e.kind (of_event (stamp_of e) p.event)) (length nodes) 0 p)

      stays : reached p.limit ≡ true → Fine (i + 1) (pick (reached p.limit) p next)
      stays r = rw r (record { waiting = q.waiting; made = q.made; written = q.written; event = inl r })

      goes : reached p.limit ≡ false → Fine (i + 1) (pick (reached p.limit) p next)
      goes r =
          let same : p.event ≡ i = ⊎_elim (λ x. absurd (never_both x r)) (λ x. x) q.event in
          let own : P (of_event (stamp_of e) p.event) = rw same h in
          rw r (closed_keeps i _ (loop_all (Fine i) _ (length nodes) 0 p q (λ k t in-plan z. node_keeps e.kind _ own i k t (omega (arith, in-plan)) z)))

  -- ---- the run over a list of events
  events_keep : (no_event : Event) (l : List Event) (i : ℕ) (p : Progress) → ((j : ℕ) → j < length l → P (of_event (stamp_of (get_or l j no_event)) (i + j))) → Fine i p
      → Fine (i + length l) (fold (event_step s nodes (length nodes)) l p)
  unfolding fold
  events_keep d [] i p h q = subst (λ n. Fine n p) (omega arith) q
  events_keep d (e ∷ l) i p h q =
      subst (λ n. Fine n (fold (event_step s nodes (length nodes)) l (event_step s nodes (length nodes) p e))) (omega arith)
      (events_keep d l (i + 1) (event_step s nodes (length nodes) p e)
      (λ j k. subst (λ n. P (of_event (stamp_of (get_or l j d)) n)) (omega arith) (h (suc j) (omega arith)))
      (event_keeps i p e (subst (λ n. P (of_event (stamp_of e) n)) (omega arith) (h 0 (omega arith))) q))

  start_keeps : Fine 0 start
  unfolding start findings_bytes
  start_keeps = record {
    waiting = λ w m. subst BothOk (sym (replicate_of 16 no_lists m)) (all_none P, all_none P);
    made = λ l m. absurd (Memᴰ.not-nil m);
    written = record { findings = []; many = refl; laid = refl; each = λ f m. absurd (Memᴰ.not-nil m) };
    event = inr refl;
  }

  run_keeps : (no_event : Event) (l : List Event) → ((j : ℕ) → j < length l → P (of_event (stamp_of (get_or l j no_event)) (0 + j)))
      → Fine (0 + length l) (fold (event_step s nodes (length nodes)) l start)
  run_keeps d l h = events_keep d l 0 start h start_keeps

-- ---- the theorem: for every output length, plan and list of events, after every event
pub run_exact : (room : ℕ) (plan : Plan) (events : List Event) → Placeable (map stamp_of events) → length events ≤ 128
    → (i : ℕ) → i ≤ length events
    → Kept (Exact (plan_clocks plan) (map stamp_of events)) (numbers_by_place plan.loggers) (length plan.nodes) i (run_of room plan (take i events))
unfolding run_of
run_exact room plan events small few i within =
    subst (λ n. Kept (Exact (plan_clocks plan) (map stamp_of events)) (numbers_by_place plan.loggers) (length plan.nodes) n (run_of room plan (take i events))) counted
    (run_keeps (Exact (plan_clocks plan) (map stamp_of events)) (setting_of room (plan_clocks plan) (numbers_by_place plan.loggers)) plan.nodes
    (exact_combined (plan_clocks plan) (map stamp_of events) small) (exact_combination (plan_clocks plan) (map stamp_of events) small)
    no_event (take i events) own)
  where
    no_event : Event
    no_event = record { kind = 0; logger = 0; tick = record { 0 = 0 } }

    counted : 0 + length (take i events) ≡ i
    counted = omega (arith, length-take i events)

    own : (j : ℕ) → j < length (take i events) → Exact (plan_clocks plan) (map stamp_of events) (of_event (stamp_of (get_or (take i events) j no_event)) (0 + j))
    own j h =
        let k : j < i = omega (arith, length-take i events) in
        let l : j < length events = omega arith in
        let m : j < length (map stamp_of events) = omega (arith, length-map events stamp_of) in
        let n : j < 128 = omega arith in
        let z : 0 + j ≡ j = omega arith in
        rw (z, get_or-take i events j no_event k, ← get_or_map stamp_of events j no_event blank_stamp l) (exact-event (plan_clocks plan) (map stamp_of events) small j n m)
