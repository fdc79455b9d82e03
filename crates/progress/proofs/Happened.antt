-- The run's findings and their bytes come from what happened, and so do its waiting lists where no limit is met.
use mathlib.Core.Bool.{Bool, true, false}
use mathlib.Core.List.{List, [], ◌∷◌, ◌++◌, append-nil, append_assoc, flat_map, map, map-append}
use mathlib.Core.Logic.{◌⊎◌, inl, inr, ⊎_elim}
use mathlib.Core.Path.{◌≡◌, refl, sym, ap, ap₂, subst, ◌∙◌}
use Prim.Native.Nat.{ℕ, zero, suc, ◌+◌, ◌<◌, ◌≤◌}
use native.Mathlib.Decide.{ℕ_discrete}
use native.Mathlib.Omega.{arith}
use lib.Dec.{eqb, leb, ltb}
use lib.ListN.{get_or, length, replicate, set, length-append, length-map, length-set}
use lib.Seq.{get_or-set_same, get_or-set_other}
use borrow.Author.Tests.{eq-eqb, ne_eqb}
use Rattle.sequences.specs.Choice.{pick}
use Rattle.sequences.specs.Loops.{fold, loop}
use Rattle.sequences.specs.Marks.{unmarked}
use Rattle.sequences.proofs.Booleans.{either_way, never_both}
use Rattle.sequences.proofs.Loops.{fold-append}
use Rattle.occurrences.specs.declared.Occurrence.{Occurrence}
use Rattle.occurrences.specs.Occurrences.{of_event}
use Rattle.detections.specs.Findings.{findings_bytes}
use Rattle.detections.proofs.Sizes.{findings-append}
use Rattle.waiting_lists.specs.Waiting.{appended_to, is_full}
use Rattle.plans.specs.declared.Node.{Node}
use Rattle.plans.specs.Layout.{Plan, inputs_of, plan_clocks}
use Rattle.plans.specs.Limits.{no_node}
use Rattle.passages.specs.declared.Event.{Event}
use Rattle.emissions.specs.Emissions.{Emitting, bytes_of, emitted, emitted_all, reached}
use Rattle.emissions.proofs.Limits.{emitted_all_still}
use Rattle.arrivals.specs.Meetings.{Arrival, Meeting, Setting, Sides, appended, carried_out, meeting_of, setting_of, sides}
use Rattle.operators.specs.Turns.{Turned, arrives, begun, in_order, input_turn, meeting_at, node_turn, sides_of, turned_of}
use Rattle.progress.specs.Progress.{NodeLists, Progress, arrivals_of, closed, event_step, no_lists, node_step, numbers_by_place, run_of, stamp_of, start, turn_at, turned}
use Rattle.progress.specs.Happened.{ComesFrom, FirstOf, Happened, Made, all_made, at_node, finding_from, fold_tells, happened, in_arrival, in_event, in_input, in_turn, lists_after, lists_from, loop_tells, other_after, own_after}

-- ---- a state beside what has happened so far
module _ {H S : Type 0} (Q : List H → S → Type 0) where
  fold_tells_lem : {A : Type 0} (f : S → A → S) (g : S → A → List H) → ((l : List H) (s : S) (a : A) → Q l s → Q (l ++ g s a) (f s a))
      → (xs : List A) (l : List H) (s : S) → Q l s → Q (l ++ fold_tells f g xs s) (fold f xs s)
  unfolding fold fold_tells
  fold_tells_lem f g h [] l s q = subst (λ x. Q x s) (sym (append-nil l)) q
  fold_tells_lem f g h (a ∷ xs) l s q =
      subst (λ x. Q x (fold f xs (f s a))) (append_assoc l (g s a) (fold_tells f g xs (f s a))) (fold_tells_lem f g h xs (l ++ g s a) (f s a) (h l s a q))

  loop_tells_lem : (f : ℕ → S → S) (g : ℕ → S → List H) (n k : ℕ) → ((j : ℕ) (l : List H) (s : S) → j < k + n → Q l s → Q (l ++ g j s) (f j s))
      → (l : List H) (s : S) → Q l s → Q (l ++ loop_tells f g n k s) (loop f n k s)
  unfolding loop loop_tells
  loop_tells_lem f g zero k h l s q = subst (λ x. Q x s) (sym (append-nil l)) q
  loop_tells_lem f g (suc n) k h l s q =
      subst (λ x. Q x (loop f n (k + 1) (f k s))) (append_assoc l (g k s) (loop_tells f g n (k + 1) (f k s)))
      (loop_tells_lem f g n (k + 1) (λ j m t i. h j m t (omega (arith, i))) (l ++ g k s) (f k s) (h k l s (omega arith) q))

  -- after a limit nothing happens
  by_limit : (b : Bool) (l x : List H) (s t : S) → Q l s → (b ≡ false → Q (l ++ x) t) → Q (l ++ pick b [] x) (pick b s t)
  by_limit true l x s t q h = subst (λ x. Q x s) (sym (append-nil l)) q
  by_limit false l x s t q h = h refl

-- ---- what is written of findings one after the other: the first of them, and all of them where no limit is met
abbrev found : ℕ → Occurrence → Made
found place o = record { node = place; occurrence = o }

module _ (room : ℕ) (loggers : List ℕ) (place : ℕ) where
  abbrev OneMore : Emitting → Occurrence → Emitting → Type 0
  OneMore e o f = ((f.findings ≡ e.findings + 1) × (f.bytes ≡ e.bytes ++ bytes_of loggers place o))
      ⊎ ((f.findings ≡ e.findings) × (f.bytes ≡ e.bytes) × (reached f.limit ≡ true))

  one_by : (a b c : Bool) (e : Emitting) (o : Occurrence) → reached e.limit ≡ a → leb 8 (length e.made) ≡ b
      → ltb room (length e.bytes + length (bytes_of loggers place o)) ≡ c → OneMore e o (emitted room loggers place e o)
  unfolding emitted
  one_by true b c e o p q r = rw p (inr (refl, refl, p))
  one_by false true c e o p q r = rw (p, q) (inr (refl, refl, refl))
  one_by false false true e o p q r = rw (p, q, r) (inr (refl, refl, refl))
  one_by false false false e o p q r = rw (p, q, r) (inl (refl, refl))

  record Firsts (e : Emitting) (l : List Occurrence) (f : Emitting) : Type 0 where
    first : List Occurrence
    rest : List Occurrence
    split : l ≡ first ++ rest
    count : f.findings ≡ e.findings + length first
    laid : f.bytes ≡ e.bytes ++ findings_bytes (map (finding_from loggers) (map (found place) first))
    whole : reached f.limit ≡ false → rest ≡ []

  none_written : (e : Emitting) (l : List Occurrence) (f : Emitting) → f.findings ≡ e.findings → f.bytes ≡ e.bytes → (reached f.limit ≡ false → l ≡ []) → Firsts e l f
  unfolding findings_bytes
  none_written e l f m b w = record { first = []; rest = l; split = refl; count = omega (arith, m); laid = b ∙ sym (append-nil e.bytes); whole = w }

  one_written : (e : Emitting) (o : Occurrence) (l : List Occurrence) (d f : Emitting) → d.findings ≡ e.findings + 1 → d.bytes ≡ e.bytes ++ bytes_of loggers place o
      → Firsts d l f → Firsts e (o ∷ l) f
  unfolding findings_bytes
  one_written e o l d f m b w = record {
    first = o ∷ w.first;
    rest = w.rest;
    split = ap (λ x. o ∷ x) w.split;
    count = omega (arith, m, w.count);
    laid = w.laid ∙ ap (λ x. x ++ findings_bytes (map (finding_from loggers) (map (found place) w.first))) b
        ∙ append_assoc e.bytes (bytes_of loggers place o) (findings_bytes (map (finding_from loggers) (map (found place) w.first)));
    whole = w.whole;
  }

  first-written : (l : List Occurrence) (e : Emitting) → Firsts e l (emitted_all room loggers place e l)
  unfolding emitted_all fold
  first-written [] e = none_written e [] e refl refl (λ z. refl)
  first-written (o ∷ l) e =
      let d = emitted room loggers place e o in
      ⊎_elim (λ g. one_written e o l d (emitted_all room loggers place d l) g.0 g.1 (first-written l d))
      (λ g. let still = emitted_all_still room loggers place d g.2 l in
      none_written e (o ∷ l) (emitted_all room loggers place d l) (ap (λ x. x.findings) still ∙ g.0) (ap (λ x. x.bytes) still ∙ g.1)
      (λ z. absurd (never_both (ap (λ x. reached x.limit) still ∙ g.2) z)))
      (one_by _ _ _ e o refl refl refl)

-- ---- a meeting carried out
module _ (s : Setting) (place : ℕ) (e : Emitting) (m : Meeting) where
  abbrev wrote : Emitting
  wrote = emitted_all s.room s.loggers place e m.made

  abbrev after : Sides
  after = sides (own_after m m.own) (other_after m m.other) wrote

  record Carried (x : Sides) : Type 0 where
    findings : x.emit.findings ≡ wrote.findings
    bytes : x.emit.bytes ≡ wrote.bytes
    unlimited : reached x.emit.limit ≡ false → reached wrote.limit ≡ false
    lists : reached x.emit.limit ≡ false → x ≡ after

  carried_by : (r w f : Bool) → reached wrote.limit ≡ r → m.waits ≡ w → is_full (unmarked m.own m.cleared) ≡ f → Carried (carried_out s place e m)
  unfolding carried_out appended appended_to
  carried_by true w f p q z = rw p (record { findings = refl; bytes = refl; unlimited = λ h. h; lists = λ h. absurd (never_both p h) })
  carried_by false false f p q z = rw (p, q) (record { findings = refl; bytes = refl; unlimited = λ h. h; lists = λ h. rw (append-nil (unmarked m.own m.cleared)) })
  carried_by false true false p q z = rw (p, q, z) (record { findings = refl; bytes = refl; unlimited = λ h. h; lists = λ h. refl })
  carried_by false true true p q z =
      rw (p, q, z) (record { findings = refl; bytes = refl; unlimited = λ h. p; lists = λ h. absurd (never_both {b = true} refl h) })

-- ---- one meeting more
lists-more : (k : ℕ) (l : List Happened) (h : Happened) → lists_from k (l ++ (h ∷ [])) ≡ pick (eqb h.node k) (lists_after (lists_from k l) h.meeting) (lists_from k l)
unfolding lists_from fold
lists-more k l h = fold-append (λ w h. pick (eqb h.node k) (lists_after w h.meeting) w) l (h ∷ []) no_lists

lists-here : (k : ℕ) (l : List Happened) (m : Meeting) → lists_from k (l ++ (record { node = k; meeting = m } ∷ [])) ≡ lists_after (lists_from k l) m
lists-here k l m = lists-more k l (record { node = k; meeting = m }) ∙ rw (eq-eqb k k refl)

lists-elsewhere : (k : ℕ) (l : List Happened) (h : Happened) → (h.node ≡ k → ⊥) → lists_from k (l ++ (h ∷ [])) ≡ lists_from k l
lists-elsewhere k l h n = lists-more k l h ∙ rw (ne_eqb h.node k n)

made_more : (place : ℕ) (l : List Happened) (m : Meeting)
    → all_made (l ++ (record { node = place; meeting = m } ∷ [])) ≡ all_made l ++ map (found place) m.made
unfolding all_made flat_map
made_more place [] m = append-nil (map (found place) m.made)
made_more place (h ∷ l) m =
    let each : List Made = map (found h.node) h.meeting.made in
    ap (λ x. each ++ x) (made_more place l m) ∙ sym (append_assoc each (all_made l) (map (found place) m.made))

-- ---- a node's turn
abbrev lists_in : Turned → NodeLists
lists_in t = record { left = t.left; middle = t.middle }

turned-emit : (input : ℕ) (x : Sides) → (turned_of input x).emit ≡ x.emit
unfolding turned_of
turned-emit input x = ⊎_elim (λ e. rw e) (λ e. rw e) (either_way (eqb input 0))

module _ (s : Setting) where
  abbrev Writes : List Happened → Emitting → Type 0
  Writes l e = FirstOf s.loggers l e.limit e.findings e.bytes

  -- at place k, in the turn: its own lists, those of the others as they were, and what was written
  record InTurn (k : ℕ) (p : Progress) (l : List Happened) (t : Turned) : Type 0 where
    own : reached t.emit.limit ≡ false → lists_in t ≡ lists_from k l
    others : reached t.emit.limit ≡ false → (i : ℕ) → (k ≡ i → ⊥) → get_or p.waiting i no_lists ≡ lists_from i l
    writes : Writes l t.emit

  -- findings one after the other, where no limit was met before
  more-written : (k : ℕ) (l : List Happened) (m : Meeting) (e f : Emitting) → reached e.limit ≡ false → Firsts s.room s.loggers k e m.made f → Writes l e
      → Writes (l ++ (record { node = k; meeting = m } ∷ [])) f
  more-written k l m e f go w q =
      let finding = finding_from s.loggers in
      let first = map (found k) w.first in
      let rest = map (found k) w.rest in
      let before : all_made l ≡ q.written = q.made ∙ ap (λ x. q.written ++ x) (q.whole go) ∙ append-nil q.written in
      record {
        written = q.written ++ first;
        unwritten = rest;
        made = made_more k l m ∙ ap₂ (λ x y. x ++ y) before (ap (map (found k)) w.split ∙ map-append (found k) w.first w.rest) ∙ sym (append_assoc q.written first rest);
        count = w.count ∙ ap₂ (λ x y. x + y) q.count (sym (length-map w.first (found k))) ∙ sym (length-append q.written first);
        laid = w.laid ∙ ap (λ x. x ++ findings_bytes (map finding first)) q.laid ∙ sym (findings-append (map finding q.written) (map finding first))
            ∙ ap findings_bytes (sym (map-append finding q.written first));
        whole = λ z. ap (map (found k)) (w.whole z);
      }

  module _ (node : Node) (k : ℕ) (p : Progress) where
    module _ (l : List Happened) (t : Turned) (a : Arrival) where
      abbrev m : Meeting
      m = meeting_at s node t a

      abbrev x : Sides
      x = carried_out s k t.emit m

      lists_by : (b : Bool) → eqb a.input 0 ≡ b → lists_in (turned_of a.input (after s k t.emit m)) ≡ lists_after (lists_in t) m
      unfolding turned_of lists_after meeting_at meeting_of sides_of
      lists_by true y = rw y
      lists_by false y = rw y

      writes_on : reached t.emit.limit ≡ false → Writes l t.emit → Writes (l ++ (record { node = k; meeting = m } ∷ [])) x.emit
      writes_on go q =
          let c = carried_by s k t.emit m _ _ _ refl refl refl in
          let w = more-written k l m t.emit (wrote s k t.emit m) go (first-written s.room s.loggers k m.made t.emit) q in
          record { written = w.written; unwritten = w.unwritten; made = w.made; count = c.findings ∙ w.count; laid = c.bytes ∙ w.laid; whole = λ z. w.whole (c.unlimited z) }

      step : reached t.emit.limit ≡ false → InTurn k p l t → InTurn k p (l ++ (record { node = k; meeting = m } ∷ [])) (turned_of a.input x)
      step go q =
          let c = carried_by s k t.emit m _ _ _ refl refl refl in
          let same = turned-emit a.input x in
          record {
            own = λ z. ap (λ y. lists_in (turned_of a.input y)) (c.lists (ap (λ e. reached e.limit) (sym same) ∙ z)) ∙ lists_by _ refl
                ∙ ap (λ w. lists_after w m) (q.own go) ∙ sym (lists-here k l m);
            others = λ z i n. q.others go i n ∙ sym (lists-elsewhere i l (record { node = k; meeting = m }) n);
            writes = subst (Writes (l ++ (record { node = k; meeting = m } ∷ []))) (sym same) (writes_on go q.writes);
          }

      arrives_tells : InTurn k p l t → InTurn k p (l ++ in_arrival s node k t a) (arrives s node k t a)
      unfolding arrives in_arrival
      arrives_tells q = by_limit (InTurn k p) (reached t.emit.limit) l (record { node = k; meeting = m } ∷ []) t (turned_of a.input x) q (λ go. step go q)

    input_tells : (event input : ℕ) (o : List Occurrence) (l : List Happened) (t : Turned) → InTurn k p l t
        → InTurn k p (l ++ in_input s node k event input o t) (input_turn s node k event input o t)
    unfolding input_turn in_input
    input_tells event input o l t q = fold_tells_lem (InTurn k p) (arrives s node k) (in_arrival s node k) arrives_tells (in_order event input 0 o) l t q

    turn_tells : (event : ℕ) (inputs : List (List Occurrence)) (l : List Happened) (t : Turned) → InTurn k p l t
        → InTurn k p (l ++ in_turn s node k event inputs t) (node_turn s node k event inputs t)
    unfolding node_turn in_turn
    turn_tells event inputs l t q =
        loop_tells_lem (InTurn k p) (λ i. input_turn s node k event i (get_or inputs i [])) (λ i. in_input s node k event i (get_or inputs i [])) (length inputs) 0
        (λ i m u h. input_tells event i (get_or inputs i []) m u) l t q

  -- ---- the run
  record Told (l : List Happened) (p : Progress) : Type 0 where
    size : length p.waiting ≡ 16
    from : ComesFrom s.loggers l p

  begun_tells : (k : ℕ) (l : List Happened) (p : Progress) → reached p.limit ≡ false → Told l p
      → InTurn k p l (begun (get_or p.waiting k no_lists).left (get_or p.waiting k no_lists).middle p.findings p.bytes)
  begun_tells k l p go q =
      let w = q.from.findings in
      record {
        own = λ z. q.from.waiting go k;
        others = λ z i n. q.from.waiting go i;
        writes = record { written = w.written; unwritten = w.unwritten; made = w.made; count = w.count; laid = w.laid; whole = λ z. w.whole go };
      }

  turned_tells : (k : ℕ) (l : List Happened) (p : Progress) (t : Turned) → k < 16 → length p.waiting ≡ 16 → InTurn k p l t → Told l (turned k p t)
  unfolding turned
  turned_tells k l p t few size q = record {
    size = length-set p.waiting k (lists_in t) ∙ size;
    from = record { findings = q.writes; waiting = waiting };
  }
    where
      waiting : reached t.emit.limit ≡ false → (i : ℕ) → get_or (set p.waiting k (lists_in t)) i no_lists ≡ lists_from i l
      waiting z i = elim (ℕ_discrete k i) [
        | yes e ↦ subst (λ j. get_or (set p.waiting k (lists_in t)) j no_lists ≡ lists_from j l) e
            (get_or-set_same p.waiting k (lists_in t) no_lists (omega (arith, size)) ∙ q.own z)
        | no n ↦ get_or-set_other p.waiting k i (lists_in t) no_lists (λ e. n (sym e)) ∙ q.others z i n
      ]

  module _ (nodes : List Node) (few : length nodes ≤ 16) where
    node_tells : (kind : ℕ) (own : Occurrence) (k : ℕ) (l : List Happened) (p : Progress) → k < length nodes → Told l p
        → Told (l ++ at_node s nodes kind own k p) (node_step s nodes kind own k p)
    unfolding node_step at_node turn_at
    node_tells kind own k l p h q =
        let node = get_or nodes k no_node in
        let lists = get_or p.waiting k no_lists in
        let inputs = map (arrivals_of kind own p.made) (inputs_of node) in
        let t = begun lists.left lists.middle p.findings p.bytes in
        by_limit Told (reached p.limit) l (in_turn s node k p.event inputs t) p (turned k p (node_turn s node k p.event inputs t)) q
        (λ go. turned_tells k _ p _ (omega (arith, h, few)) q.size (turn_tells node k p p.event inputs l t (begun_tells k l p go q)))

    closed_tells : (l : List Happened) (p : Progress) → Told l p → Told l (closed p)
    unfolding closed
    closed_tells l p q =
        let w = q.from in
        ⊎_elim (λ e. rw e q) (λ e. rw e (record { size = q.size; from = record { findings = w.findings; waiting = w.waiting } })) (either_way (reached p.limit))

    event_tells : (l : List Happened) (p : Progress) (e : Event) → Told l p → Told (l ++ in_event s nodes (length nodes) p e) (event_step s nodes (length nodes) p e)
    unfolding event_step in_event
    event_tells l p e q =
        let own = of_event (stamp_of e) p.event in
        by_limit Told (reached p.limit) l (loop_tells (node_step s nodes e.kind own) (at_node s nodes e.kind own) (length nodes) 0 p) p
        (closed (loop (node_step s nodes e.kind own) (length nodes) 0 p)) q
        (λ go. closed_tells _ _ (loop_tells_lem Told (node_step s nodes e.kind own) (at_node s nodes e.kind own) (length nodes) 0
        (λ k m r h. node_tells e.kind own k m r (omega (arith, h))) l p q))

  start_tells : Told [] start
  unfolding start lists_from all_made flat_map fold findings_bytes
  start_tells = record {
    size = refl;
    from = record {
      findings = record { written = []; unwritten = []; made = refl; count = refl; laid = refl; whole = λ z. refl };
      waiting = λ z. get_d_replicate 16;
    };
  }
    where
      get_d_replicate : (n k : ℕ) → get_or (replicate n no_lists) k no_lists ≡ no_lists
      get_d_replicate zero k = refl
      get_d_replicate (suc n) zero = refl
      get_d_replicate (suc n) (suc k) = get_d_replicate n k

-- for every plan of at most 16 nodes, every passage and every output length
module _ (room : ℕ) (plan : Plan) (events : List Event) (few : length plan.nodes ≤ 16) where
  pub run_from : ComesFrom (numbers_by_place plan.loggers) (happened room plan events) (run_of room plan events)
  unfolding run_of happened
  run_from =
      let s = setting_of room (plan_clocks plan) (numbers_by_place plan.loggers) in
      (fold_tells_lem (Told s) (event_step s plan.nodes (length plan.nodes)) (in_event s plan.nodes (length plan.nodes))
      (event_tells s plan.nodes few) events [] start (start_tells s)).from

  -- where no limit is met, all that was made is written
  pub all_written : reached (run_of room plan events).limit ≡ false
      → ((run_of room plan events).findings ≡ length (all_made (happened room plan events)))
      × ((run_of room plan events).bytes ≡ findings_bytes (map (finding_from (numbers_by_place plan.loggers)) (all_made (happened room plan events))))
  all_written z =
      let w = run_from.findings in
      let same : w.written ≡ all_made (happened room plan events) = sym (w.made ∙ ap (λ x. w.written ++ x) (w.whole z) ∙ append-nil w.written) in
      (w.count ∙ ap length same, w.laid ∙ ap (λ x. findings_bytes (map (finding_from (numbers_by_place plan.loggers)) x)) same)
