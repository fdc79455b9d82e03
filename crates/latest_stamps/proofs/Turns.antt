-- A property that combination keeps is kept by what a node makes, writes and lets wait.
use mathlib.Core.Bool.{Bool, true, false}
use mathlib.Core.List.Memᴰ
use mathlib.Core.List.{List, [], ◌∷◌, ◌++◌}
use mathlib.Core.Logic.{⊎_elim}
use mathlib.Core.Path.{refl, sym, ap, subst, ◌∙◌}
use Prim.Native.Nat.{ℕ, zero, suc, ◌+◌, ◌<◌}
use native.Mathlib.Omega.{arith}
use lib.ListN.{get_or, length, length-append}
use lib.Dec.{eqb, leb, ltb}
use Rattle.sequences.specs.Choice.{pick}
use Rattle.sequences.specs.Loops.{fold, loop}
use Rattle.sequences.specs.Marks.{marked, unmarked}
use Rattle.sequences.specs.Members.{◌is_in◌}
use Rattle.sequences.proofs.Marks.{marked_order, unmarked_order, order_in}
use Rattle.sequences.proofs.Members.{map_of}
use Rattle.sequences.proofs.Select.{filter_of}
use Rattle.occurrences.specs.declared.Occurrence.{Occurrence}
use Rattle.occurrences.specs.Combination.{combination_of, combined_of}
use Rattle.detections.specs.Views.{finding_of}
use Rattle.detections.proofs.Sizes.{findings-more}
use Rattle.waiting_lists.specs.Waiting.{appended_to, is_full}
use Rattle.contexts.specs.Made.{accumulated_of, accumulation_of, groups_of, is_between, made_of}
use Rattle.contexts.specs.Table.{Findings, each, together}
use Rattle.plans.specs.declared.Node.{Node}
use Rattle.emissions.specs.declared.Limit.{Limit}
use Rattle.emissions.specs.declared.Limit.TheVariants.{ListFull, NodeFull, OutputFull}
use Rattle.emissions.specs.Emissions.{Emitting, bytes_of, emitted, emitted_all, ended, reached}
use Rattle.arrivals.specs.Meetings.{Action, pass, wait, meet, meet_and_wait, delete, accumulate, absent, nothing, Arrival, Meeting, Setting, Sides, appended, carried_out, made_by, meeting_of}
use Rattle.operators.specs.Turns.{Turned, arrives, begun, in_order, input_turn, meeting_at, node_turn, sides_of, turned_of}
use Rattle.latest_stamps.specs.Written.{All, Written}

-- ---- lists and choices
pub pick_all : {A : Type 0} (Q : A → Type 0) (b : Bool) (x y : A) → Q x → Q y → Q (pick b x y)
pick_all Q true x y h k = h
pick_all Q false x y h k = k

pub fold_all : {S A : Type 0} (Q : S → Type 0) (f : S → A → S) (l : List A) (s : S) → Q s → ((s : S) (a : A) → a is_in l → Q s → Q (f s a)) → Q (fold f l s)
unfolding fold
fold_all Q f [] s q h = q
fold_all Q f (a ∷ l) s q h = fold_all Q f l (f s a) (h s a (Memᴰ.head refl) q) (λ t b m. h t b (Memᴰ.tail m))

module _ {A : Type 0} where
  pub get_or_all : (Q : A → Type 0) (l : List A) (k : ℕ) (d : A) → ((a : A) → a is_in l → Q a) → Q d → Q (get_or l k d)
  get_or_all Q [] k d h q = q
  get_or_all Q (a ∷ l) zero d h q = h a (Memᴰ.head refl)
  get_or_all Q (a ∷ l) (suc k) d h q = get_or_all Q l k d (λ b m. h b (Memᴰ.tail m)) q

  pub loop_all : (Q : A → Type 0) (f : ℕ → A → A) (n k : ℕ) (s : A) → Q s → ((j : ℕ) (t : A) → j < k + n → Q t → Q (f j t)) → Q (loop f n k s)
  unfolding loop
  loop_all Q f zero k s q h = q
  loop_all Q f (suc n) k s q h = loop_all Q f n (k + 1) (f k s) (h k s (omega arith) q) (λ j t i r. h j t (omega (arith, i)) r)

module _ (P : Occurrence → Type 0) where
  pub all_none : All P []
  all_none o m = absurd (Memᴰ.not-nil m)

  pub all_one : (o : Occurrence) → P o → All P (o ∷ [])
  all_one o h x m = subst P (sym (Memᴰ.eq_of_singleton m)) h

  pub all_append : (l m : List Occurrence) → All P l → All P m → All P (l ++ m)
  all_append l m h k o i = ⊎_elim (h o) (k o) (Memᴰ.append_cases l i)

  pub all_cons : (o : Occurrence) (l : List Occurrence) → P o → All P l → All P (o ∷ l)
  all_cons o l h k x m = ⊎_elim (λ e. subst P (sym e) h) (k x) (Memᴰ.cases_cons m)

-- ---- a node's turn
module _ (P : Occurrence → Type 0) (s : Setting) (n : ℕ)
    (two : (a b : Occurrence) → P a → P b → P (combined_of s.clocks a b))
    (more : (o : Occurrence) (parts : List Occurrence) → All P (o ∷ parts) → P (combination_of s.clocks (o ∷ parts))) where
  pub record Emits (e : Emitting) : Type 0 where
    pub made : All P e.made
    pub written : Written P s.loggers n e.findings e.bytes

  pub record SidesOk (m : Sides) : Type 0 where
    pub own : All P m.own
    pub other : All P m.other
    pub emit : Emits m.emit

  pub record TurnOk (t : Turned) : Type 0 where
    pub left : All P t.left
    pub middle : All P t.middle
    pub emit : Emits t.emit

  ended_keeps : (e : Emitting) (l : Limit) → Emits e → Emits (ended e l)
  ended_keeps e l h = record { made = h.made; written = h.written }

  -- one more finding at the end of the bytes
  written-more : (place count : ℕ) (bytes : List ℕ) (o : Occurrence) → place < n → P o → Written P s.loggers n count bytes
      → Written P s.loggers n (count + 1) (bytes ++ bytes_of s.loggers place o)
  written-more place count bytes o k h w =
      let f = finding_of s.loggers place o.latest o.events in
      record {
        findings = w.findings ++ (f ∷ []);
        many = length-append w.findings (f ∷ []) ∙ ap (λ x. x + 1) w.many;
        laid = rw w.laid (sym (findings-more w.findings f));
        each = λ g m. ⊎_elim (w.each g)
            (λ i. record { place = place; node = k; made = o; same = Memᴰ.eq_of_singleton i; holds = h })
            (Memᴰ.append_cases w.findings m);
      }

  module _ (node : Node) (place : ℕ) (in-plan : place < n) where
    emitted_keeps : (e : Emitting) (o : Occurrence) → P o → Emits e → Emits (emitted s.room s.loggers place e o)
    unfolding emitted
    emitted_keeps e o h k =
        pick_all Emits (reached e.limit) _ _ k
        (pick_all Emits (leb 8 (length e.made)) _ _ (ended_keeps e NodeFull k)
        (pick_all Emits (ltb s.room _) _ _ (ended_keeps e OutputFull k)
        (record {
          made = all_append P e.made (o ∷ []) k.made (all_one P o h);
          written = written-more place e.findings e.bytes o in-plan h k.written;
        })))

    emitted_all_keeps : (e : Emitting) (l : List Occurrence) → All P l → Emits e → Emits (emitted_all s.room s.loggers place e l)
    unfolding emitted_all
    emitted_all_keeps e l h k = fold_all Emits _ l e k (λ f o m q. emitted_keeps f o (h o m) q)

    made_keeps : (x : Findings) (those : List Occurrence) (o : Occurrence) → All P those → P o → All P (made_of x s.clocks those o)
    unfolding made_of
    made_keeps each those o h k = λ p m. let (w, i, e) = map_of (λ w. combined_of s.clocks w o) those m in subst P (sym e) (two w o (h w i) k)
    made_keeps together [] o h k = all_none P
    made_keeps together (w ∷ those) o h k = all_one P _ (more o (w ∷ those) (all_cons P o (w ∷ those) k h))

    -- what is accumulated: the arrival, the lefts of a finding and the middles between
    accumulation_keeps : (lefts middles : List Occurrence) (o : Occurrence) → All P lefts → All P middles → P o → P (accumulation_of s.clocks lefts middles o)
    unfolding accumulation_of
    accumulation_keeps lefts middles o h g k =
        more o _ (all_cons P o _ k (all_append P lefts _ h (λ x m. g x (filter_of (is_between s.clocks lefts o) middles m).0)))

    groups_keep : (x : Findings) (those : List Occurrence) → All P those → (lefts : List Occurrence) → lefts is_in groups_of x those → All P lefts
    unfolding groups_of
    groups_keep each those h lefts m = let (w, i, e) = map_of (λ w. w ∷ []) those m in subst (All P) (sym e) (all_one P w (h w i))
    groups_keep together [] h lefts m = absurd (Memᴰ.not-nil m)
    groups_keep together (w ∷ those) h lefts m = subst (All P) (sym (Memᴰ.eq_of_singleton m)) h

    accumulated_keeps : (x : Findings) (those middles : List Occurrence) (o : Occurrence) → All P those → All P middles → P o → All P (accumulated_of x s.clocks those middles o)
    unfolding accumulated_of
    accumulated_keeps x those middles o h g k = λ p m.
        let (lefts, i, e) = map_of (λ lefts. accumulation_of s.clocks lefts middles o) (groups_of x those) m in
        subst P (sym e) (accumulation_keeps lefts middles o (groups_keep x those h lefts i) g k)

    -- what a meeting makes: a line for each action
    meeting_makes : (action : Action) (x : Findings) (own those : List Occurrence) (o : Occurrence) → All P own → All P those → P o → All P (made_by action x s.clocks own those o)
    unfolding made_by
    meeting_makes pass x own those o g h k = all_one P o k
    meeting_makes wait x own those o g h k = all_none P
    meeting_makes meet x own those o g h k = made_keeps x those o h k
    meeting_makes meet_and_wait x own those o g h k = made_keeps x those o h k
    meeting_makes delete x own those o g h k = all_none P
    meeting_makes accumulate x own those o g h k = accumulated_keeps x those own o h g k
    meeting_makes absent x own those o g h k = made_keeps x those o h k
    meeting_makes nothing x own those o g h k = all_none P

    -- its working
    appended_keeps : (own other : List Occurrence) (e : Emitting) (o : Occurrence) → All P own → All P other → P o → Emits e → SidesOk (appended own other e o)
    unfolding appended appended_to
    appended_keeps own other e o h g k q = record {
      own = pick_all (All P) (is_full own) _ _ h (all_append P own (o ∷ []) h (all_one P o k));
      other = g;
      emit = pick_all Emits (is_full own) _ _ (ended_keeps e ListFull q) q;
    }

    carried_keeps : (e : Emitting) (m : Meeting) → All P m.own → All P m.other → All P m.made → P m.arrival.occurrence → Emits e
        → SidesOk (carried_out s place e m)
    unfolding carried_out
    carried_keeps e m h g k o q =
        let w = emitted_all_keeps e m.made k q in
        let own : All P (unmarked m.own m.cleared) = λ x i. h x (order_in (unmarked_order m.own m.cleared) i) in
        let other : All P (unmarked m.other m.removed) = λ x i. g x (order_in (unmarked_order m.other m.removed) i) in
        pick_all SidesOk (reached (emitted_all s.room s.loggers place e m.made).limit) _ _ (record { own = h; other = g; emit = w })
        (pick_all SidesOk m.waits _ _ (appended_keeps (unmarked m.own m.cleared) _ _ m.arrival.occurrence own other o w) (record { own = own; other = other; emit = w }))

    -- an arrival
    sides_keep : (input : ℕ) (t : Turned) → TurnOk t → SidesOk (sides_of input t)
    unfolding sides_of
    sides_keep input t q =
        pick_all SidesOk (eqb input 0) _ _ (record { own = q.left; other = q.middle; emit = q.emit }) (record { own = q.middle; other = q.left; emit = q.emit })

    turned_back_lem : (input : ℕ) (x : Sides) → SidesOk x → TurnOk (turned_of input x)
    unfolding turned_of
    turned_back_lem input x q =
        pick_all TurnOk (eqb input 0) _ _ (record { left = q.own; middle = q.other; emit = q.emit }) (record { left = q.other; middle = q.own; emit = q.emit })

    arrives_keeps : (t : Turned) (a : Arrival) → TurnOk t → P a.occurrence → TurnOk (arrives s node place t a)
    unfolding arrives meeting_at meeting_of
    arrives_keeps t a q k =
        let x = sides_keep a.input t q in
        let those : All P (marked (sides_of a.input t).other (meeting_at s node t a).taken) = λ y m. x.other y (order_in (marked_order (sides_of a.input t).other (meeting_at s node t a).taken) m) in
        pick_all TurnOk (reached t.emit.limit) _ _ q
        (turned_back_lem a.input _ (carried_keeps t.emit (meeting_at s node t a) x.own x.other (meeting_makes _ _ _ _ a.occurrence x.own those k) k q.emit))

    -- the turn
    in_order_all : (event input i : ℕ) (l : List Occurrence) → All P l → (a : Arrival) → a is_in in_order event input i l → P a.occurrence
    unfolding in_order
    in_order_all event input i [] h a m = absurd (Memᴰ.not-nil m)
    in_order_all event input i (o ∷ l) h a m = ⊎_elim
        (λ e. subst (λ x. P x.occurrence) (sym e) (h o (Memᴰ.head refl)))
        (in_order_all event input (i + 1) l (λ x j. h x (Memᴰ.tail j)) a) (Memᴰ.cases_cons m)

    input_keeps : (event input : ℕ) (l : List Occurrence) (t : Turned) → All P l → TurnOk t → TurnOk (input_turn s node place event input l t)
    unfolding input_turn
    input_keeps event input l t h q = fold_all TurnOk (arrives s node place) _ t q (λ u a m z. arrives_keeps u a z (in_order_all event input 0 l h a m))

    pub turn_keeps : (event : ℕ) (inputs : List (List Occurrence)) (left middle : List Occurrence) (findings : ℕ) (bytes : List ℕ)
        → ((l : List Occurrence) → l is_in inputs → All P l) → All P left → All P middle → Written P s.loggers n findings bytes
        → TurnOk (node_turn s node place event inputs (begun left middle findings bytes))
    unfolding node_turn
    turn_keeps event inputs left middle findings bytes h l r w =
        loop_all TurnOk _ (length inputs) 0 _ (record { left = l; middle = r; emit = record { made = all_none P; written = w } })
        (λ i t j q. input_keeps event i (get_or inputs i []) t (get_or_all (All P) inputs i [] h (all_none P)) q)
