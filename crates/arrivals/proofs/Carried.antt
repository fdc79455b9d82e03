-- What a meeting comes to when it is carried out, by what the arrival does.
use mathlib.Core.Bool.{Bool, true, false}
use mathlib.Core.List.{List, [], ◌∷◌}
use mathlib.Core.Path.{◌≡◌, refl, sym, ap, ◌∙◌}
use Prim.Native.Nat.{ℕ, ◌≤◌}
use native.Mathlib.Omega.{arith}
use Rattle.sequences.specs.Choice.{pick}
use Rattle.sequences.specs.Marks.{marked, padded, unmarked}
use Rattle.sequences.proofs.Loops.{fold-none, fold_next}
use Rattle.sequences.proofs.Marks.{unmarked-padded}
use Rattle.occurrences.specs.declared.Occurrence.{Occurrence}
use Rattle.contexts.specs.Choice.{chosen, seq_candidates}
use Rattle.contexts.specs.Made.{accumulated_of, made_of}
use Rattle.contexts.specs.Table.{Context}
use Rattle.std.specs.Prelude.{None}
use Rattle.emissions.specs.Emissions.{Emitting, emitted, emitted_all, reached}
use Rattle.arrivals.specs.Meetings.{Action, Arrival, Meeting, Setting, Sides, action_from, appended, candidates_of, carried_out, cleared_by, made_by, meeting_of, removed_by, sides, waits_by}
use Rattle.arrivals.specs.Views.{Looks}
use Rattle.arrivals.proofs.Actions.{by_code, is_accumulate, is_delete, is-nothing, is_pass, is_wait, none-marked}
use Rattle.contexts.proofs.Choices.{none-removed}

-- without marks all are left
unmarked-none : (l : List Occurrence) → unmarked l (padded 16 []) ≡ l
unfolding unmarked
unmarked-none l = unmarked-padded 16 [] l ∙ no_marks l
  where
    no_marks : (l : List Occurrence) → unmarked l [] ≡ l
    no_marks [] = refl
    no_marks (a ∷ l) = refl

pick_same : {A : Type 0} (b : Bool) (x y : A) → y ≡ x → pick b x y ≡ x
pick_same true x y e = refl
pick_same false x y e = e

module _ (s : Setting) (place : ℕ) (row : Context) (own other : List Occurrence) (e : Emitting) (a : Arrival) where
  abbrev o : Occurrence
  o = a.occurrence

  abbrev carried : Action → Sides
  carried x = carried_out s place e (meeting_of x row s.clocks own other a)

  other-same : unmarked other (chosen row s.clocks other (padded 16 [])).removed ≡ other
  other-same = none-removed row s.clocks other (padded 16 []) (none-marked other)

  -- it is passed on
  pub carried_pass : (code : ℕ) → code ≡ 0 → sides own other (emitted s.room s.loggers place e o) ≡ carried (action_from code)
  unfolding carried_out meeting_of candidates_of made_by removed_by cleared_by waits_by emitted_all
  carried_pass code z =
      let one = fold_next (emitted s.room s.loggers place) o [] e ∙ fold-none (emitted s.room s.loggers place) (emitted s.room s.loggers place e o) in
      rw (is_pass code z, one, other-same, unmarked-none own) (sym (pick_same (reached (emitted s.room s.loggers place e o).limit) (sides own other (emitted s.room s.loggers place e o)) _ refl))

  -- it waits
  pub carried_wait : (code : ℕ) → code ≡ 1 → e.limit ≡ None → appended own other e o ≡ carried (action_from code)
  unfolding carried_out meeting_of candidates_of made_by removed_by cleared_by waits_by emitted_all
  carried_wait code z h = rw (is_wait code z, fold-none (emitted s.room s.loggers place) e, h, other-same, unmarked-none own)

  -- it deletes
  pub carried_delete : (code : ℕ) → code ≡ 4 → e.limit ≡ None → (gone : List Bool) → gone ≡ seq_candidates s.clocks other o → sides own (unmarked other gone) e ≡ carried (action_from code)
  unfolding carried_out meeting_of candidates_of made_by removed_by cleared_by waits_by emitted_all
  carried_delete code z h gone is = rw (is_delete code z, fold-none (emitted s.room s.loggers place) e, h, is, unmarked-none own)

  -- it does nothing
  pub carried_nothing : (code : ℕ) → 7 ≤ code → e.limit ≡ None → sides own other e ≡ carried (action_from code)
  unfolding carried_out meeting_of candidates_of made_by removed_by cleared_by waits_by emitted_all
  carried_nothing code z h = rw (is-nothing code z, fold-none (emitted s.room s.loggers place) e, h, other-same, unmarked-none own)

-- ---- a meeting is carried out
module _ (s : Setting) (place : ℕ) (e : Emitting) (m : Meeting) (made : List Occurrence) (is : made ≡ m.made) where
  abbrev f : Emitting
  f = emitted_all s.room s.loggers place e made

  carried_stopped : reached f.limit ≡ true → sides m.own m.other f ≡ carried_out s place e m
  unfolding carried_out
  carried_stopped h = rw (← is, h)

  module _ (own other : List Occurrence) (p : own ≡ unmarked m.own m.cleared) (q : other ≡ unmarked m.other m.removed) (h : reached f.limit ≡ false) where
    carried_gone : m.waits ≡ false → sides own other f ≡ carried_out s place e m
    unfolding carried_out
    carried_gone w = rw (p, q, ← is, h, w)

    carried_joins : m.waits ≡ true → appended own other f m.arrival.occurrence ≡ carried_out s place e m
    unfolding carried_out
    carried_joins w = rw (p, q, ← is, h, w)

-- ---- with the candidates, and those taken of them
module _ (s : Setting) (place : ℕ) (row : Context) (own other : List Occurrence) (e : Emitting) (a : Arrival) (code : ℕ) (candidates taken : List Bool)
    (are : candidates ≡ candidates_of (action_from code) s.clocks own other a.occurrence) (takes : taken ≡ (chosen row s.clocks other candidates).taken) where
  abbrev this : Meeting
  this = meeting_of (action_from code) row s.clocks own other a

  abbrev those : List Occurrence
  those = marked other taken

  those_are : those ≡ marked other this.taken
  unfolding meeting_of
  those_are = ap (marked other) (takes ∙ ap (λ m. (chosen row s.clocks other m).taken) are)

  -- by the context's row
  module _ (looks : Looks code) (keeps : code ≡ 4 → ⊥) (apart : code ≡ 5 → ⊥) where
    abbrev pub by_row : Emitting
    by_row = emitted_all s.room s.loggers place e (made_of row.finds s.clocks those a.occurrence)

    row_made : made_of row.finds s.clocks those a.occurrence ≡ this.made
    unfolding meeting_of made_by
    row_made =
        let (low, high) = looks in
        ap (λ l. made_of row.finds s.clocks l a.occurrence) those_are
        ∙ by_code code (λ x. made_of row.finds s.clocks (marked other this.taken) a.occurrence ≡ made_by x row.finds s.clocks own (marked other this.taken) a.occurrence)
        (λ z. absurd (omega arith)) (λ z. absurd (omega arith)) (λ z. refl) (λ z. refl) (λ z. absurd (keeps z)) (λ z. absurd (apart z)) (λ z. refl) (λ z. absurd (omega arith))

    row_removed : (removed : List Bool) → removed ≡ (chosen row s.clocks other candidates).removed → removed ≡ this.removed
    unfolding meeting_of removed_by
    row_removed removed is =
        let gone = (chosen row s.clocks other (candidates_of (action_from code) s.clocks own other a.occurrence)).removed in
        is ∙ ap (λ m. (chosen row s.clocks other m).removed) are
        ∙ by_code code (λ x. gone ≡ removed_by x s.clocks other gone a.occurrence)
        (λ z. refl) (λ z. refl) (λ z. refl) (λ z. refl) (λ z. absurd (keeps z)) (λ z. absurd (apart z)) (λ z. refl) (λ z. refl)

    row_own : own ≡ unmarked own this.cleared
    unfolding meeting_of cleared_by
    row_own =
        by_code code (λ x. own ≡ unmarked own (cleared_by x s.clocks own a.occurrence))
        (λ z. same) (λ z. same) (λ z. same) (λ z. same) (λ z. same) (λ z. absurd (apart z)) (λ z. same) (λ z. same)
      where
        same : own ≡ unmarked own (padded 16 [])
        same = sym (unmarked-none own)

    pub row_stopped : reached by_row.limit ≡ true → sides own other by_row ≡ carried s place row own other e a (action_from code)
    unfolding meeting_of
    row_stopped h = carried_stopped s place e this _ row_made h

    module _ (removed : List Bool) (removes : removed ≡ (chosen row s.clocks other candidates).removed) (h : reached by_row.limit ≡ false) where
      pub row_gone : waits_by (action_from code) row.afterwards candidates ≡ false → sides own (unmarked other removed) by_row ≡ carried s place row own other e a (action_from code)
      unfolding meeting_of
      row_gone w =
          carried_gone s place e this _ row_made own (unmarked other removed) row_own (ap (unmarked other) (row_removed removed removes)) h (sym (ap (waits_by (action_from code) row.afterwards) are) ∙ w)

      pub row_joins : waits_by (action_from code) row.afterwards candidates ≡ true
          → appended own (unmarked other removed) by_row a.occurrence ≡ carried s place row own other e a (action_from code)
      unfolding meeting_of
      row_joins w =
          carried_joins s place e this _ row_made own (unmarked other removed) row_own (ap (unmarked other) (row_removed removed removes)) h (sym (ap (waits_by (action_from code) row.afterwards) are) ∙ w)

  -- it accumulates
  module _ (five : code ≡ 5) where
    abbrev pub gathered : Emitting
    gathered = emitted_all s.room s.loggers place e (accumulated_of row.finds s.clocks those own a.occurrence)

    gathered-made : accumulated_of row.finds s.clocks those own a.occurrence ≡ this.made
    unfolding meeting_of made_by
    gathered-made = ap (λ l. accumulated_of row.finds s.clocks l own a.occurrence) those_are ∙ rw (is_accumulate code five)

    pub gathered_stopped : reached gathered.limit ≡ true → sides own other gathered ≡ carried s place row own other e a (action_from code)
    unfolding meeting_of
    gathered_stopped h = carried_stopped s place e this _ gathered-made h

    pub gathered_gone : (cleared : List Bool) → cleared ≡ seq_candidates s.clocks own a.occurrence → reached gathered.limit ≡ false
        → sides (unmarked own cleared) (unmarked other candidates) gathered ≡ carried s place row own other e a (action_from code)
    unfolding meeting_of candidates_of removed_by cleared_by waits_by
    gathered_gone cleared is h =
        carried_gone s place e this _ gathered-made (unmarked own cleared) (unmarked other candidates) (ap (unmarked own) (is ∙ rw (is_accumulate code five)))
        (ap (unmarked other) (are ∙ rw (is_accumulate code five))) h (rw (is_accumulate code five))
