-- What an arrival does, by its code.
use mathlib.Core.Bool.{Bool, true, false}
use mathlib.Core.List.{List, [], ◌∷◌}
use mathlib.Core.Path.{◌≡◌, refl, ◌∙◌}
use Prim.Native.Nat.{ℕ, suc, ◌≤◌, ◌<◌}
use native.Mathlib.Decide.{ℕ_discrete}
use native.Mathlib.Omega.{arith}
use borrow.Author.Tests.{ne_eqb}
use lib.Dec.{eqb}
use lib.ListN.{length}
use Rattle.sequences.specs.Marks.{first_mark, marked, padded}
use Rattle.sequences.specs.Select.{some_passes}
use Rattle.sequences.proofs.Marks.{marked-padded}
use Rattle.timestamps.specs.Order.{Clocks}
use Rattle.occurrences.specs.declared.Occurrence.{Occurrence}
use Rattle.contexts.specs.Choice.{absence_candidates, and_candidates, seq_candidates}
use Rattle.contexts.specs.Table.{Afterwards, joins, consumed}
use Rattle.arrivals.specs.Meetings.{Action, pass, wait, meet, meet_and_wait, delete, accumulate, absent, nothing, action_from, candidates_of, joins_by, may_wait, removed_by, waits_by}
use Rattle.arrivals.specs.Views.{Looks, looked_for}

-- no marks, nobody marked
pub none-marked : (l : List Occurrence) → marked l (padded 16 []) ≡ []
unfolding marked
none-marked l = marked-padded 16 [] l ∙ no_marks l
  where
    no_marks : (l : List Occurrence) → marked l [] ≡ []
    no_marks [] = refl
    no_marks (a ∷ l) = refl

-- ---- the codes
module _ (code : ℕ) where
  pub is_pass : code ≡ 0 → action_from code ≡ pass
  unfolding action_from
  is_pass e = rw e

  pub is_wait : code ≡ 1 → action_from code ≡ wait
  unfolding action_from
  is_wait e = rw e

  pub is_meet_and_wait : code ≡ 3 → action_from code ≡ meet_and_wait
  unfolding action_from
  is_meet_and_wait e = rw e

  pub is_delete : code ≡ 4 → action_from code ≡ delete
  unfolding action_from
  is_delete e = rw e

  pub is_accumulate : code ≡ 5 → action_from code ≡ accumulate
  unfolding action_from
  is_accumulate e = rw e

  pub is_absent : code ≡ 6 → action_from code ≡ absent
  unfolding action_from
  is_absent e = rw e

  pub is-nothing : 7 ≤ code → action_from code ≡ nothing
  unfolding action_from
  is-nothing h =
      rw (
        ne_eqb code 0 (λ e. omega arith),
        ne_eqb code 1 (λ e. omega arith),
        ne_eqb code 2 (λ e. omega arith),
        ne_eqb code 3 (λ e. omega arith),
        ne_eqb code 4 (λ e. omega arith),
        ne_eqb code 5 (λ e. omega arith),
        ne_eqb code 6 (λ e. omega arith),
      )

  past : (n : ℕ) → n ≤ code → (code ≡ n → ⊥) → suc n ≤ code
  past n h e = omega arith

  -- whatever holds of each action that the code may stand for
  pub by_code : (P : Action → Type 0) → (code ≡ 0 → P pass) → (code ≡ 1 → P wait) → (code ≡ 2 → P meet) → (code ≡ 3 → P meet_and_wait) → (code ≡ 4 → P delete) → (code ≡ 5 → P accumulate)
      → (code ≡ 6 → P absent) → (7 ≤ code → P nothing) → P (action_from code)
  unfolding action_from
  by_code P p0 p1 p2 p3 p4 p5 p6 p7 = elim (ℕ_discrete code 0) [
    | yes e ↦ rw e (p0 e)
    | no n0 ↦ elim (ℕ_discrete code 1) [
      | yes e ↦ rw e (p1 e)
      | no n1 ↦ elim (ℕ_discrete code 2) [
        | yes e ↦ rw e (p2 e)
        | no n2 ↦ elim (ℕ_discrete code 3) [
          | yes e ↦ rw e (p3 e)
          | no n3 ↦ elim (ℕ_discrete code 4) [
            | yes e ↦ rw e (p4 e)
            | no n4 ↦ elim (ℕ_discrete code 5) [
              | yes e ↦ rw e (p5 e)
              | no n5 ↦ elim (ℕ_discrete code 6) [
                | yes e ↦ rw e (p6 e)
                | no n6 ↦ rw (ne_eqb code 0 n0, ne_eqb code 1 n1, ne_eqb code 2 n2, ne_eqb code 3 n3, ne_eqb code 4 n4, ne_eqb code 5 n5, ne_eqb code 6 n6) (p7 (past 6 (past 5 (past 4 (past 3 (past 2 (past 1 (past 0 (omega arith) n0) n1) n2) n3) n4) n5) n6))
              ]
            ]
          ]
        ]
      ]
    ]
  ]

  -- ---- who may wait
  pub may_wait-first : code ≡ 1 → true ≡ may_wait (action_from code)
  unfolding may_wait
  may_wait-first e = rw (is_wait e)

  pub may_wait-other : (code ≡ 1 → ⊥) → eqb code 3 ≡ may_wait (action_from code)
  unfolding may_wait
  may_wait-other a = elim (ℕ_discrete code 3) [
    | yes e ↦ rw (is_meet_and_wait e, e)
    | no c ↦ rw (ne_eqb code 3 c)
        (by_code (λ x. false ≡ may_wait x) (λ e. refl) (λ e. absurd (a e)) (λ e. refl) (λ e. absurd (c e)) (λ e. refl) (λ e. refl) (λ e. refl) (λ e. refl))
  ]

  -- ---- what it looks for
  module _ (clocks : Clocks) (k l : List Occurrence) (o : Occurrence) where
    abbrev looked : Action → List Bool
    looked x = looked_for x clocks k l o

    pub looked_both : code ≡ 3 → and_candidates l ≡ looked (action_from code)
    unfolding looked_for candidates_of removed_by
    looked_both e = rw (is_meet_and_wait e)

    pub looked_absent : code ≡ 6 → absence_candidates clocks l k o ≡ looked (action_from code)
    unfolding looked_for candidates_of removed_by
    looked_absent e = rw (is_absent e)

    pub looked_before : Looks code → (code ≡ 3 → ⊥) → (code ≡ 6 → ⊥) → seq_candidates clocks l o ≡ looked (action_from code)
    unfolding looked_for candidates_of removed_by
    looked_before (low, high) c g =
        by_code (λ x. seq_candidates clocks l o ≡ looked x) (λ e. absurd (omega arith)) (λ e. absurd (omega arith)) (λ e. refl) (λ e. absurd (c e)) (λ e. refl) (λ e. refl) (λ e. absurd (g e))
        (λ e. absurd (omega arith))

    -- for callers: what it deletes, and else the candidates
    pub looked_deletes : code ≡ 4 → looked (action_from code) ≡ seq_candidates clocks l o
    unfolding looked_for removed_by
    looked_deletes e = rw (is_delete e)

    pub looked_candidates : (code ≡ 4 → ⊥) → looked (action_from code) ≡ candidates_of (action_from code) clocks k l o
    unfolding looked_for candidates_of removed_by
    looked_candidates d =
        by_code (λ x. looked x ≡ candidates_of x clocks k l o) (λ e. refl) (λ e. refl) (λ e. refl) (λ e. refl) (λ e. absurd (d e)) (λ e. refl) (λ e. refl) (λ e. refl)

-- ---- who waits
some_first : (m : List Bool) → first_mark m ≡ length m → some_passes (λ b. b) m ≡ false
unfolding first_mark some_passes
some_first [] h = refl
some_first (true ∷ m) h = absurd (omega arith)
some_first (false ∷ m) h = some_first m (omega arith)

some-later : (m : List Bool) → first_mark m < length m → some_passes (λ b. b) m ≡ true
unfolding first_mark some_passes
some-later [] h = absurd (omega arith)
some-later (true ∷ m) h = refl
some-later (false ∷ m) h = some-later m (omega arith)

module _ (code : ℕ) (x : Afterwards) (m : List Bool) where
  pub waits-first : code ≡ 1 → true ≡ waits_by (action_from code) x m
  unfolding waits_by
  waits-first e = rw (is_wait code e)

  none-joins : (y : Afterwards) → first_mark m ≡ length m → true ≡ joins_by y m
  unfolding joins_by
  none-joins joins h = refl
  none-joins consumed h = rw (some_first m h)

  pub waits-none : code ≡ 3 → first_mark m ≡ length m → true ≡ waits_by (action_from code) x m
  unfolding waits_by
  waits-none e h = rw (is_meet_and_wait code e) (none-joins x h)

  pub waits-joins : code ≡ 3 → x ≡ joins → true ≡ waits_by (action_from code) x m
  unfolding waits_by joins_by
  waits-joins e h = rw (is_meet_and_wait code e, h)

  pub waits_consumed : code ≡ 3 → first_mark m < length m → x ≡ consumed → false ≡ waits_by (action_from code) x m
  unfolding waits_by joins_by
  waits_consumed e k h = rw (is_meet_and_wait code e, h, some-later m k)

  pub waits_never : (code ≡ 1 → ⊥) → (code ≡ 3 → ⊥) → false ≡ waits_by (action_from code) x m
  unfolding waits_by
  waits_never a c =
      by_code code (λ y. false ≡ waits_by y x m) (λ e. refl) (λ e. absurd (a e)) (λ e. refl) (λ e. absurd (c e)) (λ e. refl) (λ e. refl) (λ e. refl) (λ e. refl)
