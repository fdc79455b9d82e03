-- What a choice does, for waiting lists and marks of every length.
use Rattle.std.proofs.Common.{◌≡◌, ℕ, zero, suc, Bool, true, false, not, ◌&&◌, List, [], ◌∷◌, ◌++◌, map, get_or, sym, refl, ap, ◌∙◌, ⊎_elim}
use mathlib.Core.List.{zip_with, Sublistᴰ}
use lib.ListN.{length-map}
use borrow.Author.Tests.{not-true}
use Rattle.sequences.specs.Marks.{marked, padded, unmarked}
use Rattle.sequences.specs.Members.{◌is_in◌}
use Rattle.sequences.specs.Select.{some_passes, filter}
use Rattle.sequences.proofs.Booleans.{and_both, and_left, and_right, false_of_not_true, never_both}
use Rattle.sequences.proofs.Marks.{get_or-padded, marked-and, marked-map, marked_order, marked-padded, unmarked-map, unmarked_order, unmarked-padded, unmarked-within, zip_maps, zip_padded, zip_test}
use Rattle.sequences.proofs.Select.{any_append, any_in, any_of, filter_all, filter_nil}
use Rattle.timestamps.specs.declared.Timestamp.{Timestamp}
use Rattle.timestamps.specs.Composite.{members}
use Rattle.timestamps.specs.Maxima.{maxima, StrictOrder}
use Rattle.timestamps.proofs.Maxima.{maxima_in, maxima_of, maxima_reach}
use Rattle.timestamps.specs.Order.{Clocks}
use Rattle.occurrences.specs.declared.Occurrence.{Occurrence}
use Rattle.occurrences.specs.Occurrences.{is_before}
use Rattle.occurrences.proofs.Orders.{before_carries, not_before_itself}
use Rattle.contexts.specs.Choice.{and_candidates, chosen, removed_of, removes, seq_candidates, taken_of, takes}
use Rattle.contexts.specs.Table.{Taken, latest, earliest, every, Removed, untaken, taken, all, Context, recent}

-- ---- candidates
-- those that a test marks
pub tested_candidates : (p : Occurrence → Bool) (waiting : List Occurrence) → marked waiting (padded 16 (map p waiting)) ≡ filter p waiting
tested_candidates p waiting = marked-padded 16 (map p waiting) waiting ∙ marked-map p waiting

pub seq-candidates : (clocks : Clocks) (waiting : List Occurrence) (o : Occurrence) → marked waiting (seq_candidates clocks waiting o) ≡ filter (λ w. is_before clocks w o) waiting
unfolding seq_candidates
seq-candidates clocks waiting o = tested_candidates (λ w. is_before clocks w o) waiting

pub and-candidates : (waiting : List Occurrence) → marked waiting (and_candidates waiting) ≡ waiting
unfolding and_candidates
and-candidates waiting = tested_candidates (λ w. true) waiting ∙ filter_all (λ w. true) waiting (λ w m. refl)

-- ---- those taken: the candidates that the rule takes, in waiting order
pub taken-are : (t : Taken) (clocks : Clocks) (waiting : List Occurrence) (candidates : List Bool)
    → marked waiting (taken_of t clocks waiting candidates) ≡ filter (takes t clocks (marked waiting candidates)) (marked waiting candidates)
unfolding taken_of
taken-are t clocks waiting candidates = marked-padded 16 _ waiting ∙ marked-and (takes t clocks (marked waiting candidates)) waiting candidates

-- latest: the greatest of the candidates by the order of occurrences
pub latest-are : (clocks : Clocks) (waiting : List Occurrence) (candidates : List Bool) → marked waiting (taken_of latest clocks waiting candidates) ≡ maxima (is_before clocks) (marked waiting candidates)
unfolding takes maxima
latest-are clocks waiting candidates = taken-are latest clocks waiting candidates

-- earliest: the greatest by that order turned round
pub earliest_are : (clocks : Clocks) (waiting : List Occurrence) (candidates : List Bool) → marked waiting (taken_of earliest clocks waiting candidates) ≡ maxima (λ a b. is_before clocks b a) (marked waiting candidates)
unfolding takes maxima
earliest_are clocks waiting candidates = taken-are earliest clocks waiting candidates

pub every_are : (clocks : Clocks) (waiting : List Occurrence) (candidates : List Bool) → marked waiting (taken_of every clocks waiting candidates) ≡ marked waiting candidates
unfolding takes
every_are clocks waiting candidates = taken-are every clocks waiting candidates ∙ filter_all (λ w. true) (marked waiting candidates) (λ w m. refl)

-- "no other candidate": with at least one stamp an occurrence is not before itself, so the others decide
module _ (clocks : Clocks) (l m : List Occurrence) (w : Occurrence) {s : Timestamp} (some : s is_in members w.latest) where
  pub latest-others : takes latest clocks (l ++ w ∷ m) w ≡ not (some_passes (λ c. is_before clocks w c) (l ++ m))
  unfolding takes some_passes
  latest-others =
      let here : some_passes (λ c. is_before clocks w c) (w ∷ m) ≡ some_passes (λ c. is_before clocks w c) m = rw (not_before_itself clocks w some) in
      rw (any_append (λ c. is_before clocks w c) l (w ∷ m), any_append (λ c. is_before clocks w c) l m, here)

  pub earliest_others : takes earliest clocks (l ++ w ∷ m) w ≡ not (some_passes (λ c. is_before clocks c w) (l ++ m))
  unfolding takes some_passes
  earliest_others =
      let here : some_passes (λ c. is_before clocks c w) (w ∷ m) ≡ some_passes (λ c. is_before clocks c w) m = rw (not_before_itself clocks w some) in
      rw (any_append (λ c. is_before clocks c w) l (w ∷ m), any_append (λ c. is_before clocks c w) l m, here)

-- ---- where there is a candidate one is taken, if each has a stamp, as in every run
abbrev pub Stamped : Occurrence → Type 0
Stamped w = (s : Timestamp) × (s is_in members w.latest)

-- a relation that is strict on occurrences with a stamp has a greatest element of each list of them
module _ (R : Occurrence → Occurrence → Bool) (irreflexive : (w : Occurrence) → Stamped w → R w w ≡ false)
    (transitive : (a b c : Occurrence) → R a b ≡ true → R b c ≡ true → R a c ≡ true) where
  abbrev stamped : Occurrence → Bool
  stamped w = some_passes (λ s. true) (members w.latest)

  abbrev Strict : Occurrence → Occurrence → Bool
  Strict a b = R a b && stamped b

  never : (w : Occurrence) → Strict w w ≡ true → ⊥
  never w e =
      let (s, m, y) = any_of (λ s. true) (members w.latest) (and_right (R w w) (stamped w) e) in
      never_both (and_left (R w w) (stamped w) e) (irreflexive w (s, m))

  strict : StrictOrder Strict
  strict = record {
    irreflexive = λ w. false_of_not_true (Strict w w) (never w);
    transitive = λ a b c p q. and_both (R a c) (stamped c) (transitive a b c (and_left (R a b) (stamped b) p) (and_left (R b c) (stamped c) q)) (and_right (R b c) (stamped c) q);
  }

  some_greatest : (l : List Occurrence) {w : Occurrence} → w is_in l → ((v : Occurrence) → v is_in l → Stamped v) → (v : Occurrence) × (v is_in maxima R l)
  some_greatest l {w} m h = ⊎_elim (λ i. (w, same i)) (λ t. (t.0, same t.1)) (maxima_reach Strict strict l w m)
    where
      same : {v : Occurrence} → v is_in maxima Strict l → v is_in maxima R l
      same {v} i =
          let (j, none) = maxima_of Strict l v i in
          maxima_in R l v j (λ b k. false_of_not_true (R v b) (λ e.
          let (s, n) = h b k in
          never_both (and_both (R v b) (stamped b) e (any_in (λ s. true) (members b.latest) n refl)) (none b k)))

pub some-taken : (t : Taken) (clocks : Clocks) (waiting : List Occurrence) (candidates : List Bool) {w : Occurrence} → w is_in marked waiting candidates
    → ((v : Occurrence) → v is_in marked waiting candidates → Stamped v) → (v : Occurrence) × (v is_in marked waiting (taken_of t clocks waiting candidates))
some-taken latest clocks waiting candidates m h =
    rw (latest-are clocks waiting candidates)
    (some_greatest (is_before clocks) (λ w e. not_before_itself clocks w e.1) (before_carries clocks) (marked waiting candidates) m h)
some-taken earliest clocks waiting candidates m h =
    rw (earliest_are clocks waiting candidates)
    (some_greatest (λ a b. is_before clocks b a) (λ w e. not_before_itself clocks w e.1) (λ a b c p q. before_carries clocks c b a q p) (marked waiting candidates) m h)
some-taken every clocks waiting candidates {w} m h = rw (every_are clocks waiting candidates) (w, m)

-- ---- place by place
taken-place : (f : Occurrence → Bool) (l : List Occurrence) (m : List Bool) (k : ℕ) → get_or (zip_with (λ w c. c && f w) l m) k false ≡ true → get_or m k false ≡ true
unfolding zip_with
taken-place f [] m k e = absurd (never_both e refl)
taken-place f (w ∷ l) [] k e = absurd (never_both e refl)
taken-place f (w ∷ l) (c ∷ m) zero e = and_left c (f w) e
taken-place f (w ∷ l) (c ∷ m) (suc k) e = taken-place f l m k e

removed-place : (x : Removed) (m t : List Bool) (k : ℕ) → get_or (zip_with (removes x) m t) k false ≡ true → removes x (get_or m k false) (get_or t k false) ≡ true
unfolding zip_with
removed-place x [] t k e = absurd (never_both e refl)
removed-place x (c ∷ m) [] k e = absurd (never_both e refl)
removed-place x (c ∷ m) (b ∷ t) zero e = e
removed-place x (c ∷ m) (b ∷ t) (suc k) e = removed-place x m t k e

module _ (clocks : Clocks) (waiting : List Occurrence) (candidates : List Bool) (k : ℕ) where
  -- a taken place is a candidate
  pub taken_candidate : (t : Taken) → get_or (taken_of t clocks waiting candidates) k false ≡ true → get_or candidates k false ≡ true
  unfolding taken_of
  taken_candidate t e = taken-place (takes t clocks (marked waiting candidates)) waiting candidates k (sym (get_or-padded 16 _ k) ∙ e)

  -- a removed place is a candidate
  pub removed_candidate : (row : Context) → get_or (chosen row clocks waiting candidates).removed k false ≡ true → get_or candidates k false ≡ true
  unfolding chosen removed_of removes
  removed_candidate row e = go row.removes (removed-place row.removes candidates (taken_of row.takes clocks waiting candidates) k e)
    where
      go : (x : Removed) → removes x (get_or candidates k false) (get_or (taken_of row.takes clocks waiting candidates) k false) ≡ true → get_or candidates k false ≡ true
      go untaken e = and_left _ _ e
      go taken e = taken_candidate row.takes e
      go all e = e

  -- in recent no taken place is removed
  pub recent_keeps_taken : get_or (chosen recent clocks waiting candidates).taken k false ≡ true → get_or (chosen recent clocks waiting candidates).removed k false ≡ false
  unfolding chosen removed_of removes
  recent_keeps_taken e = false_of_not_true _ (λ r.
      never_both e (not-true _ (and_right (get_or candidates k false) _ (removed-place untaken candidates (taken_of latest clocks waiting candidates) k r))))

  -- and no place that is no candidate
  pub recent_keeps_others : get_or candidates k false ≡ false → get_or (chosen recent clocks waiting candidates).removed k false ≡ false
  recent_keeps_others e = false_of_not_true _ (λ r. never_both (removed_candidate recent r) e)

-- ---- without candidates nothing is taken or removed
module _ (row : Context) (clocks : Clocks) (waiting : List Occurrence) (candidates : List Bool) (none : marked waiting candidates ≡ []) where
  pub none-taken : marked waiting (chosen row clocks waiting candidates).taken ≡ []
  unfolding chosen
  none-taken = taken-are row.takes clocks waiting candidates ∙ rw none (filter_nil _)

  pub none-removed : unmarked waiting (chosen row clocks waiting candidates).removed ≡ waiting
  none-removed = unmarked-within waiting candidates _ (λ k. removed_candidate clocks waiting candidates k row) none

-- ---- waiting order is kept
module _ (row : Context) (clocks : Clocks) (waiting : List Occurrence) (candidates : List Bool) where
  pub taken_order : Sublistᴰ (marked waiting (chosen row clocks waiting candidates).taken) waiting
  taken_order = marked_order waiting _

  pub left_order : Sublistᴰ (unmarked waiting (chosen row clocks waiting candidates).removed) waiting
  left_order = unmarked_order waiting _

-- ---- where a test says which are candidates, everything is said by tests
-- a place that is no candidate and not taken stays
nothing-removed : (x : Removed) → removes x false false ≡ false
unfolding removes
nothing-removed untaken = refl
nothing-removed taken = refl
nothing-removed all = refl

module _ (row : Context) (clocks : Clocks) (p : Occurrence → Bool) (waiting : List Occurrence) where
  abbrev is_taken : Occurrence → Bool
  is_taken = takes row.takes clocks (filter p waiting)

  abbrev marks : List Bool
  marks = padded 16 (map p waiting)

  pub tested_taken : (chosen row clocks waiting marks).taken ≡ padded 16 (map (λ w. p w && is_taken w) waiting)
  unfolding chosen taken_of
  tested_taken = ap (padded 16) (zip_test (λ w c. c && takes row.takes clocks (marked waiting marks) w) p 16 waiting ∙ rw (tested_candidates p waiting))

  pub tested_removed : (chosen row clocks waiting marks).removed ≡ padded 16 (map (λ w. removes row.removes (p w) (p w && is_taken w)) waiting)
  unfolding chosen removed_of
  tested_removed =
      ap (removed_of row.removes marks) tested_taken
      ∙ zip_padded (removes row.removes) (nothing-removed row.removes) 16 (map p waiting) (map (λ w. p w && is_taken w) waiting) (length-map waiting p ∙ sym (length-map waiting (λ w. p w && is_taken w)))
      ∙ ap (padded 16) (zip_maps (removes row.removes) p (λ w. p w && is_taken w) waiting)

  -- what is left
  pub tested_left : unmarked waiting (chosen row clocks waiting marks).removed ≡ filter (λ w. not (removes row.removes (p w) (p w && is_taken w))) waiting
  tested_left = ap (unmarked waiting) tested_removed ∙ unmarked-padded 16 _ waiting ∙ unmarked-map (λ w. removes row.removes (p w) (p w && is_taken w)) waiting
