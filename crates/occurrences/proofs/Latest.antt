-- A file event is exact, and the combination of exact parts is.
use Rattle.std.proofs.Common.{◌≡◌, ℕ, ◌<◌, true, eqb, List, [], ◌∷◌, ◌++◌, map, length, get_or, sym, refl, ap, ◌∙◌, inl, inr, ⊎_elim, arith, eq-eqb, eqb-true}
use mathlib.Core.List.Memᴰ
use Rattle.sequences.specs.Members.{◌is_in◌, SameMembers}
use Rattle.sequences.proofs.Booleans.{or_cases, or_left, never_both}
use Rattle.sequences.proofs.Members.{get_or_in, map_in, map_of}
use Rattle.event_sets.specs.declared.EventSet.{EventSet}
use Rattle.event_sets.specs.Sets.{elements, has, no_events, union_of}
use Rattle.event_sets.proofs.Members.{elements-has, elements-none, elements_one, elements_union, has-marked, has-none, has_union}
use Rattle.timestamps.specs.declared.Timestamp.{Timestamp}
use Rattle.timestamps.specs.Composite.{members}
use Rattle.timestamps.specs.Join.{join_of}
use Rattle.timestamps.specs.Order.{Clocks, before, blank as blank_stamp}
use Rattle.timestamps.proofs.Join.{Placeable, join_of_covered, join_of_covers, join_of_one}
use Rattle.timestamps.proofs.Maxima.{Covers, covers_append, covers_same, covers_trans}
use Rattle.timestamps.proofs.Stamps.{before_strict}
use Rattle.occurrences.specs.declared.Occurrence.{Occurrence}
use Rattle.occurrences.specs.Combination.{combination_of, combined_of, events_of, stamps_of}
use Rattle.occurrences.specs.Latest.{Exact, stamps_at}
use Rattle.occurrences.specs.Occurrences.{of_event}

module _ (clocks : Clocks) (stamps : List Timestamp) (small : Placeable stamps) where
  -- the stamps of a set's events are the passage's
  pub stamps_placeable : (s : EventSet) → ((j : ℕ) → has s j ≡ true → j < length stamps) → Placeable (stamps_at stamps s)
  unfolding stamps_at
  stamps_placeable s h t m =
      let (j, i, e) = map_of (λ j. get_or stamps j blank_stamp) (elements s) m in
      small t (Memᴰ.cast e (get_or_in stamps j blank_stamp (h j ((elements-has s j).0 i))))

  -- the stamps of a union are those of both sets
  union_stamps : (a b : EventSet) → SameMembers (stamps_at stamps a ++ stamps_at stamps b) (stamps_at stamps (union_of a b))
  unfolding stamps_at
  union_stamps a b = (up, down)
    where
      up : (t : Timestamp) → t is_in (stamps_at stamps a ++ stamps_at stamps b) → t is_in stamps_at stamps (union_of a b)
      up t m = ⊎_elim
          (λ i. let (j, k, e) = map_of (λ j. get_or stamps j blank_stamp) (elements a) i in Memᴰ.cast e (map_in (λ j. get_or stamps j blank_stamp) (elements (union_of a b)) ((elements_union a b j).1 (inl k))))
          (λ i. let (j, k, e) = map_of (λ j. get_or stamps j blank_stamp) (elements b) i in Memᴰ.cast e (map_in (λ j. get_or stamps j blank_stamp) (elements (union_of a b)) ((elements_union a b j).1 (inr k))))
          (Memᴰ.append_cases (stamps_at stamps a) m)

      down : (t : Timestamp) → t is_in stamps_at stamps (union_of a b) → t is_in (stamps_at stamps a ++ stamps_at stamps b)
      down t m =
          let (j, k, e) = map_of (λ j. get_or stamps j blank_stamp) (elements (union_of a b)) m in
          ⊎_elim
          (λ i. Memᴰ.append_left (stamps_at stamps b) (Memᴰ.cast e (map_in (λ j. get_or stamps j blank_stamp) (elements a) i)))
          (λ i. Memᴰ.append_right (stamps_at stamps a) (Memᴰ.cast e (map_in (λ j. get_or stamps j blank_stamp) (elements b) i)))
          ((elements_union a b j).0 k)

  union_within : (a b : EventSet) → ((j : ℕ) → has a j ≡ true → j < length stamps) → ((j : ℕ) → has b j ≡ true → j < length stamps)
      → (j : ℕ) → has (union_of a b) j ≡ true → j < length stamps
  union_within a b p q j e = ⊎_elim (p j) (q j) (or_cases (has a j) (has b j) (sym (has_union a b j) ∙ e))

  -- ---- a file event
  pub exact-event : (number : ℕ) → number < 128 → number < length stamps → Exact clocks stamps (of_event (get_or stamps number blank_stamp) number)
  unfolding of_event stamps_at
  exact-event number few in-stamps = record {
    some = (number, has-marked no_events number number few ∙ or_left _ _ (eq-eqb number number refl));
    within = λ j e. ⊎_elim
        (λ y. let k : j ≡ number = eqb-true j number y in omega arith)
        (λ n. absurd (never_both n (has-none j)))
        (or_cases (eqb j number) (has no_events j) (sym (has-marked no_events number j few) ∙ e));
    latest = sym (join_of_one clocks (get_or stamps number blank_stamp)) ∙ ap (λ l. join_of clocks (map (λ j. get_or stamps j blank_stamp) l)) (sym (elements_one number few));
  }

  -- ---- the combination of two exact parts
  exact_covers : (o : Occurrence) → Exact clocks stamps o → Covers (before clocks) (members o.latest) (stamps_at stamps o.events)
  exact_covers o x = rw x.latest (join_of_covers clocks (stamps_at stamps o.events) (stamps_placeable o.events x.within))

  pub exact_combined : (a b : Occurrence) → Exact clocks stamps a → Exact clocks stamps b → Exact clocks stamps (combined_of clocks a b)
  unfolding combined_of
  exact_combined a b x y = record {
    some = (x.some.0, has_union a.events b.events x.some.0 ∙ or_left _ _ x.some.1);
    within = union_within a.events b.events x.within y.within;
    latest = join_of_covered clocks _ _
        (covers_trans (before clocks) (before_strict clocks) _ (stamps_at stamps a.events ++ stamps_at stamps b.events) _
        (covers_append (before clocks) _ _ _ _ (exact_covers a x) (exact_covers b y))
        (covers_same (before clocks) (union_stamps a.events b.events)));
  }

  -- ---- the combination of one or more exact parts
  stamps-none : stamps_at stamps no_events ≡ []
  unfolding stamps_at
  stamps-none = ap (map (λ j. get_or stamps j blank_stamp)) elements-none

  parts_cover : (parts : List Occurrence) → ((o : Occurrence) → o is_in parts → Exact clocks stamps o)
      → Covers (before clocks) (stamps_of parts) (stamps_at stamps (events_of parts))
  unfolding stamps_of events_of
  parts_cover [] h = covers_same (before clocks) (none-up, none_down)
    where
      none-up : (t : Timestamp) → t is_in [] → t is_in stamps_at stamps no_events
      none-up t m = absurd (Memᴰ.not-nil m)

      none_down : (t : Timestamp) → t is_in stamps_at stamps no_events → t is_in []
      none_down t m = rw stamps-none at m
  parts_cover (o ∷ parts) h =
      covers_trans (before clocks) (before_strict clocks) _ (stamps_at stamps o.events ++ stamps_at stamps (events_of parts)) _
      (covers_append (before clocks) _ _ _ _ (exact_covers o (h o (Memᴰ.head refl))) (parts_cover parts (λ p m. h p (Memᴰ.tail m))))
      (covers_same (before clocks) (union_stamps o.events (events_of parts)))

  event_of_first : (o : Occurrence) (parts : List Occurrence) (j : ℕ) → has o.events j ≡ true → has (events_of (o ∷ parts)) j ≡ true
  unfolding events_of
  event_of_first o parts j e = has_union o.events (events_of parts) j ∙ or_left _ _ e

  events-within : (parts : List Occurrence) → ((p : Occurrence) → p is_in parts → Exact clocks stamps p) → (j : ℕ) → has (events_of parts) j ≡ true → j < length stamps
  unfolding events_of
  events-within [] h j e = absurd (never_both e (has-none j))
  events-within (o ∷ parts) h j e = union_within o.events (events_of parts) (h o (Memᴰ.head refl)).within (events-within parts (λ p m. h p (Memᴰ.tail m))) j e

  pub exact_combination : (o : Occurrence) (parts : List Occurrence) → ((p : Occurrence) → p is_in (o ∷ parts) → Exact clocks stamps p)
      → Exact clocks stamps (combination_of clocks (o ∷ parts))
  unfolding combination_of
  exact_combination o parts h =
      let x : Exact clocks stamps o = h o (Memᴰ.head refl) in
      record {
        some = (x.some.0, event_of_first o parts x.some.0 x.some.1);
        within = events-within (o ∷ parts) h;
        latest = join_of_covered clocks (stamps_of (o ∷ parts)) (stamps_at stamps (events_of (o ∷ parts))) (parts_cover (o ∷ parts) h);
      }
