-- The combination of parts: the order and repetition of parts do not matter, and it can be made one part at a time.
use Rattle.std.proofs.Common.{◌≡◌, ℕ, ◌||◌, List, [], ◌∷◌, ◌++◌, sym, refl, ap, ◌∙◌, ⊎_elim, append_assoc, append-nil}
use mathlib.Core.List.Memᴰ
use Rattle.sequences.specs.Loops.{fold}
use Rattle.sequences.specs.Members.{◌is_in◌, SameMembers}
use Rattle.sequences.specs.Select.{some_passes}
use Rattle.sequences.proofs.Loops.{fold-none, fold_next}
use Rattle.sequences.proofs.Members.{same_refl}
use Rattle.event_sets.specs.declared.EventSet.{EventSet}
use Rattle.event_sets.specs.Sets.{has, no_events, union_of}
use Rattle.event_sets.proofs.Members.{has-none, has_union, union_assoc, union_comm, union_none, union_self}
use Rattle.timestamps.specs.declared.Timestamp.{Timestamp}
use Rattle.timestamps.specs.declared.CompositeTimestamp.{CompositeTimestamp}
use Rattle.timestamps.specs.Composite.{members}
use Rattle.timestamps.specs.Join.{join_of}
use Rattle.timestamps.specs.Maxima.{maxima}
use Rattle.timestamps.specs.Order.{Clocks, before}
use Rattle.timestamps.proofs.Join.{Placeable, join_of_covered, join_of_covers, join_of-same, join_of-++, members-join_of, members_placeable}
use Rattle.timestamps.proofs.Maxima.{Covers, covers_append, covers_same}
use Rattle.occurrences.specs.declared.Occurrence.{Occurrence}
use Rattle.occurrences.specs.Combination.{combination_of, combined_of, events_of, stamps_of}

-- two occurrences with the same stamps and events are one
abbrev occurrence : CompositeTimestamp → EventSet → Occurrence
occurrence c s = record { latest = c; events = s }

pub same-occurrence : {c d : CompositeTimestamp} {s t : EventSet} → c ≡ d → s ≡ t → occurrence c s ≡ occurrence d t
same-occurrence p q = λ i. record { latest = p i; events = q i }

-- ---- the stamps of the parts
pub stamps-append : (ps qs : List Occurrence) → stamps_of (ps ++ qs) ≡ stamps_of ps ++ stamps_of qs
unfolding stamps_of
stamps-append [] qs = refl
stamps-append (o ∷ ps) qs = rw (stamps-append ps qs) (sym (append_assoc (members o.latest) (stamps_of ps) (stamps_of qs)))

pub stamps_in_lem : {o : Occurrence} {s : Timestamp} (ps : List Occurrence) → o is_in ps → s is_in members o.latest → s is_in stamps_of ps
unfolding stamps_of
stamps_in_lem [] m i = absurd (Memᴰ.not-nil m)
stamps_in_lem {s = s} (p ∷ ps) m i =
    ⊎_elim
    (λ e. Memᴰ.append_left (stamps_of ps) (rw e at i))
    (λ n. Memᴰ.append_right (members p.latest) (stamps_in_lem ps n i))
    (Memᴰ.cases_cons m)

pub stamps_of_lem : {s : Timestamp} (ps : List Occurrence) → s is_in stamps_of ps → (o : Occurrence) × (o is_in ps) × (s is_in members o.latest)
unfolding stamps_of
stamps_of_lem [] m = absurd (Memᴰ.not-nil m)
stamps_of_lem (p ∷ ps) m =
    ⊎_elim
    (λ i. (p, Memᴰ.head refl, i))
    (λ n. let (o, i, j) = stamps_of_lem ps n in (o, Memᴰ.tail i, j))
    (Memᴰ.append_cases (members p.latest) m)

pub stamps_placeable : (ps : List Occurrence) → Placeable (stamps_of ps)
stamps_placeable ps s m = let (o, i, j) = stamps_of_lem ps m in members_placeable o.latest s j

stamps-same : (ps qs : List Occurrence) → SameMembers ps qs → SameMembers (stamps_of ps) (stamps_of qs)
stamps-same ps qs w = (
  λ s m. (let (o, i, j) = stamps_of_lem ps m in stamps_in_lem qs (w.0 o i) j),
  λ s m. (let (o, i, j) = stamps_of_lem qs m in stamps_in_lem ps (w.1 o i) j),
)

-- ---- their events
none_union : (s : EventSet) → union_of no_events s ≡ s
none_union s = union_comm no_events s ∙ union_none s

pub events-append : (ps qs : List Occurrence) → events_of (ps ++ qs) ≡ union_of (events_of ps) (events_of qs)
unfolding events_of
events-append [] qs = sym (none_union (events_of qs))
events-append (o ∷ ps) qs = rw (events-append ps qs) (sym (union_assoc o.events (events_of ps) (events_of qs)))

-- a number is among them where it is one of some part
pub events-has : (ps : List Occurrence) (j : ℕ) → has (events_of ps) j ≡ some_passes (λ o. has o.events j) ps
unfolding events_of some_passes
events-has [] j = has-none j
events-has (o ∷ ps) j = has_union o.events (events_of ps) j ∙ ap (λ b. has o.events j || b) (events-has ps j)

-- a part's events are all among them
part_within : {o : Occurrence} (ps : List Occurrence) → o is_in ps → union_of o.events (events_of ps) ≡ events_of ps
unfolding events_of
part_within [] m = absurd (Memᴰ.not-nil m)
part_within {o} (p ∷ ps) m =
    ⊎_elim
    (λ e. rw e (sym (union_assoc p.events p.events (events_of ps)) ∙ ap (λ s. union_of s (events_of ps)) (union_self p.events)))
    (λ n. sym (union_assoc o.events p.events (events_of ps))
    ∙ ap (λ s. union_of s (events_of ps)) (union_comm o.events p.events)
    ∙ union_assoc p.events o.events (events_of ps)
    ∙ ap (union_of p.events) (part_within ps n))
    (Memᴰ.cases_cons m)

parts_within : (ps qs : List Occurrence) → ((o : Occurrence) → o is_in ps → o is_in qs) → union_of (events_of ps) (events_of qs) ≡ events_of qs
unfolding events_of
parts_within [] qs h = none_union (events_of qs)
parts_within (o ∷ ps) qs h =
    union_assoc o.events (events_of ps) (events_of qs)
    ∙ ap (union_of o.events) (parts_within ps qs (λ p m. h p (Memᴰ.tail m)))
    ∙ part_within qs (h o (Memᴰ.head refl))

events-same : (ps qs : List Occurrence) → SameMembers ps qs → events_of ps ≡ events_of qs
events-same ps qs w =
    sym (parts_within qs ps w.1) ∙ union_comm (events_of qs) (events_of ps) ∙ parts_within ps qs w.0

module _ (clocks : Clocks) where
  -- ---- order and repetition of the parts do not matter
  pub combination_same : (ps qs : List Occurrence) → SameMembers ps qs → combination_of clocks ps ≡ combination_of clocks qs
  unfolding combination_of
  combination_same ps qs w = same-occurrence (join_of-same clocks (stamps_of ps) (stamps_of qs) (stamps-same ps qs w)) (events-same ps qs w)

  -- ---- one part at a time
  covers_self : (l : List Timestamp) → Covers (before clocks) l l
  covers_self l = covers_same (before clocks) (same_refl l)

  pub combination_two : (a b : Occurrence) → combined_of clocks a b ≡ combination_of clocks (a ∷ b ∷ [])
  unfolding combination_of combined_of stamps_of events_of
  combination_two a b = same-occurrence
      (ap (λ l. join_of clocks (members a.latest ++ l)) (sym (append-nil (members b.latest))))
      (ap (union_of a.events) (sym (union_none b.events)))

  pub combination_append : (ps qs : List Occurrence) → combined_of clocks (combination_of clocks ps) (combination_of clocks qs) ≡ combination_of clocks (ps ++ qs)
  unfolding combination_of combined_of
  combination_append ps qs = same-occurrence
      (join_of-++ clocks (stamps_of ps) (stamps_of qs) (stamps_placeable ps) (stamps_placeable qs) ∙ ap (join_of clocks) (sym (stamps-append ps qs)))
      (sym (events-append ps qs))

  pub combination_more : (ps : List Occurrence) (o : Occurrence) → combined_of clocks (combination_of clocks ps) o ≡ combination_of clocks (ps ++ (o ∷ []))
  unfolding combination_of combined_of stamps_of events_of
  combination_more ps o = same-occurrence
      (join_of_covered clocks _ (stamps_of ps ++ members o.latest)
      (covers_append (before clocks) _ (stamps_of ps) _ (members o.latest) (join_of_covers clocks (stamps_of ps) (stamps_placeable ps)) (covers_self (members o.latest)))
      ∙ ap (join_of clocks) (sym (stamps-append ps (o ∷ []) ∙ ap (λ l. stamps_of ps ++ l) (append-nil (members o.latest)))))
      (sym (events-append ps (o ∷ []) ∙ ap (union_of (events_of ps)) (union_none o.events)))

  -- a loop that combines o with the parts in turn
  combination_loop : (parts ps : List Occurrence) → fold (combined_of clocks) parts (combination_of clocks ps) ≡ combination_of clocks (ps ++ parts)
  combination_loop [] ps = fold-none (combined_of clocks) (combination_of clocks ps) ∙ ap (combination_of clocks) (sym (append-nil ps))
  combination_loop (p ∷ parts) ps =
      fold_next (combined_of clocks) p parts (combination_of clocks ps)
      ∙ ap (fold (combined_of clocks) parts) (combination_more ps p)
      ∙ combination_loop parts (ps ++ (p ∷ []))
      ∙ ap (combination_of clocks) (append_assoc ps (p ∷ []) parts)

  pub combination_fold : (o p : Occurrence) (parts : List Occurrence) → fold (combined_of clocks) (p ∷ parts) o ≡ combination_of clocks (o ∷ p ∷ parts)
  combination_fold o p parts =
      fold_next (combined_of clocks) p parts o
      ∙ ap (fold (combined_of clocks) parts) (combination_two o p)
      ∙ combination_loop parts (o ∷ p ∷ [])

  -- ---- the stamps of a combination are exactly those of its parts that are before none of theirs
  pub combination_latest : (ps : List Occurrence) → SameMembers (members (combination_of clocks ps).latest) (maxima (before clocks) (stamps_of ps))
  unfolding combination_of
  combination_latest ps = members-join_of clocks (stamps_of ps) (stamps_placeable ps)
