-- From stamps by logger place to stamps by logger number: a finding of an exact occurrence is exact as it is written.
use mathlib.Core.Bool.{true, false}
use mathlib.Core.List.Memᴰ
use mathlib.Core.List.{List, map}
use mathlib.Core.Path.{◌≡◌, sym, ap, subst, ◌∙◌}
use Prim.Native.Nat.{ℕ, ◌-◌, ◌<◌}
use native.Mathlib.Decide.{ℕ_discrete, dec_lt}
use native.Mathlib.Omega.{arith}
use lib.Dec.{eqb}
use lib.ListN.{get_or, length, length-map}
use borrow.Author.Tests.{eq-eqb, ne_eqb}
use Rattle.sequences.specs.Members.{◌is_in◌, SameMembers}
use Rattle.sequences.proofs.Members.{map_in, map_of, same_sym}
use Rattle.sequences.proofs.Parts.{get_or_map}
use Rattle.sequences.proofs.Rising.{keys_same, later_rises}
use Rattle.timestamps.specs.declared.Timestamp.{Timestamp}
use Rattle.timestamps.specs.Composite.{members, present_at, stamp_at}
use Rattle.timestamps.specs.Order.{Clocks, before, blank as blank_stamp, global_of}
use Rattle.timestamps.proofs.Composite.{at_place, stamp_in}
use Rattle.event_sets.specs.Sets.{elements}
use Rattle.event_sets.proofs.Members.{elements-has}
use Rattle.occurrences.specs.declared.Occurrence.{Occurrence}
use Rattle.occurrences.specs.Latest.{Exact, stamps_at}
use Rattle.forms.specs.Bytes.{Bytes}
use Rattle.plans.specs.Layout.{Plan, plan_clocks}
use Rattle.plans.specs.Limits.{NumbersOk, PlanOk}
use Rattle.passages.specs.declared.EventEntry.{EventEntry}
use Rattle.passages.specs.Events.{no_event, passage_events, placed, place_in}
use Rattle.passages.specs.Limits.{EventOk, no_entry}
use Rattle.passages.specs.Reader.{accepted, read_passage}
use Rattle.passages.proofs.Places.{member_place}
use Rattle.passages.proofs.Theorems.{accepted-count, accepted-events, accepted_is_laid_out}
use Rattle.detections.specs.declared.Stamp.{Stamp}
use Rattle.detections.specs.Findings.{Finding, StampFits}
use Rattle.detections.specs.Views.{finding_of, written}
use Rattle.detections.proofs.Rising.{loggers-rising}
use Rattle.readings.proofs.Theorems.{finding-within}
use Rattle.progress.specs.Progress.{numbers_by_place, stamp_of}
use Rattle.latest_stamps.specs.Written.{Shown}
use Rattle.latest_stamps.proofs.Theorems.{accepted_placeable, latest_in, latest_of_lem}
use Rattle.working.specs.Latest.{ExactFinding, IsLatest, entry_stamp, stamp_before, stamps_from}

-- ---- the numbers of the loggers rise with their places
module _ (loggers : List ℕ) (ok : NumbersOk 8 loggers) where
  number_at : (k : ℕ) → k < length loggers → get_or (numbers_by_place loggers) k 0 ≡ get_or loggers k 0
  unfolding numbers_by_place
  number_at k h = at_place (λ k. get_or loggers k 0) 0 k (omega (arith, ok.most))

  numbers_rise : (i j : ℕ) → i < j → j < length loggers → get_or (numbers_by_place loggers) i 0 < get_or (numbers_by_place loggers) j 0
  numbers_rise i j h k =
      omega (arith, number_at i (omega arith), number_at j k, later_rises loggers ok.rising i (j - i - 1) j (omega arith) k)

  -- so two loggers are the same by number where they are by place
  same-logger : (i j : ℕ) → i < length loggers → j < length loggers → eqb (get_or (numbers_by_place loggers) i 0) (get_or (numbers_by_place loggers) j 0) ≡ eqb i j
  same-logger i j h k = elim (ℕ_discrete i j) [
    | yes e ↦ eq-eqb (number i) (number j) (ap number e) ∙ sym (eq-eqb i j e)
    | no n ↦ ne_eqb (number i) (number j) (λ e. elim (dec_lt i j) [
      | yes l ↦ omega (arith, e, numbers_rise i j l k)
      | no l ↦ omega (arith, e, numbers_rise j i (omega (arith, n, l)) h)
    ]) ∙ sym (ne_eqb i j n)
  ]
    where
      number : ℕ → ℕ
      number m = get_or (numbers_by_place loggers) m 0

  before-written : (clocks : Clocks) (t u : Timestamp) → t.logger < length loggers → u.logger < length loggers
      → stamp_before clocks (written (numbers_by_place loggers) t) (written (numbers_by_place loggers) u) ≡ before clocks t u
  unfolding before global_of
  before-written clocks t u h k = rw (same-logger t.logger u.logger h k)

-- ---- the stamps of events, by place and by number
abbrev stamps_in : Plan → List ℕ → List Timestamp
stamps_in p passage = map stamp_of (passage_events p passage)

module _ (p : Plan) (passage : List ℕ) (es : List EventEntry) (ok : PlanOk p) (B : Bytes passage) (h : read_passage p passage ≡ accepted es) where
  entry_ok : (j : ℕ) → j < length es → EventOk p (get_or es j no_entry)
  entry_ok j k = (accepted_is_laid_out p passage es B h).1.each j k

  stamp-at : (j : ℕ) → j < length es → get_or (stamps_in p passage) j blank_stamp ≡ stamp_of (placed p.kinds p.loggers (get_or es j no_entry))
  stamp-at j k =
      get_or_map stamp_of (passage_events p passage) j no_event blank_stamp (omega (arith, accepted-count p passage es B h))
      ∙ ap (λ l. stamp_of (get_or l j no_event)) (accepted-events p passage es B h)
      ∙ ap stamp_of (get_or_map (placed p.kinds p.loggers) es j no_entry no_event k)

  logger-within : (j : ℕ) → j < length es → (get_or (stamps_in p passage) j blank_stamp).logger < length p.loggers
  logger-within j k = rw (stamp-at j k) (member_place p.loggers _ (entry_ok j k).logger).0

  written_entry : (j : ℕ) → j < length es → written (numbers_by_place p.loggers) (get_or (stamps_in p passage) j blank_stamp) ≡ entry_stamp (get_or es j no_entry)
  written_entry j k =
      let m = member_place p.loggers _ (entry_ok j k).logger in
      let n = number_at p.loggers ok.loggers (place_in p.loggers (get_or es j no_entry).logger) m.0 ∙ m.1 in
      ap (written (numbers_by_place p.loggers)) (stamp-at j k) ∙ (λ i. record { logger = n i; tick = (get_or es j no_entry).tick })

  -- ---- an occurrence of the passage
  module _ (o : Occurrence) (x : Exact (plan_clocks p) (stamps_in p passage) o) where
    event-within : (j : ℕ) → j is_in elements o.events → j < length es
    event-within j m = omega (arith, x.within j ((elements-has o.events j).0 m), length-map (passage_events p passage) stamp_of, accepted-count p passage es B h)

    by_number : (t : Timestamp) → t is_in stamps_at (stamps_in p passage) o.events → written (numbers_by_place p.loggers) t is_in stamps_from es (elements o.events)
    unfolding stamps_at stamps_from
    by_number t m =
        let (j, i, e) = map_of (λ j. get_or (stamps_in p passage) j blank_stamp) (elements o.events) m in
        Memᴰ.cast (ap (written (numbers_by_place p.loggers)) e ∙ written_entry j (event-within j i)) (map_in (λ j. entry_stamp (get_or es j no_entry)) (elements o.events) i)

    by_place : (s : Stamp) → s is_in stamps_from es (elements o.events)
        → (t : Timestamp) × (t is_in stamps_at (stamps_in p passage) o.events) × (s ≡ written (numbers_by_place p.loggers) t)
    unfolding stamps_at stamps_from
    by_place s m =
        let (j, i, e) = map_of (λ j. entry_stamp (get_or es j no_entry)) (elements o.events) m in
        (get_or (stamps_in p passage) j blank_stamp, map_in (λ j. get_or (stamps_in p passage) j blank_stamp) (elements o.events) i, e ∙ sym (written_entry j (event-within j i)))

    small : (t : Timestamp) → t is_in stamps_at (stamps_in p passage) o.events → t.logger < length p.loggers
    unfolding stamps_at
    small t m =
        let (j, i, e) = map_of (λ j. get_or (stamps_in p passage) j blank_stamp) (elements o.events) m in
        rw e (logger-within j (event-within j i))

    fits : (t : Timestamp) → t is_in stamps_at (stamps_in p passage) o.events → StampFits (written (numbers_by_place p.loggers) t)
    unfolding stamps_at
    fits t m =
        let (j, i, e) = map_of (λ j. get_or (stamps_in p passage) j blank_stamp) (elements o.events) m in
        let k = event-within j i in
        let w = member_place p.loggers _ (entry_ok j k).logger in
        subst StampFits (sym (ap (written (numbers_by_place p.loggers)) e ∙ written_entry j k))
        (record { logger = omega (arith, w.1, ok.loggers.small _ w.0); tick = omega (arith, (entry_ok j k).tick) })

    of_latest : (t : Timestamp) → t is_in members o.latest
        → (t is_in stamps_at (stamps_in p passage) o.events) × ((u : Timestamp) → u is_in stamps_at (stamps_in p passage) o.events → before (plan_clocks p) t u ≡ false)
    of_latest = latest_of_lem (plan_clocks p) (stamps_in p passage) (accepted_placeable p passage es ok B h) o x

    latest-written : (t : Timestamp) → t is_in members o.latest → IsLatest (plan_clocks p) (stamps_from es (elements o.events)) (written (numbers_by_place p.loggers) t)
    latest-written t m =
        let (a, none) = of_latest t m in
        record {
          among = by_number t a;
          before-none = λ s i.
              let (u, k, e) = by_place s i in
              ap (stamp_before (plan_clocks p) (written (numbers_by_place p.loggers) t)) e
              ∙ before-written p.loggers ok.loggers (plan_clocks p) t u (small t a) (small u k) ∙ none u k;
        }

    written-latest : (s : Stamp) → IsLatest (plan_clocks p) (stamps_from es (elements o.events)) s → s is_in map (written (numbers_by_place p.loggers)) (members o.latest)
    written-latest s l =
        let (t, a, e) = by_place s l.among in
        let none : (u : Timestamp) → u is_in stamps_at (stamps_in p passage) o.events → before (plan_clocks p) t u ≡ false =
        λ u k. sym (before-written p.loggers ok.loggers (plan_clocks p) t u (small t a) (small u k))
        ∙ ap (λ r. stamp_before (plan_clocks p) r (written (numbers_by_place p.loggers) u)) (sym e) ∙ l.before-none _ (by_number u k) in
        Memᴰ.cast e (map_in (written (numbers_by_place p.loggers)) (members o.latest)
        (latest_in (plan_clocks p) (stamps_in p passage) (accepted_placeable p passage es ok B h) o x t a none))

    place-within : (k : ℕ) → k < 8 → present_at o.latest k ≡ true → k < length p.loggers
    place-within k l e = small (stamp_at o.latest k) (of_latest (stamp_at o.latest k) (stamp_in o.latest k l e)).0

    exact-written : (node : ℕ) → node < length p.nodes → ExactFinding (plan_clocks p) es (finding_of (numbers_by_place p.loggers) node o.latest o.events)
    unfolding finding_of
    exact-written node n = record {
      limits = finding-within (numbers_by_place p.loggers) node o.latest o.events (omega (arith, n, ok.nodes-most)) (λ t m. fits t (of_latest t m).0);
      some = (x.some.0, (elements-has o.events x.some.0).1 x.some.1);
      within = event-within;
      none_besides = λ s m.
          let (t, i, e) = map_of (written (numbers_by_place p.loggers)) (members o.latest) m in
          subst (IsLatest (plan_clocks p) (stamps_from es (elements o.events))) (sym e) (latest-written t i);
      every_one = written-latest;
      rising = loggers-rising (numbers_by_place p.loggers) node o.latest o.events
          (λ i j l a b k. numbers_rise p.loggers ok.loggers i j k (place-within j l b));
    }

  pub shown-exact : (f : Finding) → Shown (Exact (plan_clocks p) (stamps_in p passage)) (numbers_by_place p.loggers) (length p.nodes) f → ExactFinding (plan_clocks p) es f
  shown-exact f s = subst (ExactFinding (plan_clocks p) es) (sym s.same) (exact-written s.made s.holds s.place s.node)

-- ---- two findings whose events have the same set of stamps
module _ (clocks : Clocks) (l m : List Stamp) (same : SameMembers l m) where
  latest_moves : (s : Stamp) → IsLatest clocks l s → IsLatest clocks m s
  latest_moves s i = record { among = same.0 s i.among; before-none = λ t k. i.before-none t (same.1 t k) }

pub stamps-same : (clocks : Clocks) (es es' : List EventEntry) (f f' : Finding) → ExactFinding clocks es f → ExactFinding clocks es' f'
    → SameMembers (stamps_from es f.events) (stamps_from es' f'.events) → f.stamps ≡ f'.stamps
stamps-same clocks es es' f f' x y same =
    keys_same (λ (s : Stamp). s.logger) f.stamps f'.stamps x.rising y.rising (
      (λ s i. y.every_one s (latest_moves clocks _ _ same s (x.none_besides s i))),
      (λ s i. x.every_one s (latest_moves clocks _ _ (same_sym same) s (y.none_besides s i))),
    )
