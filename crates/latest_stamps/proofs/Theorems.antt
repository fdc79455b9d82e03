-- Demand 3 for the files that the readers accept, and what it says of the stamps: each occurrence of a run has a composite stamp.
use mathlib.Core.Bool.{false}
use mathlib.Core.List.{List, map}
use mathlib.Core.Path.{◌≡◌, sym, ◌∙◌}
use Prim.Native.Nat.{ℕ, ◌<◌, ◌≤◌}
use native.Mathlib.Omega.{arith}
use lib.ListN.{get_or, length, take}
use Rattle.sequences.specs.Members.{◌is_in◌, SameMembers}
use Rattle.sequences.proofs.Members.{map_in, map_of}
use Rattle.sequences.proofs.Parts.{member_at}
use Rattle.timestamps.specs.declared.Timestamp.{Timestamp}
use Rattle.timestamps.specs.Composite.{IsComposite, members}
use Rattle.timestamps.specs.Order.{Clocks, before, blank as blank_stamp}
use Rattle.timestamps.proofs.Composites.{composite-same, maxima-composite}
use Rattle.timestamps.proofs.Join.{Placeable, join_of-same, members-join_of}
use Rattle.timestamps.proofs.Maxima.{maxima_in, maxima_of}
use Rattle.event_sets.specs.Sets.{elements}
use Rattle.event_sets.proofs.Members.{elements-has}
use Rattle.occurrences.specs.declared.Occurrence.{Occurrence}
use Rattle.occurrences.specs.Latest.{Exact, stamps_at}
use Rattle.occurrences.proofs.Latest.{stamps_placeable}
use Rattle.detections.specs.Findings.{Finding}
use Rattle.forms.specs.Bytes.{Bytes}
use Rattle.plans.specs.Layout.{Plan, plan_clocks}
use Rattle.plans.specs.Limits.{PlanOk}
use Rattle.passages.specs.declared.Event.{Event}
use Rattle.passages.specs.declared.EventEntry.{EventEntry}
use Rattle.passages.specs.Events.{no_event, passage_events}
use Rattle.passages.specs.Reader.{accepted, read_passage}
use Rattle.passages.proofs.Theorems.{accepted-count, accepted_is_laid_out, accepted-placed}
use Rattle.progress.specs.Progress.{Progress, numbers_by_place, run_of, stamp_of}
use Rattle.latest_stamps.specs.Written.{All, Kept, Shown}
use Rattle.latest_stamps.proofs.Runs.{run_exact}

-- the stamps of an exact occurrence are exactly those of its events' stamps that are before none of them
module _ (clocks : Clocks) (stamps : List Timestamp) (small : Placeable stamps) (o : Occurrence) (x : Exact clocks stamps o) where
  placeable : Placeable (stamps_at stamps o.events)
  placeable = stamps_placeable clocks stamps small o.events x.within

  pub latest_of_lem : (t : Timestamp) → t is_in members o.latest
      → (t is_in stamps_at stamps o.events) × ((u : Timestamp) → u is_in stamps_at stamps o.events → before clocks t u ≡ false)
  latest_of_lem t m = maxima_of (before clocks) (stamps_at stamps o.events) t ((members-join_of clocks (stamps_at stamps o.events) placeable).0 t (rw x.latest at m))

  pub latest_in : (t : Timestamp) → t is_in stamps_at stamps o.events → ((u : Timestamp) → u is_in stamps_at stamps o.events → before clocks t u ≡ false)
      → t is_in members o.latest
  latest_in t m h = rw x.latest ((members-join_of clocks (stamps_at stamps o.events) placeable).1 t (maxima_in (before clocks) (stamps_at stamps o.events) t m h))

  -- and it has a composite stamp: there is one, and they are pairwise concurrent
  pub exact-composite : IsComposite clocks (members o.latest)
  unfolding stamps_at
  exact-composite =
      let (j, e) = x.some in
      let some = map_in (λ j. get_or stamps j blank_stamp) (elements o.events) ((elements-has o.events j).1 e) in
      rw x.latest
      (composite-same clocks (members-join_of clocks (stamps_at stamps o.events) placeable) (maxima-composite clocks (stamps_at stamps o.events) _ some))

-- two of one or two passages whose events have the same set of stamps carry the same latest stamps
pub latest-same : (clocks : Clocks) (stamps stamps' : List Timestamp) (o o' : Occurrence) → Exact clocks stamps o → Exact clocks stamps' o'
    → SameMembers (stamps_at stamps o.events) (stamps_at stamps' o'.events) → o.latest ≡ o'.latest
latest-same clocks stamps stamps' o o' x y s = x.latest ∙ join_of-same clocks _ _ s ∙ sym y.latest

-- what each occurrence with a property P has, each of a run has
module _ (P Q : Occurrence → Type 0) (gives : (o : Occurrence) → P o → Q o) where
  all_gives : (l : List Occurrence) → All P l → All Q l
  all_gives l h o m = gives o (h o m)

  shown_gives : (loggers : List ℕ) (n : ℕ) (f : Finding) → Shown P loggers n f → Shown Q loggers n f
  shown_gives loggers n f s = record { place = s.place; node = s.node; made = s.made; same = s.same; holds = gives s.made s.holds }

  pub kept_gives : (loggers : List ℕ) (n i : ℕ) (p : Progress) → Kept P loggers n i p → Kept Q loggers n i p
  kept_gives loggers n i p k =
      let w = k.written in
      record {
        waiting = λ w m. (all_gives w.left (k.waiting w m).0, all_gives w.middle (k.waiting w m).1);
        made = λ l m. all_gives l (k.made l m);
        written = record { findings = w.findings; many = w.many; laid = w.laid; each = λ f m. shown_gives loggers n f (w.each f m) };
        event = k.event;
      }

-- the stamps of an accepted passage have a place each
module _ (p : Plan) (b : List ℕ) (es : List EventEntry) (ok : PlanOk p) (B : Bytes b) (h : read_passage p b ≡ accepted es) where
  pub accepted_placeable : Placeable (map stamp_of (passage_events p b))
  accepted_placeable t m =
      let (e, i, same) = map_of stamp_of (passage_events p b) m in
      let few : (e : Event) → e is_in passage_events p b → e.logger < 8 =
      λ e i. member_at (λ e. e.logger < 8) (passage_events p b) no_event
      (λ k j. omega (arith, (accepted-placed p b es B h k (omega (arith, accepted-count p b es B h))).logger, ok.loggers.most)) i in
      rw same (few e i)

  -- demand 3, for every plan and passage that the readers accept and every output length, after every event, limits included
  pub accepted-exact : (room i : ℕ) → i ≤ length es
      → Kept (Exact (plan_clocks p) (map stamp_of (passage_events p b))) (numbers_by_place p.loggers) (length p.nodes) i (run_of room p (take i (passage_events p b)))
  accepted-exact room i k =
      run_exact room p (passage_events p b) accepted_placeable (omega (arith, accepted-count p b es B h, (accepted_is_laid_out p b es B h).1.most))
      i (omega (arith, accepted-count p b es B h))

  -- and so of every such run: all that waits, was made or was written has a composite stamp
  pub accepted-composite : (room i : ℕ) → i ≤ length es
      → Kept (λ o. IsComposite (plan_clocks p) (members o.latest)) (numbers_by_place p.loggers) (length p.nodes) i (run_of room p (take i (passage_events p b)))
  accepted-composite room i k =
      kept_gives _ _ (exact-composite (plan_clocks p) (map stamp_of (passage_events p b)) accepted_placeable) _ _ i _ (accepted-exact room i k)
