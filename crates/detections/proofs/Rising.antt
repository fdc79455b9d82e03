-- The numbers of the loggers rise in a finding.
use mathlib.Core.Path.{◌≡◌, refl}
use mathlib.Core.List.Memᴰ
use mathlib.Core.List.{List, [], ◌∷◌, map}
use mathlib.Core.Bool.{true}
use Prim.Native.Nat.{ℕ, ◌<◌}
use lib.ListN.{get_or}
use Rattle.sequences.specs.Members.{◌is_in◌}
use Rattle.sequences.specs.Range.{Rising}
use Rattle.sequences.specs.Select.{filter}
use Rattle.sequences.proofs.Members.{map_of}
use Rattle.sequences.proofs.Range.{range_of, range_rising}
use Rattle.sequences.proofs.Select.{filter_of, filter-rising}
use Rattle.timestamps.specs.declared.CompositeTimestamp.{CompositeTimestamp}
use Rattle.timestamps.specs.Composite.{logger_places, present_at, stamp_at, members}
use Rattle.event_sets.specs.declared.EventSet.{EventSet}
use Rattle.detections.specs.declared.Stamp.{Stamp}
use Rattle.detections.specs.Views.{written, finding_of}

-- ---- through functions that rise together on its members
rising-map : {A B : Type 0} (f : B → ℕ) (g : A → B) (p : ℕ → A) (l : List ℕ) → Rising l
    → ((i j : ℕ) → i is_in l → j is_in l → i < j → f (g (p i)) < f (g (p j))) → Rising (map f (map g (map p l)))
unfolding Rising
rising-map f g p [] r h = tt
rising-map f g p (a ∷ l) r h = (
  (λ b m.
      let (y, i, e) = map_of f (map g (map p l)) m in
      let (x, j, d) = map_of g (map p l) i in
      let (n, k, c) = map_of p l j in
      rw (e, d, c) (h a n (Memᴰ.head refl) (Memᴰ.tail k) (r.0 n k))),
  rising-map f g p l r.1 (λ i j m n. h i j (Memᴰ.tail m) (Memᴰ.tail n)),
)

-- the stamps of a finding are written by rising logger, where the numbers rise with the places that have one
pub loggers-rising : (loggers : List ℕ) (node : ℕ) (c : CompositeTimestamp) (s : EventSet)
    → ((i j : ℕ) → j < 8 → present_at c i ≡ true → present_at c j ≡ true → i < j → get_or loggers i 0 < get_or loggers j 0)
    → Rising (map (λ (t : Stamp). t.logger) (finding_of loggers node c s).stamps)
unfolding finding_of members
loggers-rising loggers node c s h =
    let there = filter (present_at c) logger_places in
    rising-map (λ (t : Stamp). t.logger) (written loggers) (stamp_at c) there (filter-rising (present_at c) logger_places (range_rising 0 8))
    (λ i j m n l. let (within, present) = filter_of (present_at c) logger_places n in h i j (range_of 0 8 within).1 (filter_of (present_at c) logger_places m).1 present l)
