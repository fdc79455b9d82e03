-- What the ten numbers say of each logger place, and of the timestamps of what they stand for.
use Rattle.std.proofs.Common.{◌≡◌, ℕ, ◌+◌, ◌-◌, ◌<◌, Bool, false, ltb, List, map, length, get_or, drop, sym, ap, ◌∙◌, arith, length-drop, get_or-drop, ext_get_or, ltb-true, lt-ltb}
use lib.ListN.{length-map, get_or-map}
use Rattle.sequences.specs.Members.{◌is_in◌}
use Rattle.sequences.proofs.Range.{length_range}
use Rattle.timestamps.specs.declared.CompositeTimestamp.{CompositeTimestamp}
use Rattle.timestamps.specs.declared.LocalTick.{LocalTick}
use Rattle.timestamps.specs.declared.Timestamp.{Timestamp}
use Rattle.timestamps.specs.Composite.{logger_places, members, present_at, tick_zero}
use Rattle.timestamps.proofs.Composite.{Holds, at_place, members_in, members_of}
use Rattle.occurrences.specs.Packed.{from_words}

-- the word of a logger place
abbrev pub word_at : List ℕ → ℕ → ℕ
word_at w k = get_or w (2 + k) 0

abbrev pub latest_of : List ℕ → CompositeTimestamp
latest_of w = (from_words w).latest

-- its tick
abbrev pub tick_of : ℕ → LocalTick
tick_of v = record { 0 = v - 1 }

module _ (w : List ℕ) where
  pub present_at_lem : (k : ℕ) → present_at (latest_of w) k ≡ ltb 0 (word_at w k)
  unfolding from_words
  present_at_lem k = get_or-map (ltb 0) (drop 2 w) k 0 ∙ ap (ltb 0) (get_or-drop 2 w k 0)

  pub tick-at : (k : ℕ) → get_or (latest_of w).ticks k tick_zero ≡ tick_of (word_at w k)
  unfolding from_words
  tick-at k = get_or-map tick_of (drop 2 w) k 0 ∙ ap tick_of (get_or-drop 2 w k 0)

  -- the timestamps
  pub member_word : (s : Timestamp) → s is_in members (latest_of w) → (s.logger < 8) × (word_at w s.logger ≡ s.tick.0 + 1)
  member_word s m =
      let h : Holds (latest_of w) s = members_of (latest_of w) s m in
      let p : 0 < word_at w s.logger = ltb-true 0 (word_at w s.logger) (sym (present_at_lem s.logger) ∙ h.there) in
      let t : word_at w s.logger - 1 ≡ s.tick.0 = ap (λ (x : LocalTick). x.0) (sym (tick-at s.logger) ∙ h.tick) in
      (h.place, omega arith)

  pub word_member : (s : Timestamp) → s.logger < 8 → word_at w s.logger ≡ s.tick.0 + 1 → s is_in members (latest_of w)
  word_member s l e =
      let t : word_at w s.logger - 1 ≡ s.tick.0 = omega arith in
      members_in (latest_of w) s (record {
        place = l;
        there = present_at_lem s.logger ∙ lt-ltb 0 (word_at w s.logger) (omega arith);
        tick = tick-at s.logger ∙ (λ i. record { 0 = t i });
      })

  -- the whole, place by place
  pub latest_places : (p : ℕ → Bool) (t : ℕ → LocalTick) → length w ≡ 10 → ((k : ℕ) → k < 8 → ltb 0 (word_at w k) ≡ p k) → ((k : ℕ) → k < 8 → tick_of (word_at w k) ≡ t k)
      → latest_of w ≡ record { present = map p logger_places; ticks = map t logger_places }
  unfolding from_words
  latest_places p t n f g = λ i. record {
    present = ext_get_or false (map (ltb 0) (drop 2 w)) (map p logger_places) (eight (ltb 0) ∙ sym (places p)) (λ k h.
        let l : k < 8 = rw (eight (ltb 0)) at h in present_at_lem k ∙ f k l ∙ sym (at_place p false k l)) i;
    ticks = ext_get_or tick_zero (map tick_of (drop 2 w)) (map t logger_places) (eight tick_of ∙ sym (places t)) (λ k h.
        let l : k < 8 = rw (eight tick_of) at h in tick-at k ∙ g k l ∙ sym (at_place t tick_zero k l)) i;
  }
    where
      eight : {B : Type 0} (q : ℕ → B) → length (map q (drop 2 w)) ≡ 8
      eight q = length-map (drop 2 w) q ∙ length-drop 2 w ∙ omega arith

      places : {B : Type 0} (q : ℕ → B) → length (map q logger_places) ≡ 8
      places q = length-map logger_places q ∙ length_range 0 8
