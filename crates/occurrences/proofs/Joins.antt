-- The join by notes: of each logger the later stamp, and of these those that are not clearly earlier than the highest global tick, are those before none.
use Rattle.std.proofs.Common.{◌≡◌, ℕ, ◌+◌, ◌-◌, ◌<◌, ◌≤◌, max, Bool, true, ◌⊎◌, List, [], ◌∷◌, ◌++◌, get_or, sym, refl, ap, ◌∙◌, ap₂, inl, inr, ⊎_elim, arith, le-ltb, lt-ltb}
use mathlib.Core.List.Memᴰ
use native.Mathlib.Decide.{dec_lt}
use Rattle.sequences.specs.Members.{◌is_in◌, SameMembers}
use Rattle.sequences.proofs.Booleans.{false_of_not_true, never_both}
use Rattle.sequences.proofs.Members.{same_sym, same_trans}
use Rattle.event_sets.specs.declared.EventSet.{EventSet}
use Rattle.event_sets.specs.Sets.{union_of}
use Rattle.timestamps.specs.declared.Timestamp.{Timestamp}
use Rattle.timestamps.specs.Composite.{members}
use Rattle.timestamps.specs.Join.{join_of}
use Rattle.timestamps.specs.Maxima.{maxima}
use Rattle.timestamps.specs.Order.{Clocks, before}
use Rattle.timestamps.proofs.Composite.{composite_of-same}
use Rattle.timestamps.proofs.Composites.{composite-same, maxima-composite}
use Rattle.timestamps.proofs.Maxima.{Covers, maxima_covered, maxima_in, maxima_of}
use Rattle.timestamps.proofs.Stamps.{Before, before-is, before-says, before_strict, clear_before, global, one_clock, two-clocks}
use Rattle.occurrences.specs.declared.Occurrence.{Occurrence}
use Rattle.occurrences.specs.Combination.{combined_of}
use Rattle.occurrences.specs.Packed.{Names, Notes, Stands, byte_at, from_words, occurrence_of, words_of}
use Rattle.occurrences.specs.Steps.{Bytes, Highest, Settled, kept_of, later_at, later_of, note_at}
use Rattle.occurrences.proofs.Bytes.{byte_small, bytes-some}
use Rattle.occurrences.proofs.Combination.{same-occurrence}
use Rattle.occurrences.proofs.Seen.{Seen, seen-sound, seen-stands, stamp_told, stands-composite}
use Rattle.occurrences.proofs.Views.{latest_in, stamp, stamps_one, stamps_in, view_is}

module _ (clocks : Clocks) where
  abbrev R : Timestamp → Timestamp → Bool
  R = before clocks

  -- ---- the later stamp of each logger: no stamp that is before none goes
  module _ (v g w h u i : ℕ → ℕ) (k l m : List Timestamp) (a : Seen clocks v g k) (b : Seen clocks w h l) (c : Seen clocks u i m)
      (later : (j : ℕ) → j < 8 → u j ≡ max (v j) (w j)) where
    -- a stamp whose note is not above the later one is there, or before the one that is
    reach : (s : Timestamp) → s.logger < 8 → s.tick.0 + 1 ≤ u s.logger → (s is_in m) ⊎ ((t : Timestamp) × (t is_in m) × (R s t ≡ true))
    reach s p e = elim (dec_lt (s.tick.0 + 1) (u s.logger)) [
      | yes o ↦ inr (stamp s.logger (u s.logger), c.member (stamp s.logger (u s.logger)) p (omega arith), before-is clocks s (stamp s.logger (u s.logger)) (one_clock refl (omega arith)))
      | no o ↦ inl (c.member s p (omega arith))
    ]

    pub merged_covers : Covers R m (k ++ l)
    merged_covers = record {
      within = λ s n. (
          let p : s.logger < 8 = c.place s n in
          let e : u s.logger ≡ s.tick.0 + 1 = c.local s n in
          let f : u s.logger ≡ max (v s.logger) (w s.logger) = later s.logger p in
          elim (dec_lt (v s.logger) (w s.logger)) [
            | yes o ↦ Memᴰ.append_right k (b.member s p (omega arith))
            | no o ↦ Memᴰ.append_left l (a.member s p (omega arith))
          ]);
      reached = λ s n. ⊎_elim
          (λ j. let p : s.logger < 8 = a.place s j in let e : v s.logger ≡ s.tick.0 + 1 = a.local s j in
          let f : u s.logger ≡ max (v s.logger) (w s.logger) = later s.logger p in reach s p (omega arith))
          (λ j. let p : s.logger < 8 = b.place s j in let e : w s.logger ≡ s.tick.0 + 1 = b.local s j in
          let f : u s.logger ≡ max (v s.logger) (w s.logger) = later s.logger p in reach s p (omega arith))
          (Memᴰ.append_cases k n);
    }

  -- ---- those that are not clearly earlier than the highest are before none, and no others
  module _ (u i x : ℕ → ℕ) (m n : List Timestamp) (c : Seen clocks u i m) (h : ℕ) (top : Highest 8 i h)
      (place : (s : Timestamp) → s is_in n → s.logger < 8) (local : (s : Timestamp) → s is_in n → x s.logger ≡ s.tick.0 + 1)
      (member : (s : Timestamp) → s.logger < 8 → x s.logger ≡ s.tick.0 + 1 → s is_in n)
      (small : (j : ℕ) → j < 8 → i j < h - 1 → x j ≡ 0) (large : (j : ℕ) → j < 8 → h - 1 ≤ i j → x j ≡ u j) where
    -- one that is kept
    kept-none : (s : Timestamp) → s is_in m → h - 1 ≤ i s.logger → (t : Timestamp) → t is_in m → Before clocks s t → ⊥
    kept-none s p f t q (one_clock e l) =
        let y : u s.logger ≡ s.tick.0 + 1 = c.local s p in
        let z : u s.logger ≡ t.tick.0 + 1 = ap u e ∙ c.local t q in
        omega arith
    kept-none s p f t q (two-clocks d l) =
        let y : i s.logger ≡ global clocks s + 1 = c.whole s p in
        let z : i t.logger ≡ global clocks t + 1 = c.whole t q in
        let o : i t.logger ≤ h = top.most t.logger (c.place t q) in
        omega arith

    -- one that is not
    gone_before : (s : Timestamp) → s is_in m → i s.logger < h - 1 → (t : Timestamp) × (t is_in m) × (R s t ≡ true)
    gone_before s p f =
        let y : i s.logger ≡ global clocks s + 1 = c.whole s p in
        let (j, o, e) = top.some (omega arith) in
        let (t, q, a, b) = stamp_told clocks u i m c j o (omega arith) in
        (t, q, clear_before clocks s t (omega arith))

    pub settled_maxima : SameMembers (maxima R m) n
    settled_maxima = (up, down)
      where
        up : (s : Timestamp) → s is_in maxima R m → s is_in n
        up s p =
            let (q, f) = maxima_of R m s p in
            let y : u s.logger ≡ s.tick.0 + 1 = c.local s q in
            elim (dec_lt (i s.logger) (h - 1)) [
              | yes l ↦ (let (t, o, e) = gone_before s q l in absurd (never_both e (f t o)))
              | no l ↦ member s (c.place s q) (large s.logger (c.place s q) (omega arith) ∙ y)
            ]

        down : (s : Timestamp) → s is_in n → s is_in maxima R m
        down s p =
            let l : s.logger < 8 = place s p in
            let e : x s.logger ≡ s.tick.0 + 1 = local s p in
            elim (dec_lt (i s.logger) (h - 1)) [
              | yes o ↦ (let z : x s.logger ≡ 0 = small s.logger l o in absurd (omega arith))
              | no o ↦ (let z : x s.logger ≡ u s.logger = large s.logger l (omega arith) in
                  let q : s is_in m = c.member s l (omega arith) in
                  maxima_in R m s q (λ t r. false_of_not_true (R s t) (λ y. kept-none s q (omega arith) t r (before-says clocks s t y))))
            ]

-- ---- the bytes
module _ (ticks : List ℕ) (i j : ℕ) where
  pub later_second : get_or ticks i 0 < get_or ticks j 0 → later_of ticks i j ≡ j
  unfolding later_of
  later_second l = rw (lt-ltb (get_or ticks i 0) (get_or ticks j 0) l)

  pub later_first : get_or ticks j 0 ≤ get_or ticks i 0 → later_of ticks i j ≡ i
  unfolding later_of
  later_first l = rw (le-ltb (get_or ticks i 0) (get_or ticks j 0) l)

  pub later_note : get_or ticks (later_of ticks i j) 0 ≡ max (get_or ticks i 0) (get_or ticks j 0)
  later_note = elim (dec_lt (get_or ticks i 0) (get_or ticks j 0)) [
    | yes l ↦ rw (later_second l) (omega arith)
    | no l ↦ rw (later_first (omega arith)) (omega arith)
  ]

  -- it is one of the two
  pub later_one : (P : ℕ → Type 0) → P i → P j → P (later_of ticks i j)
  later_one P p q = elim (dec_lt (get_or ticks i 0) (get_or ticks j 0)) [
    | yes l ↦ rw (later_second l) q
    | no l ↦ rw (later_first (omega arith)) p
  ]

module _ (globals : List ℕ) (h n : ℕ) where
  pub kept_small : get_or globals n 0 < h - 1 → kept_of globals h n ≡ 0
  unfolding kept_of
  kept_small l = rw (lt-ltb (get_or globals n 0 + 1) h (omega arith))

  pub kept_large : h - 1 ≤ get_or globals n 0 → kept_of globals h n ≡ n
  unfolding kept_of
  kept_large l = rw (le-ltb (get_or globals n 0 + 1) h (omega arith))

  -- it is the event, or none
  pub kept_one : (P : ℕ → Type 0) → P 0 → P n → P (kept_of globals h n)
  kept_one P z p = elim (dec_lt (get_or globals n 0) (h - 1)) [
    | yes l ↦ rw (kept_small l) z
    | no l ↦ rw (kept_large (omega arith)) p
  ]

-- ---- the whole, with a word that has the later of each logger
module _ (ticks globals : List ℕ) (a b : List ℕ) (m h r : ℕ) (e : EventSet)
    (later : Bytes 8 (later_at ticks (get_or a 2 0) (get_or b 2 0)) m)
    (top : Highest 8 (λ k. get_or globals (later_at ticks (get_or a 2 0) (get_or b 2 0) k) 0) h)
    (kept : Bytes 8 (λ k. kept_of globals h (byte_at m k)) r)
    (united : e ≡ union_of (record { low = get_or a 0 0; high = get_or a 1 0 }) (record { low = get_or b 0 0; high = get_or b 1 0 })) where
  abbrev both : List ℕ
  both = e.low ∷ e.high ∷ r ∷ []

  module _ (n : Notes ticks globals) (x y : Occurrence) (p : Stands n a x) (q : Stands n b y) where
    abbrev all : List Timestamp
    all = members x.latest ++ members y.latest

    merged_names : (k : ℕ) → k < 8 → Names n.stamps k (byte_at m k)
    merged_names k l = rw (later.bytes k l) (later_one ticks (byte_at (get_or a 2 0) k) (byte_at (get_or b 2 0) k) (Names n.stamps k) (p.sound.names k l) (q.sound.names k l))

    kept-sound : (k : ℕ) → k < 8 → Names n.stamps k (byte_at r k)
    kept-sound k l = rw (kept.bytes k l) (kept_one globals h (byte_at m k) (Names n.stamps k) (inl refl) (merged_names k l))

    seen_m : Seen n.clocks (note_at ticks m) (note_at globals m) (stamps_in ticks m)
    seen_m = seen-sound n m merged_names

    seen_r : Seen n.clocks (note_at ticks r) (note_at globals r) (stamps_in ticks r)
    seen_r = seen-sound n r kept-sound

    covers : Covers (before n.clocks) (stamps_in ticks m) all
    covers = merged_covers n.clocks _ _ _ _ _ _ (members x.latest) (members y.latest) (stamps_in ticks m)
        (seen-stands n a x p) (seen-stands n b y q) seen_m
        (λ k l. ap (λ b. get_or ticks b 0) (later.bytes k l) ∙ later_note ticks (byte_at (get_or a 2 0) k) (byte_at (get_or b 2 0) k))

    top_m : Highest 8 (note_at globals m) h
    top_m = record {
      most = λ k l. rw (later.bytes k l) (top.most k l);
      some = λ o. let (k, l, e) = top.some o in (k, l, ap (λ b. get_or globals b 0) (later.bytes k l) ∙ e);
    }

    settled : SameMembers (maxima (before n.clocks) (stamps_in ticks m)) (stamps_in ticks r)
    settled = settled_maxima n.clocks _ _ (note_at ticks r) (stamps_in ticks m) (stamps_in ticks r) seen_m h top_m seen_r.place seen_r.local seen_r.member
        (λ k l o. ap (λ b. get_or ticks b 0) (kept.bytes k l ∙ kept_small globals h (byte_at m k) (omega arith)) ∙ n.no_tick)
        (λ k l o. ap (λ b. get_or ticks b 0) (kept.bytes k l ∙ kept_large globals h (byte_at m k) (omega arith)))

    joined : SameMembers (stamps_in ticks r) (maxima (before n.clocks) all)
    joined = same_trans (same_sym settled) (maxima_covered (before n.clocks) (before_strict n.clocks) (stamps_in ticks m) all covers)

    latest-is : (occurrence_of ticks both).latest ≡ join_of n.clocks all
    unfolding join_of
    latest-is = latest_in ticks both ∙ view_is ticks r ∙ composite_of-same (stamps_in ticks r) (maxima (before n.clocks) all) joined (stamps_one ticks r)

    events-is : (occurrence_of ticks both).events ≡ union_of x.events y.events
    unfolding from_words words_of
    events-is = united ∙ ap₂ union_of (ap (λ (o : Occurrence). o.events) p.same) (ap (λ (o : Occurrence). o.events) q.same)

    is_combined : occurrence_of ticks both ≡ combined_of n.clocks x y
    unfolding combined_of
    is_combined = same-occurrence latest-is events-is

    merged_stands : Stands n both (combined_of n.clocks x y)
    merged_stands = record {
      same = is_combined;
      sound = record {
        names = kept-sound;
        composite = rw (latest_in ticks both) (composite-same n.clocks joined
            (maxima-composite n.clocks all (stands-composite n a x p).some.0 (Memᴰ.append_left (members y.latest) (stands-composite n a x p).some.1)));
      };
    }

-- there is such a word
module _ {ticks globals : List ℕ} (n : Notes ticks globals) (x y : Occurrence) (a b : List ℕ) (p : Stands n a x) (q : Stands n b y) (r : ℕ) (e : EventSet)
    (done : Settled globals (later_at ticks (get_or a 2 0) (get_or b 2 0)) r)
    (united : e ≡ union_of (record { low = get_or a 0 0; high = get_or a 1 0 }) (record { low = get_or b 0 0; high = get_or b 1 0 })) where
  pub combined_stands : Stands n (e.low ∷ e.high ∷ r ∷ []) (combined_of n.clocks x y)
  combined_stands =
      let (m, later) = bytes-some 8 (later_at ticks (get_or a 2 0) (get_or b 2 0)) (omega arith)
      (λ k l. later_one ticks _ _ (λ i. i < 256) (byte_small (get_or a 2 0) k) (byte_small (get_or b 2 0) k)) in
      merged_stands ticks globals a b m done.highest r e later done.top
      (record { size = done.kept.size; bytes = λ k l. done.kept.bytes k l ∙ sym (ap (kept_of globals done.highest) (later.bytes k l)) })
      united n x y p q
