-- How two lists stand to each other, by what is noted of them.
use Rattle.std.proofs.Common.{◌≡◌, ℕ, ◌+◌, ◌-◌, ◌<◌, ◌≤◌, Bool, true, false, not, ◌&&◌, ◌||◌, eqb, ltb, List, [], ◌∷◌, sym, refl, ap, ◌∙◌, ⊎_elim, arith, le-ltb, lt-ltb, eq-eqb, ne_eqb, eqb-true}
use mathlib.Core.Bool.{and-true, or-false, or-true}
use native.Mathlib.Decide.{ℕ_discrete}
use Rattle.sequences.specs.Choice.{pick}
use Rattle.sequences.specs.Loops.{fold}
use Rattle.sequences.specs.Members.{◌is_in◌}
use Rattle.sequences.specs.Range.{numbers_from}
use Rattle.sequences.specs.Select.{each_passes, some_passes}
use Rattle.sequences.proofs.Booleans.{never_both, or_cases, or_left, or_right, same_test}
use Rattle.sequences.proofs.Range.{all_done, all_turn, each_done, each_turn, range_in, range_of}
use Rattle.sequences.proofs.Select.{all_and, all_in, all_not, all_of, all_same}
use Rattle.timestamps.specs.declared.GlobalTick.{GlobalTick}
use Rattle.timestamps.specs.declared.LocalTick.{LocalTick}
use Rattle.timestamps.specs.declared.Order.TheVariants.{Incomparable, Before, After, Concurrent}
use Rattle.timestamps.specs.declared.Timestamp.{Timestamp}
use Rattle.timestamps.specs.Comparison.{all_before, all_concurrent, order_of, relation_of, says, stamps_weakly_before}
use Rattle.timestamps.specs.Composite.{logger_places}
use Rattle.timestamps.specs.Order.{Clocks, before, clearly_earlier, clocks_of, concurrent, global_of}
use Rattle.timestamps.proofs.Composite.{same-stamp}
use Rattle.timestamps.proofs.Composites.{concurrent-weakly}
use Rattle.timestamps.proofs.Words.{after_not_weakly}
use Rattle.open_calls.specs.Notes.{local_note, note_at}
use Rattle.comparisons.specs.declared.Gathering.{Gathering}
use Rattle.comparisons.specs.declared.Around.{Around}
use Rattle.comparisons.specs.declared.Replies.{Replies}
use Rattle.comparisons.specs.declared.Span.{Span}
use Rattle.comparisons.specs.Notes.{NotedList, all_related, around_of, each_has_earlier, global_at, has_earlier, has_earlier_at, no_lowest, noted_at, order_noted, related_at, related_by, related_lists, related_next, relation_noted, tick_of}
use Rattle.comparisons.proofs.Notes.{met_earlier, met_later}

and_thrice : (x y z : Bool) → ((x && y) && z) ≡ (x && (y && z))
and_thrice true y z = refl
and_thrice false y z = refl

-- ---- as the code tells it
module _ (a : Span) (own : ℕ) (t : LocalTick) (g : GlobalTick) (e l : Bool) (p : e ≡ clearly_earlier a.lowest g) (q : l ≡ clearly_earlier g a.highest) where
  pub around_none : own ≡ 0 → ◌≡◌ {A = Around} (record { earlier = e; later = l }) (around_of a own t g)
  unfolding around_of
  around_none z = rw (le-ltb 0 own (omega arith), p, q) (λ i. record {
    earlier = sym (or-false (clearly_earlier a.lowest g)) i;
    later = sym (or-false (clearly_earlier g a.highest)) i;
  })

  pub around_own : (b c : Bool) → (own ≡ 0 → ⊥) → b ≡ (e || ltb (own - 1) t.0) → c ≡ (l || ltb t.0 (own - 1))
      → ◌≡◌ {A = Around} (record { earlier = b; later = c }) (around_of a own t g)
  unfolding around_of
  around_own b c z h k = rw (lt-ltb 0 own (omega (arith, z)), h, k, p, q)

pub related_told : (a : Span) (own note : ℕ) (g : GlobalTick) (r : Replies) (m : Around) (b c w : Bool) → (note ≡ 0 → ⊥) → m ≡ around_of a own (tick_of note) g
    → b ≡ (r.before && m.earlier) → c ≡ ((r.concurrent && not m.earlier) && not m.later) → w ≡ (r.weakly_before && not m.later)
    → ◌≡◌ {A = Replies} (record { before = b; concurrent = c; weakly_before = w }) (related_at a own note g r)
unfolding related_at
related_told a own note g r m b c w z e h j k = rw (ne_eqb note 0 z, ← e, h, j, k) (λ i. record {
  before = r.before && m.earlier;
  concurrent = and_thrice r.concurrent (not m.earlier) (not m.later) i;
  weakly_before = r.weakly_before && not m.later;
})

-- from place k on
unfoldable pub related_rest : Gathering → Gathering → Replies → ℕ → Replies
related_rest a b r k = fold (related_next a b) (numbers_from k (8 - k)) r

module _ (a b : Gathering) where
  pub rest-start : related_rest a b all_related 0 ≡ related_lists a b
  unfolding related_lists related_rest
  rest-start = refl

  pub rest_turn : (r q : Replies) (k : ℕ) → k < 8 → q ≡ related_next a b r k → related_rest a b q (k + 1) ≡ related_rest a b r k
  unfolding related_rest
  rest_turn r q k l e = rw e (each_turn (related_next a b) 8 k r l)

  pub rest_end : (r : Replies) (k : ℕ) → 8 ≤ k → r ≡ related_rest a b r k
  unfolding related_rest
  rest_end r k l = sym (each_done (related_next a b) 8 k r l)

-- each place from k on
unfoldable pub earlier_rest : ℕ → Gathering → Gathering → ℕ → Bool
earlier_rest ratio a b k = each_passes (has_earlier_at ratio a b) (numbers_from k (8 - k))

module _ (ratio : ℕ) (a b : Gathering) where
  pub earlier_start : earlier_rest ratio a b 0 ≡ each_has_earlier ratio a b
  unfolding earlier_rest each_has_earlier
  earlier_start = refl

  pub earlier_turn : (k : ℕ) (h : Bool) → k < 8 → h ≡ has_earlier_at ratio a b k → (h && earlier_rest ratio a b (k + 1)) ≡ earlier_rest ratio a b k
  unfolding earlier_rest
  earlier_turn k h l e = rw e (all_turn (has_earlier_at ratio a b) 8 k true l)

  pub earlier_end : (k : ℕ) → 8 ≤ k → true ≡ earlier_rest ratio a b k
  unfolding earlier_rest
  earlier_end k l = sym (all_done (has_earlier_at ratio a b) 8 k true l)

-- ---- all the places
-- where a place is passed over, nothing changes
abbrev one_more : Bool → Replies → Around → Replies
one_more skipped r m = pick skipped r (related_by r m)

one_more_lem : (p : Bool) (r : Replies) (m : Around) (x y z : Bool) → ◌≡◌ {A = Replies}
    (record { before = (one_more p r m).before && x; concurrent = (one_more p r m).concurrent && y; weakly_before = (one_more p r m).weakly_before && z })
    (record {
      before = r.before && ((p || m.earlier) && x);
      concurrent = r.concurrent && ((p || (not m.earlier && not m.later)) && y);
      weakly_before = r.weakly_before && ((p || not m.later) && z);
    })
one_more_lem true r m x y z = refl
one_more_lem false r m x y z = λ i. record {
  before = and_thrice r.before m.earlier x i;
  concurrent = and_thrice r.concurrent (not m.earlier && not m.later) y i;
  weakly_before = and_thrice r.weakly_before (not m.later) z i;
}

module _ (skip : ℕ → Bool) (m : ℕ → Around) where
  fold-related : (ks : List ℕ) (r : Replies) → fold (λ q k. one_more (skip k) q (m k)) ks r ≡ record {
    before = r.before && each_passes (λ k. skip k || (m k).earlier) ks;
    concurrent = r.concurrent && each_passes (λ k. skip k || (not (m k).earlier && not (m k).later)) ks;
    weakly_before = r.weakly_before && each_passes (λ k. skip k || not (m k).later) ks;
  }
  unfolding fold each_passes
  fold-related [] r = λ i. record {
    before = sym (and-true r.before) i;
    concurrent = sym (and-true r.concurrent) i;
    weakly_before = sym (and-true r.weakly_before) i;
  }
  fold-related (k ∷ ks) r = fold-related ks (one_more (skip k) r (m k)) ∙ one_more_lem (skip k) r (m k) _ _ _

-- a test over a list, as one over the places
all_noted : (clocks : Clocks) (l : List Timestamp) (a : Gathering) → NotedList clocks l a → (p : Timestamp → Bool)
    → each_passes p l ≡ each_passes (λ k. eqb (note_at a.notes k) 0 || p (noted_at a.notes k)) logger_places
all_noted clocks l a n p =
    same_test (each_passes p l) (each_passes test logger_places) (λ h. all_in test logger_places (λ k i. there h k (range_of 0 8 i).1)) (λ h. all_in p l (back h))
  where
    test : ℕ → Bool
    test k = eqb (note_at a.notes k) 0 || p (noted_at a.notes k)

    there : each_passes p l ≡ true → (k : ℕ) → k < 8 → test k ≡ true
    there h k m = elim (ℕ_discrete (note_at a.notes k) 0) [
      | yes z ↦ or_left (eqb (note_at a.notes k) 0) (p (noted_at a.notes k)) (eq-eqb (note_at a.notes k) 0 z)
      | no z ↦ or_right (eqb (note_at a.notes k) 0) (p (noted_at a.notes k)) (all_of p l h (n.held k m (omega (arith, z))))
    ]

    back : each_passes test logger_places ≡ true → (s : Timestamp) → s is_in l → p s ≡ true
    back h s i =
        let o : note_at a.notes s.logger ≡ local_note s = (n.each s i).local in
        ⊎_elim
        (λ z. absurd (let e : note_at a.notes s.logger ≡ 0 = eqb-true (note_at a.notes s.logger) 0 z in omega arith))
        (λ y. ap p (same-stamp s (noted_at a.notes s.logger) refl (omega arith)) ∙ y)
        (or_cases (eqb (note_at a.notes s.logger) 0) (p (noted_at a.notes s.logger)) (all_of test logger_places h (range_in 0 8 s.logger (omega arith) (n.each s i).place)))

-- ---- and as document 01 has it
module _ (clocks : Clocks) (a b : List Timestamp) (first second : Gathering) (n : NotedList clocks a first) (o : NotedList clocks b second) where
  abbrev own : ℕ → ℕ
  own k = note_at first.notes k

  abbrev note : ℕ → ℕ
  note k = note_at second.notes k

  abbrev skip : ℕ → Bool
  skip k = eqb (note k) 0

  abbrev around : ℕ → Around
  around k = around_of first.span (own k) (tick_of (note k)) (global_at second.globals k)

  abbrev stamp : ℕ → Timestamp
  stamp k = noted_at second.notes k

  abbrev some_earlier : Timestamp → Bool
  some_earlier t = some_passes (λ s. before clocks s t) a

  abbrev some_later : Timestamp → Bool
  some_later t = some_passes (before clocks t) a

  -- the global tick of a noted one is not the largest number
  small : (k : ℕ) → k < 8 → (note k ≡ 0 → ⊥) → (global_of clocks (stamp k)).0 < no_lowest
  small k m z = let y = (o.each (stamp k) (o.held k m (omega (arith, z)))).high in let w = o.fits in omega (arith, y, w)

  met : (k : ℕ) → k < 8 → (note k ≡ 0 → ⊥) → (some_earlier (stamp k) ≡ (around k).earlier) × (some_later (stamp k) ≡ (around k).later)
  unfolding around_of clearly_earlier
  met k m z =
      let f : global_at second.globals k ≡ global_of clocks (stamp k) = (o.each (stamp k) (o.held k m (omega (arith, z)))).global in
      (rw f (met_earlier clocks a first n (stamp k) (small k m z) m), rw f (met_later clocks a first n (stamp k) (small k m z) m))

  -- the test p of a timestamp is the test q of how the first list meets it
  places : (p : Timestamp → Bool) (q : Around → Bool) → ((k : ℕ) → k < 8 → (note k ≡ 0 → ⊥) → p (stamp k) ≡ q (around k))
      → each_passes p b ≡ each_passes (λ k. skip k || q (around k)) logger_places
  places p q f = all_noted clocks b second o p ∙ all_same _ _ logger_places (λ k i. elim (ℕ_discrete (note k) 0) [
    | yes z ↦ rw (eq-eqb (note k) 0 z)
    | no z ↦ ap (λ x. skip k || x) (f k (range_of 0 8 i).1 z)
  ])

  apart : (t : Timestamp) → each_passes (λ s. concurrent clocks s t) a ≡ (not (some_earlier t) && not (some_later t))
  unfolding concurrent
  apart t = all_and (λ s. not (before clocks s t)) (λ s. not (before clocks t s)) a ∙ rw (all_not (λ s. before clocks s t) a, all_not (before clocks t) a)

  replies_are : related_lists first second
      ≡ record { before = all_before clocks a b; concurrent = all_concurrent clocks a b; weakly_before = stamps_weakly_before clocks a b }
  unfolding related_lists related_at all_before all_concurrent stamps_weakly_before
  replies_are = fold-related skip around logger_places all_related ∙ (λ i. record {
    before = sym (places some_earlier (λ m. m.earlier) (λ k l z. (met k l z).0)) i;
    concurrent = sym (places (λ t. each_passes (λ s. concurrent clocks s t) a) (λ m. not m.earlier && not m.later)
        (λ k l z. apart (stamp k) ∙ rw ((met k l z).0, (met k l z).1))) i;
    weakly_before = sym (sym (all_not some_later b) ∙ places (λ t. not (some_later t)) (λ m. not m.later) (λ k l z. ap not (met k l z).1)) i;
  })

  -- a place of the second list, as the code tells it for the word
  has-at : (k : ℕ) → k < 8 → has_earlier_at clocks.ratio first second k ≡ (skip k || some_earlier (stamp k))
  unfolding has_earlier clearly_earlier global_of
  has-at k l = elim (ℕ_discrete (note k) 0) [
    | yes z ↦ rw (eq-eqb (note k) 0 z)
    | no z ↦ rw (ne_eqb (note k) 0 z)
        (turned (ltb 0 (own k) && ltb (own k - 1) (note k - 1)) (ltb (first.span.lowest.0 + 1) (global_of clocks (stamp k)).0)
        ∙ sym (met_earlier clocks a first n (stamp k) (small k l z) l))
  ]
    where
      turned : (x y : Bool) → pick x true y ≡ (y || x)
      turned true y = sym (or-true y)
      turned false y = sym (or-false y)

  each-is : each_has_earlier clocks.ratio first second ≡ all_before clocks a b
  unfolding each_has_earlier all_before
  each-is = all_same _ _ logger_places (λ k i. has-at k (range_of 0 8 i).1) ∙ sym (all_noted clocks b second o some_earlier)

-- ---- the word
-- before, after, concurrent and weakly before, tested in the code's order: after excludes weakly before, and concurrent gives it
word_same : (p q r w : Bool) → (q ≡ true → w ≡ false) → (r ≡ true → w ≡ true)
    → pick p Before (pick r Concurrent (pick w Incomparable (pick q After Incomparable))) ≡ pick p Before (pick q After (pick r Concurrent Incomparable))
word_same true q r w f g = refl
word_same false true true w f g = absurd (never_both (g refl) (f refl))
word_same false true false w f g = rw (f refl)
word_same false false true w f g = refl
word_same false false false true f g = refl
word_same false false false false f g = refl

pub relation_is : (ratio : ℕ) (a b : List Timestamp) (first second : Gathering) → NotedList (clocks_of ratio) a first → NotedList (clocks_of ratio) b second
    → {s : Timestamp} → s is_in a → relation_noted ratio first second ≡ relation_of (clocks_of ratio) a b
unfolding relation_noted order_noted relation_of order_of says
relation_is ratio a b first second n o i =
    let clocks : Clocks = clocks_of ratio in
    rw (replies_are clocks a b first second n o, each-is clocks b a second first o n) (λ j. record {
      order = word_same (all_before clocks a b) (all_before clocks b a) (all_concurrent clocks a b) (stamps_weakly_before clocks a b)
          (after_not_weakly clocks a b i) (concurrent-weakly clocks a b) j;
      weakly_before = stamps_weakly_before clocks a b;
    })
