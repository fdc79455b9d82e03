-- A composite timestamp and its members.
use mathlib.Core.Path.{◌≡◌, refl, sym, ap, ◌∙◌}
use mathlib.Core.Bool.{true, false}
use mathlib.Core.List.Memᴰ
use mathlib.Core.List.{List, [], ◌∷◌, map}
use mathlib.Core.Logic.{⊎_elim}
use Prim.Native.Nat.{ℕ, ◌<◌}
use native.Mathlib.Omega.{arith}
use lib.ListN.{length, get_or, length-map}
use lib.Seq.{ext_get_or}
use borrow.Author.Tests.{eq-eqb, eqb-true, eqb-false}
use Rattle.sequences.specs.Members.{◌is_in◌, SameMembers}
use Rattle.sequences.specs.Select.{filter, some_passes}
use Rattle.sequences.proofs.Parts.{get_or_map}
use Rattle.sequences.proofs.Booleans.{either_way, never_both, same_test}
use Rattle.sequences.proofs.Members.{map_in, map_of, map_same}
use Rattle.sequences.proofs.Range.{range_in, range_of, length_range, get_or_range}
use Rattle.sequences.proofs.Select.{filter_in, filter_of, any_in, any_of, any_none, none_of_any}
use Rattle.timestamps.specs.declared.Timestamp.{Timestamp}
use Rattle.timestamps.specs.declared.CompositeTimestamp.{CompositeTimestamp}
use Rattle.timestamps.specs.Composite.{logger_places, tick_zero, stamp_at, present_at, members, of_logger, tick_of, composite_of}

-- two timestamps of one logger and one tick are one
pub same-stamp : (s t : Timestamp) → s.logger ≡ t.logger → s.tick.0 ≡ t.tick.0 → s ≡ t
same-stamp s t e f = λ i. record { logger = e i; tick = record { 0 = f i } }

-- ---- a value at each logger place
pub at_place : {B : Type 0} (f : ℕ → B) (z : B) (k : ℕ) → k < 8 → get_or (map f logger_places) k z ≡ f k
at_place f z k h =
    let n : k < length logger_places = omega (arith, length_range 0 8) in
    get_or_map f logger_places k 0 z n ∙ ap f (get_or_range 0 8 k 0 h ∙ omega arith)

pub each-place : {B : Type 0} (f g : ℕ → B) → ((k : ℕ) → k < 8 → f k ≡ g k) → map f logger_places ≡ map g logger_places
each-place f g h = map_same f g logger_places (λ k m. h k (range_of 0 8 m).1)

-- ---- the members of a composite
pub record Holds (c : CompositeTimestamp) (s : Timestamp) : Type 0 where
  pub place : s.logger < 8
  pub there : present_at c s.logger ≡ true
  pub tick : get_or c.ticks s.logger tick_zero ≡ s.tick

pub members_of : (c : CompositeTimestamp) (s : Timestamp) → s is_in members c → Holds c s
unfolding members
members_of c s m =
    let (k, i, e) = map_of (stamp_at c) (filter (present_at c) logger_places) m in
    let (r, p) = filter_of (present_at c) logger_places i in
    let f : s.logger ≡ k = ap (λ t. t.logger) e in
    record {
      place = rw f (range_of 0 8 r).1;
      there = rw f p;
      tick = rw f (ap (λ t. t.tick) (sym e));
    }

pub members_in : (c : CompositeTimestamp) (s : Timestamp) → Holds c s → s is_in members c
unfolding members
members_in c s h =
    let r : s.logger is_in logger_places = range_in 0 8 s.logger (omega arith) h.place in
    let i : s.logger is_in filter (present_at c) logger_places = filter_in (present_at c) logger_places r h.there in
    Memᴰ.cast (λ j. record { logger = s.logger; tick = sym h.tick j }) (map_in (stamp_at c) (filter (present_at c) logger_places) i)

-- the stamp at a place where there is one
pub stamp_in : (c : CompositeTimestamp) (k : ℕ) → k < 8 → present_at c k ≡ true → stamp_at c k is_in members c
stamp_in c k h p = members_in c (stamp_at c k) (record { place = h; there = p; tick = refl })

-- ---- the composite of a list
pub present_of : (l : List Timestamp) (k : ℕ) → k < 8 → present_at (composite_of l) k ≡ some_passes (of_logger k) l
unfolding composite_of
present_of l k h = at_place (λ j. some_passes (of_logger j) l) false k h

pub tick_of_lem : (l : List Timestamp) (k : ℕ) → k < 8 → get_or (composite_of l).ticks k tick_zero ≡ tick_of l k
unfolding composite_of
tick_of_lem l k h = at_place (tick_of l) tick_zero k h

-- at most one stamp for each logger
abbrev pub OnePerLogger : List Timestamp → Type 0
OnePerLogger l = (s t : Timestamp) → s is_in l → t is_in l → s.logger ≡ t.logger → s ≡ t

pub tick_of_in : (l : List Timestamp) (s : Timestamp) → s is_in l → OnePerLogger l → tick_of l s.logger ≡ s.tick
unfolding tick_of
tick_of_in [] s m u = absurd (Memᴰ.not-nil m)
tick_of_in (a ∷ l) s m u =
    ⊎_elim
    (λ y. rw y (ap (λ t. t.tick) (u a s (Memᴰ.head refl) m (eqb-true a.logger s.logger y))))
    (λ n. rw n (tick_of_in l s
    (⊎_elim (λ e. absurd (eqb-false a.logger s.logger n (ap (λ t. t.logger) (sym e)))) (λ i. i) (Memᴰ.cases_cons m))
    (λ x y i j. u x y (Memᴰ.tail i) (Memᴰ.tail j))))
    (either_way (of_logger s.logger a))

pub tick_of-none : (l : List Timestamp) (k : ℕ) → some_passes (of_logger k) l ≡ false → tick_of l k ≡ tick_zero
unfolding tick_of some_passes
tick_of-none [] k e = refl
tick_of-none (a ∷ l) k e =
    ⊎_elim
    (λ y. absurd (never_both y (none_of_any (of_logger k) (a ∷ l) e (Memᴰ.head refl))))
    (λ n. rw n (tick_of-none l k (any_none (of_logger k) l (λ b m. none_of_any (of_logger k) (a ∷ l) e (Memᴰ.tail m)))))
    (either_way (of_logger k a))

-- its members are the list's
pub members-composite_of : (l : List Timestamp) → ((s : Timestamp) → s is_in l → s.logger < 8) → OnePerLogger l → SameMembers (members (composite_of l)) l
members-composite_of l small u = (down, up)
  where
    up : (s : Timestamp) → s is_in l → s is_in members (composite_of l)
    up s m = members_in (composite_of l) s (record {
      place = small s m;
      there = present_of l s.logger (small s m) ∙ any_in (of_logger s.logger) l m (eq-eqb s.logger s.logger refl);
      tick = tick_of_lem l s.logger (small s m) ∙ tick_of_in l s m u;
    })

    down : (s : Timestamp) → s is_in members (composite_of l) → s is_in l
    down s m =
        let h : Holds (composite_of l) s = members_of (composite_of l) s m in
        let (t, i, e) = any_of (of_logger s.logger) l (sym (present_of l s.logger h.place) ∙ h.there) in
        let f : t.logger ≡ s.logger = eqb-true t.logger s.logger e in
        let g : t.tick ≡ s.tick = sym (tick_of_in l t i u) ∙ ap (tick_of l) f ∙ sym (tick_of_lem l s.logger h.place) ∙ h.tick in
        Memᴰ.cast (sym (same-stamp t s f (ap (λ x. x.0) g))) i

-- lists with the same members have one composite
pub composite_of-same : (l m : List Timestamp) → SameMembers l m → OnePerLogger l → composite_of l ≡ composite_of m
unfolding composite_of
composite_of-same l m w u = λ i. record { present = each-place _ _ (λ k h. there k) i; ticks = each-place _ _ (λ k h. told k) i }
  where
    there : (k : ℕ) → some_passes (of_logger k) l ≡ some_passes (of_logger k) m
    there k = same_test (some_passes (of_logger k) l) (some_passes (of_logger k) m)
        (λ e. let (s, i, y) = any_of (of_logger k) l e in any_in (of_logger k) m (w.0 s i) y)
        (λ e. let (s, i, y) = any_of (of_logger k) m e in any_in (of_logger k) l (w.1 s i) y)

    one : OnePerLogger m
    one s t i j e = u s t (w.1 s i) (w.1 t j) e

    told : (k : ℕ) → tick_of l k ≡ tick_of m k
    told k = ⊎_elim
        (λ y. let (s, i, e) = any_of (of_logger k) l y in
        let f : s.logger ≡ k = eqb-true s.logger k e in
        ap (tick_of l) (sym f) ∙ tick_of_in l s i u ∙ sym (tick_of_in m s (w.0 s i) one) ∙ ap (tick_of m) f)
        (λ n. tick_of-none l k n ∙ sym (tick_of-none m k (sym (there k) ∙ n)))
        (either_way (some_passes (of_logger k) l))

-- ---- a composite with the same members is the same value
-- eight places, and no tick where there is no timestamp
pub record Canonical (c : CompositeTimestamp) : Type 0 where
  pub places : length c.present ≡ 8
  pub tick_places : length c.ticks ≡ 8
  pub empty : (k : ℕ) → k < 8 → present_at c k ≡ false → get_or c.ticks k tick_zero ≡ tick_zero

pub composite_of_canonical : (l : List Timestamp) → Canonical (composite_of l)
unfolding composite_of
composite_of_canonical l = record {
  places = length-map logger_places (λ k. some_passes (of_logger k) l) ∙ length_range 0 8;
  tick_places = length-map logger_places (tick_of l) ∙ length_range 0 8;
  empty = λ k h e. tick_of_lem l k h ∙ tick_of-none l k (sym (present_of l k h) ∙ e);
}

pub members_determine : (a b : CompositeTimestamp) → Canonical a → Canonical b → SameMembers (members a) (members b) → a ≡ b
members_determine a b p q w = λ i. record {
  present = ext_get_or false a.present b.present (p.places ∙ sym q.places) (λ k h. there k (rw p.places at h)) i;
  ticks = ext_get_or tick_zero a.ticks b.ticks (p.tick_places ∙ sym q.tick_places) (λ k h. told k (rw p.tick_places at h)) i;
}
  where
    carried : (c d : CompositeTimestamp) (k : ℕ) → k < 8 → ((s : Timestamp) → s is_in members c → s is_in members d) → present_at c k ≡ true → Holds d (stamp_at c k)
    carried c d k h f e = members_of d (stamp_at c k) (f (stamp_at c k) (stamp_in c k h e))

    there : (k : ℕ) → k < 8 → present_at a k ≡ present_at b k
    there k h = same_test (present_at a k) (present_at b k) (λ e. (carried a b k h w.0 e).there) (λ e. (carried b a k h w.1 e).there)

    told : (k : ℕ) → k < 8 → get_or a.ticks k tick_zero ≡ get_or b.ticks k tick_zero
    told k h = ⊎_elim
        (λ e. sym (carried a b k h w.0 e).tick)
        (λ n. p.empty k h n ∙ sym (q.empty k h (sym (there k h) ∙ n)))
        (either_way (present_at a k))
