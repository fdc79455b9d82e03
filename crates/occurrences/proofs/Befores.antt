-- The composite order by notes.
use Rattle.std.proofs.Common.{◌≡◌, ℕ, ◌+◌, ◌-◌, ◌%◌, ◌^◌, ◌<◌, ◌≤◌, Bool, true, false, ltb, List, get_or, sym, refl, ap, ◌∙◌, subst, inl, inr, arith, ltb-true, le-ltb, lt-ltb, eq-eqb, ne_eqb}
use native.Mathlib.Decide.{ℕ_discrete, dec_lt}
use Rattle.sequences.specs.Members.{◌is_in◌}
use Rattle.sequences.specs.Select.{some_passes}
use Rattle.sequences.proofs.Booleans.{either_way, false_of_not_true, never_both}
use Rattle.sequences.proofs.Select.{all_in, all_of, any_in, any_of}
use Rattle.timestamps.specs.declared.Timestamp.{Timestamp}
use Rattle.timestamps.specs.Comparison.{all_before, stamps_weakly_before}
use Rattle.timestamps.specs.Composite.{IsComposite, members}
use Rattle.timestamps.specs.Order.{Clocks, before}
use Rattle.timestamps.proofs.Composites.{not-weakly, weakly}
use Rattle.timestamps.proofs.Stamps.{Before, before-is, before-says, clear_before, global, one_clock, two-clocks}
use Rattle.occurrences.specs.declared.Occurrence.{Occurrence}
use Rattle.occurrences.specs.Packed.{Notes, Stands, byte_at}
use Rattle.occurrences.specs.Steps.{Lowest, has_before, is_reached, note_at, own_before}
use Rattle.occurrences.proofs.Seen.{Seen, lowest-is, lowest_le, note_global, seen-stands, stamp-at, stands-composite}
use Rattle.occurrences.proofs.Views.{stamp}

-- ---- the ways in which a stamp has one before it
own-says : (v w : ℕ) → own_before v w ≡ true → (0 < v) × (v < w)
unfolding own_before
own-says v w h = elim (ℕ_discrete v 0) [
  | yes e ↦ absurd (never_both h (rw (eq-eqb v 0 e)))
  | no n ↦ (omega arith, ltb-true v w (rw (ne_eqb v 0 n) at h))
]

own_is : (v w : ℕ) → 0 < v → v < w → own_before v w ≡ true
unfolding own_before
own_is v w p l = rw (ne_eqb v 0 (λ e. omega (arith, e, p))) (lt-ltb v w l)

-- what the code compares: one below each note, where 0 comes round to the largest number
pub own_wraps : (v w s t : ℕ) → s < 2 ^ 64 → t < 2 ^ 64 → (s + 1) % 2 ^ 64 ≡ v → (t + 1) % 2 ^ 64 ≡ w → 0 < w → ltb s t ≡ own_before v w
unfolding own_before
own_wraps v w s t x y e f p = elim (ℕ_discrete v 0) [
  | yes z ↦ rw (eq-eqb v 0 z) (le-ltb s t (omega arith))
  | no n ↦ rw (ne_eqb v 0 n) (elim (dec_lt s t) [
    | yes l ↦ lt-ltb s t l ∙ sym (lt-ltb v w (omega arith))
    | no l ↦ le-ltb s t (omega arith) ∙ sym (le-ltb v w (omega arith))
  ])
]

pub clear_wraps : (low t g : ℕ) → t < 2 ^ 64 → (t + 1) % 2 ^ 64 ≡ g → 0 < g → ltb (low + 1) t ≡ ltb (low + 1) (g - 1)
clear_wraps low t g x e p = let q : t ≡ g - 1 = omega arith in ap (ltb (low + 1)) q

module _ (low v w g : ℕ) where
  data Has : Type 0 where
    none : w ≡ 0 → Has
    own : 0 < v → v < w → Has
    lowest : low + 1 < g - 1 → Has

  has-says : has_before low v w g ≡ true → Has
  unfolding has_before
  has-says h = elim (ℕ_discrete w 0) [
    | yes e ↦ none e
    | no n ↦ elim (either_way (own_before v w)) [
      | inl y ↦ (let (p, l) = own-says v w y in own p l)
      | inr z ↦ lowest (ltb-true (low + 1) (g - 1) (rw (ne_eqb w 0 n, z) at h))
    ]
  ]

  has-is : Has → has_before low v w g ≡ true
  unfolding has_before
  has-is h = elim (ℕ_discrete w 0) [
    | yes e ↦ rw (eq-eqb w 0 e)
    | no n ↦ elim (either_way (own_before v w)) [
      | inl y ↦ rw (ne_eqb w 0 n, y)
      | inr z ↦ rw (ne_eqb w 0 n, z) (rest n z h)
    ]
  ]
    where
      rest : (w ≡ 0 → ⊥) → own_before v w ≡ false → Has → ltb (low + 1) (g - 1) ≡ true
      rest n z (none e) = absurd (n e)
      rest n z (own p l) = absurd (never_both (own_is v w p l) z)
      rest n z (lowest l) = lt-ltb (low + 1) (g - 1) l

  reached-says : is_reached low v w g ≡ true → (w ≡ 0 → ⊥) × Has
  unfolding is_reached
  reached-says h = elim (ℕ_discrete w 0) [
    | yes e ↦ absurd (never_both h (rw (eq-eqb w 0 e)))
    | no n ↦ (n, has-says (rw (ne_eqb w 0 n) at h))
  ]

  reached-is : (w ≡ 0 → ⊥) → Has → is_reached low v w g ≡ true
  unfolding is_reached
  reached-is n h = rw (ne_eqb w 0 n) (has-is h)

-- ---- two occurrences
module _ (clocks : Clocks) (x y : Occurrence) (v g w h : ℕ → ℕ) (a : Seen clocks v g (members x.latest)) (b : Seen clocks w h (members y.latest)) (c : IsComposite clocks (members x.latest))
    (low : ℕ) (least : Lowest 8 g low) where
  abbrev X : List Timestamp
  X = members x.latest

  abbrev Y : List Timestamp
  Y = members y.latest

  -- a stamp of the lowest global tick
  low-stamp : (t : Timestamp) × (t is_in X) × (global clocks t ≡ low)
  low-stamp = lowest-is clocks v g X a low least c.some.0 c.some.1

  clear_some : (t : Timestamp) → low + 1 < global clocks t → some_passes (λ s. before clocks s t) X ≡ true
  clear_some t l = let (s, i, e) = low-stamp in any_in (λ s. before clocks s t) X i (clear_before clocks s t (omega arith))

  has_some : (t : Timestamp) → t is_in Y → Has low (v t.logger) (w t.logger) (h t.logger) → some_passes (λ s. before clocks s t) X ≡ true
  has_some t m (none e) = absurd (let u : w t.logger ≡ t.tick.0 + 1 = b.local t m in omega arith)
  has_some t m (own p l) =
      let u : w t.logger ≡ t.tick.0 + 1 = b.local t m in
      any_in (λ s. before clocks s t) X (a.member (stamp t.logger (v t.logger)) (b.place t m) (omega arith))
      (before-is clocks (stamp t.logger (v t.logger)) t (one_clock refl (omega arith)))
  has_some t m (lowest l) = let u : h t.logger ≡ global clocks t + 1 = b.whole t m in clear_some t (omega arith)

  some-has : (t : Timestamp) → t is_in Y → (s : Timestamp) → s is_in X → Before clocks s t → Has low (v t.logger) (w t.logger) (h t.logger)
  some-has t m s i (one_clock e l) =
      let u : w t.logger ≡ t.tick.0 + 1 = b.local t m in
      let z : v t.logger ≡ s.tick.0 + 1 = ap v (sym e) ∙ a.local s i in
      own (omega arith) (omega arith)
  some-has t m s i (two-clocks d l) =
      let u : h t.logger ≡ global clocks t + 1 = b.whole t m in
      let z : low ≤ global clocks s = lowest_le clocks v g X a low least s i in
      lowest (omega arith)

  -- ---- place by place; where there is a local note there is a global one
  noted : (k : ℕ) → k < 8 → 0 < w k → 0 < h k
  noted k l = note_global clocks w h Y b k l

  -- the stamp of y at a place, where there is one
  stamp_of_lem : (k : ℕ) → k < 8 → (w k ≡ 0 → ⊥) → stamp k (w k) is_in Y
  stamp_of_lem k l n = stamp-at clocks w h Y b k l (omega (arith, n))

  pub each-has : ((k : ℕ) → k < 8 → (0 < w k → 0 < h k) → has_before low (v k) (w k) (h k) ≡ true) → all_before clocks X Y ≡ true
  unfolding all_before
  each-has f = all_in (λ t. some_passes (λ s. before clocks s t) X) Y (λ t m.
      has_some t m (has-says low (v t.logger) (w t.logger) (h t.logger) (f t.logger (b.place t m) (noted t.logger (b.place t m)))))

  pub one_has_not : (k : ℕ) → k < 8 → ((0 < w k → 0 < h k) → has_before low (v k) (w k) (h k) ≡ false) → all_before clocks X Y ≡ false
  unfolding all_before
  one_has_not k l f = elim (ℕ_discrete (w k) 0) [
    | yes z ↦ absurd (never_both (has-is low (v k) (w k) (h k) (none z)) (f (noted k l)))
    | no n ↦ false_of_not_true _ (λ e.
        let (s, i, z) = any_of (λ s. before clocks s (stamp k (w k))) X (all_of (λ t. some_passes (λ s. before clocks s t) X) Y e (stamp_of_lem k l n)) in
        never_both (has-is low _ _ _ (some-has (stamp k (w k)) (stamp_of_lem k l n) s i (before-says clocks s (stamp k (w k)) z))) (f (noted k l)))
  ]

  -- no stamp of x is before one of y
  pub none-reached : ((k : ℕ) → k < 8 → (0 < w k → 0 < h k) → is_reached low (v k) (w k) (h k) ≡ false) → stamps_weakly_before clocks Y X ≡ true
  none-reached f = weakly clocks Y X (λ t s m i e.
      let u : w t.logger ≡ t.tick.0 + 1 = b.local t m in
      never_both (reached-is low (v t.logger) (w t.logger) (h t.logger) (λ z. omega (arith, u, z)) (some-has t m s i (before-says clocks s t e)))
      (f t.logger (b.place t m) (noted t.logger (b.place t m))))

  pub one_reached : (k : ℕ) → k < 8 → ((0 < w k → 0 < h k) → is_reached low (v k) (w k) (h k) ≡ true) → stamps_weakly_before clocks Y X ≡ false
  one_reached k l f =
      let (n, has) = reached-says low (v k) (w k) (h k) (f (noted k l)) in
      let (s, i, z) = any_of (λ s. before clocks s (stamp k (w k))) X (has_some (stamp k (w k)) (stamp_of_lem k l n) has) in
      not-weakly clocks Y X (stamp_of_lem k l n) i z

  -- ---- by the lowest of both
  pub higher_all : (first : ℕ) → Lowest 8 h first → low + 1 < first → all_before clocks X Y ≡ true
  unfolding all_before
  higher_all first lowest-b l = all_in (λ t. some_passes (λ s. before clocks s t) X) Y (λ t m.
      clear_some t (let q : first ≤ global clocks t = lowest_le clocks w h Y b first lowest-b t m in omega arith))

-- ---- what is packed: the notes at a place, of a and of b
module _ (ticks globals a b : List ℕ) (k : ℕ) where
  abbrev pub has_at : ℕ → Bool
  has_at low = has_before low (note_at ticks (get_or a 2 0) k) (note_at ticks (get_or b 2 0) k) (note_at globals (get_or b 2 0) k)

  abbrev pub reached_at : ℕ → Bool
  reached_at low = is_reached low (note_at ticks (get_or a 2 0) k) (note_at ticks (get_or b 2 0) k) (note_at globals (get_or b 2 0) k)

  -- b's notes are both there
  abbrev pub Both : Type 0
  Both = 0 < note_at ticks (get_or b 2 0) k → 0 < note_at globals (get_or b 2 0) k

  -- what the code tells of what is noted there, u of a, and v and g of b
  module _ (u v g low : ℕ) (told : Bool) (own : note_at ticks (get_or a 2 0) k ≡ u) (other : note_at ticks (get_or b 2 0) k ≡ v) (whole : note_at globals (get_or b 2 0) k ≡ g) where
    there : Both → 0 < v → 0 < g
    there o l = subst (λ m. 0 < m) whole (o (subst (λ m. 0 < m) (sym other) l))

    pub has_told : ((0 < v → 0 < g) → told ≡ has_before low u v g) → Both → has_at low ≡ told
    has_told e o = rw (own, other, whole) (sym (e (there o)))

    pub reached_told : ((0 < v → 0 < g) → told ≡ is_reached low u v g) → Both → reached_at low ≡ told
    reached_told e o = rw (own, other, whole) (sym (e (there o)))

module _ {ticks globals : List ℕ} (n : Notes ticks globals) (x y : Occurrence) (a b : List ℕ) (p : Stands n a x) (q : Stands n b y) (low : ℕ) (least : Lowest 8 (note_at globals (get_or a 2 0)) low) where
  pub before-each : ((k : ℕ) → k < 8 → Both ticks globals a b k → has_at ticks globals a b k low ≡ true) → all_before n.clocks (members x.latest) (members y.latest) ≡ true
  before-each = each-has n.clocks x y _ _ _ _ (seen-stands n a x p) (seen-stands n b y q) (stands-composite n a x p) low least

  pub before-not : (k : ℕ) → k < 8 → (Both ticks globals a b k → has_at ticks globals a b k low ≡ false) → all_before n.clocks (members x.latest) (members y.latest) ≡ false
  before-not = one_has_not n.clocks x y _ _ _ _ (seen-stands n a x p) (seen-stands n b y q) (stands-composite n a x p) low least

  pub weakly-each : ((k : ℕ) → k < 8 → Both ticks globals a b k → reached_at ticks globals a b k low ≡ false) → stamps_weakly_before n.clocks (members y.latest) (members x.latest) ≡ true
  weakly-each = none-reached n.clocks x y _ _ _ _ (seen-stands n a x p) (seen-stands n b y q) (stands-composite n a x p) low least

  pub weakly-not : (k : ℕ) → k < 8 → (Both ticks globals a b k → reached_at ticks globals a b k low ≡ true) → stamps_weakly_before n.clocks (members y.latest) (members x.latest) ≡ false
  weakly-not = one_reached n.clocks x y _ _ _ _ (seen-stands n a x p) (seen-stands n b y q) (stands-composite n a x p) low least

  pub before_clear : (first : ℕ) → Lowest 8 (note_at globals (get_or b 2 0)) first → low + 1 < first → all_before n.clocks (members x.latest) (members y.latest) ≡ true
  before_clear = higher_all n.clocks x y _ _ _ _ (seen-stands n a x p) (seen-stands n b y q) (stands-composite n a x p) low least
