-- The order of timestamps: a logger's local order gives its global order, clearly earlier global ticks decide for all, and it is strict, for all clocks.
use mathlib.Core.Path.{◌≡◌, refl, sym, ap, ◌∙◌}
use mathlib.Core.Bool.{true, false}
use Prim.Native.Nat.{ℕ, ◌+◌, ◌-◌, ◌*◌, ◌/◌, ◌≤◌, ◌<◌}
use native.Mathlib.Omega.{arith}
use native.Mathlib.Decide.{ℕ_discrete, dec_lt}
use native.Mathlib.Nat.{div-le_self, div-mul-le_self, div-zero, le-div_iff_mul-le}
use lib.Dec.{ltb}
use borrow.Author.Tests.{eq-eqb, le-ltb, lt-ltb, ltb-true, ne_eqb}
use Rattle.timestamps.specs.declared.Timestamp.{Timestamp}
use Rattle.timestamps.specs.Maxima.{StrictOrder}
use Rattle.timestamps.specs.Order.{Clocks, before, clearly_earlier, global_of, ratio_of}

-- ---- what the code computes
pub clear_below : (g h : ℕ) → (h ≡ 0 → ⊥) → ltb g (h - 1) ≡ ltb (g + 1) h
clear_below g h k = elim (dec_lt (g + 1) h) [
  | yes l ↦ lt-ltb g (h - 1) (omega arith) ∙ sym (lt-ltb (g + 1) h l)
  | no l ↦ le-ltb g (h - 1) (omega arith) ∙ sym (le-ltb (g + 1) h (omega arith))
]

pub clear_none : (g h : ℕ) → h ≡ 0 → false ≡ ltb (g + 1) h
clear_none g h k = sym (le-ltb (g + 1) h (omega arith))

quotient_le : (ratio a b : ℕ) → a ≤ b → a / ratio ≤ b / ratio
quotient_le ratio a b h = elim (dec_lt 0 ratio) [
  | yes p ↦ (le-div_iff_mul-le p).1 (let q : a / ratio * ratio ≤ a = div-mul-le_self a ratio in omega arith)
  | no p ↦ (let z : ratio ≡ 0 = omega arith in rw (z, div-zero a, div-zero b) (omega arith))
]

module _ (clocks : Clocks) where
  -- the global tick as a number
  abbrev pub global : Timestamp → ℕ
  global s = (global_of clocks s).0

  -- ---- one logger's local order gives its global order
  pub global_le : (s t : Timestamp) → s.logger ≡ t.logger → s.tick.0 ≤ t.tick.0 → global s ≤ global t
  unfolding global_of
  global_le s t e h =
      let q : s.tick.0 / ratio_of clocks s.logger ≤ t.tick.0 / ratio_of clocks s.logger = quotient_le (ratio_of clocks s.logger) s.tick.0 t.tick.0 h in
      let r : t.tick.0 / ratio_of clocks s.logger ≡ t.tick.0 / ratio_of clocks t.logger = ap (λ k. t.tick.0 / ratio_of clocks k) e in
      omega arith

  pub global-small : (s : Timestamp) → global s ≤ s.tick.0
  unfolding global_of
  global-small s = div-le_self s.tick.0 (ratio_of clocks s.logger)

  -- ---- the two cases of before
  module _ (s t : Timestamp) where
    pub before_one : s.logger ≡ t.logger → before clocks s t ≡ ltb s.tick.0 t.tick.0
    unfolding before
    before_one e = rw (eq-eqb s.logger t.logger e)

    pub before-other : (s.logger ≡ t.logger → ⊥) → before clocks s t ≡ clearly_earlier (global_of clocks s) (global_of clocks t)
    unfolding before
    before-other n = rw (ne_eqb s.logger t.logger n)

    pub before-two : (s.logger ≡ t.logger → ⊥) → before clocks s t ≡ ltb (global s + 1) (global t)
    unfolding clearly_earlier
    before-two n = before-other n

    pub data Before : Type 0 where
      one_clock : s.logger ≡ t.logger → s.tick.0 < t.tick.0 → Before
      two-clocks : (s.logger ≡ t.logger → ⊥) → global s + 1 < global t → Before

    pub before-says : before clocks s t ≡ true → Before
    before-says h = elim (ℕ_discrete s.logger t.logger) [
      | yes e ↦ one_clock e (ltb-true _ _ (sym (before_one e) ∙ h))
      | no n ↦ two-clocks n (ltb-true _ _ (sym (before-two n) ∙ h))
    ]

    pub before-is : Before → before clocks s t ≡ true
    before-is (one_clock e h) = before_one e ∙ lt-ltb _ _ h
    before-is (two-clocks n h) = before-two n ∙ lt-ltb _ _ h

  -- ---- clearly earlier is before, also on one clock
  pub clear_cases : (s t : Timestamp) → global s + 1 < global t → Before s t
  clear_cases s t h = elim (ℕ_discrete s.logger t.logger) [
    | yes e ↦ one_clock e (elim (dec_lt s.tick.0 t.tick.0) [
      | yes l ↦ l
      | no l ↦ absurd (let g : global t ≤ global s = global_le t s (sym e) (omega arith) in omega arith)
    ])
    | no n ↦ two-clocks n h
  ]

  pub clear_before : (s t : Timestamp) → global s + 1 < global t → before clocks s t ≡ true
  clear_before s t h = before-is s t (clear_cases s t h)

  -- ---- it is strict
  pub before_irrefl : (s : Timestamp) → before clocks s s ≡ false
  before_irrefl s = before_one s s refl ∙ le-ltb s.tick.0 s.tick.0 (omega arith)

  pub before_trans : (s t u : Timestamp) → before clocks s t ≡ true → before clocks t u ≡ true → before clocks s u ≡ true
  before_trans s t u p q = before-is s u (go (before-says s t p) (before-says t u q))
    where
      go : Before s t → Before t u → Before s u
      go (one_clock e h) (one_clock f k) = one_clock (e ∙ f) (omega arith)
      go (one_clock e h) (two-clocks n k) = clear_cases s u (let g : global s ≤ global t = global_le s t e (omega arith) in omega arith)
      go (two-clocks n h) (one_clock f k) = clear_cases s u (let g : global t ≤ global u = global_le t u f (omega arith) in omega arith)
      go (two-clocks n h) (two-clocks m k) = clear_cases s u (omega arith)

  pub before_strict : StrictOrder (before clocks)
  before_strict = record { irreflexive = before_irrefl; transitive = before_trans }
