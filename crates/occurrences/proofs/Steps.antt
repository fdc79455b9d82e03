-- The loops over the logger places: the places so far, and more.
use Rattle.std.proofs.Common.{◌≡◌, ℕ, ◌+◌, ◌-◌, ◌%◌, ◌^◌, ◌<◌, ◌≤◌, min, max, sym, refl, ap, ◌∙◌, subst, inl, inr, ⊎_elim, arith}
use native.Mathlib.Decide.{ℕ_discrete, dec_lt}
use Rattle.occurrences.specs.Steps.{Highest, Lowest}

-- what holds of the places below k and of the next m holds below k + m
pub more_places : (P : ℕ → Type 0) (k m : ℕ) → ((j : ℕ) → j < k → P j) → ((j : ℕ) → j < m → P (k + j)) → (j : ℕ) → j < k + m → P j
more_places P k m h g j l = elim (dec_lt j k) [
  | yes b ↦ h j b
  | no b ↦ (let e : k + (j - k) ≡ j = omega arith in subst P e (g (j - k) (omega arith)))
]

pub next_place : (P : ℕ → Type 0) (k : ℕ) → ((j : ℕ) → j < k → P j) → P k → (j : ℕ) → j < k + 1 → P j
next_place P k h p = more_places P k 1 h (λ j l. let e : k ≡ k + j = omega arith in subst P e p)

-- ---- the highest
pub highest-start : (f : ℕ → ℕ) → Highest 0 f 0
highest-start f = record { most = λ j m. absurd (omega (arith, m)); some = λ p. absurd (omega (arith, p)) }

pub highest-more : (k m : ℕ) (f g : ℕ → ℕ) (a b r : ℕ) → ((j : ℕ) → j < m → g j ≡ f (k + j)) → r ≡ max a b → Highest k f a → Highest m g b → Highest (k + m) f r
highest-more k m f g a b r e x first next = record {
  most = more_places (λ j. f j ≤ r) k m
      (λ j l. let p : f j ≤ a = first.most j l in omega arith)
      (λ j l. let p : g j ≤ b = next.most j l in let q : g j ≡ f (k + j) = e j l in omega arith);
  some = λ p. elim (dec_lt a b) [
    | yes l ↦ (let (j, n, y) = next.some (omega arith) in let q : g j ≡ f (k + j) = e j n in (k + j, omega arith, omega arith))
    | no l ↦ (let (j, n, y) = first.some (omega arith) in (j, omega arith, omega arith))
  ];
}

-- where all have one note
pub highest_level : (n v : ℕ) → 0 < n → Highest n (λ j. v) v
highest_level n v h = record { most = λ j l. omega arith; some = λ p. (0, h, refl) }

pub highest_turn : (k : ℕ) (f : ℕ → ℕ) (h r : ℕ) → r ≡ max h (f k) → Highest k f h → Highest (k + 1) f r
highest_turn k f h r e m = highest-more k 1 f (λ j. f k) h (f k) r (λ j l. let x : k ≡ k + j = omega arith in ap f x) e m (highest_level 1 (f k) (omega arith))

-- ---- the lowest
pub lowest_empty : (n : ℕ) → Lowest n (λ j. 0) (2 ^ 64 - 1)
lowest_empty n = record { size = omega arith; least = λ k l p. absurd (omega (arith, p)); some = inl ((λ k l. refl), refl) }

pub lowest_start : (f : ℕ → ℕ) → Lowest 0 f (2 ^ 64 - 1)
lowest_start f = record { size = omega arith; least = λ k l p. absurd (omega (arith, l)); some = inl ((λ k l. absurd (omega (arith, l))), refl) }

module _ (k m : ℕ) (f g : ℕ → ℕ) (a b r : ℕ) (same : (j : ℕ) → j < m → g j ≡ f (k + j)) (e : r ≡ min a b) where
  pub lowest-more : Lowest k f a → Lowest m g b → Lowest (k + m) f r
  lowest-more first next = record {
    size = omega arith;
    least = more_places (λ j. 0 < f j → r < f j) k m
        (λ j l p. let q : a < f j = first.least j l p in omega arith)
        (λ j l p. let s : g j ≡ f (k + j) = same j l in let q : b < g j = next.least j l (omega arith) in omega arith);
    some = ⊎_elim
        (λ (z, c). ⊎_elim
        (λ (u, d). inl (more_places (λ j. f j ≡ 0) k m z (λ j l. sym (same j l) ∙ u j l), omega arith))
        (λ (j, n, h). let s : g j ≡ f (k + j) = same j n in inr (k + j, omega arith, omega arith))
        next.some)
        (λ (j, n, h). ⊎_elim
        (λ (u, d). inr (j, omega arith, omega arith))
        (λ (i, o, v). let s : g i ≡ f (k + i) = same i o in elim (dec_lt b a) [
          | yes w ↦ inr (k + i, omega arith, omega arith)
          | no w ↦ inr (j, omega arith, omega arith)
        ])
        next.some)
        first.some;
  }

-- one place: its note v is one above t, and 0 comes round to the largest number
lowest_one : (v t : ℕ) → t < 2 ^ 64 → (t + 1) % 2 ^ 64 ≡ v → Lowest 1 (λ j. v) t
lowest_one v t h e = record {
  size = h;
  least = λ k l p. omega arith;
  some = elim (ℕ_discrete v 0) [
    | yes z ↦ inl ((λ k l. z), omega arith)
    | no n ↦ inr (0, omega arith, omega arith)
  ];
}

pub lowest_turn : (k : ℕ) (f : ℕ → ℕ) (low t r : ℕ) → t < 2 ^ 64 → (t + 1) % 2 ^ 64 ≡ f k → r ≡ min low t → Lowest k f low → Lowest (k + 1) f r
lowest_turn k f low t r y w e m = lowest-more k 1 f (λ j. f k) low t r (λ j l. let z : k ≡ k + j = omega arith in ap f z) e m (lowest_one (f k) t y w)
