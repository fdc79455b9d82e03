-- The loops over a finding's stamps and events, and over the findings.
use mathlib.Core.Path.{◌≡◌, refl, sym, ap, ◌∙◌}
use mathlib.Core.Bool.{true, false}
use mathlib.Core.List.{List, [], ◌∷◌, ◌++◌}
use Prim.Native.Nat.{ℕ, zero, suc, ◌+◌, ◌-◌, ◌≤◌, ◌<◌}
use native.Mathlib.Numerals.{add-one}
use native.Mathlib.Omega.{arith}
use Rattle.std.proofs.Common.{drop_of_length-le}
use lib.ListN.{length, drop, get_or}
use lib.Seq.{drop-cons}
use Rattle.std.specs.Prelude.{Some, None}
use Rattle.event_sets.specs.declared.EventSet.{EventSet}
use Rattle.event_sets.specs.Sets.{elements_from, next_from}
use Rattle.event_sets.proofs.Walks.{walk_next, next-none}
use Rattle.readings.specs.Reader.{FindingAnswer, read_finding}
use Rattle.listing.specs.Text.{comma, listed, number_text, line_text, lines_at}

-- ---- a list from place i on
module _ {A : Type 0} (text : ℕ → A → List ℕ) (l : List A) where
  pub listed_turn : (separator i : ℕ) (d : A) → i < length l
      → listed text separator (drop i l) ≡ text separator (get_or l i d) ++ listed text comma (drop (i + 1) l)
  unfolding listed
  listed_turn separator i d h =
      let e : drop i l ≡ get_or l i d ∷ drop (i + 1) l = rw (add-one, drop-cons l i d h) refl in
      ap (listed text separator) e

  pub listed_end : (separator i : ℕ) → length l ≤ i → listed text separator (drop i l) ≡ []
  unfolding listed
  listed_end separator i h = ap (listed text separator) (drop_of_length-le l h)

-- ---- the events from a number on
module _ (s : EventSet) (n : ℕ) where
  pub events_turn : (separator : ℕ) {e : ℕ} → next_from s n ≡ Some e → listed number_text separator (elements_from s n) ≡ number_text separator e ++ listed number_text comma (elements_from s (e + 1))
  unfolding listed
  events_turn separator f = ap (listed number_text separator) (walk_next s n f)

  pub events_end : (separator : ℕ) → next_from s n ≡ None → listed number_text separator (elements_from s n) ≡ []
  unfolding listed
  events_end separator f = ap (listed number_text separator) (next-none s n f)

-- ---- the findings from a place on
module _ (b : List ℕ) (at n : ℕ) (a : FindingAnswer) (r : a ≡ read_finding b at) where
  pub lines_turn : 0 < n → a.whole ≡ true → lines_at b at n ≡ line_text a.finding ++ lines_at b a.next (n - 1)
  unfolding lines_at
  lines_turn h w =
      let m : n ≡ suc (n - 1) = omega arith in
      let t : (read_finding b at).whole ≡ true = ap (λ (x : FindingAnswer). x.whole) (sym r) ∙ w in
      ap (lines_at b at) m ∙ rw (t, r)

  pub lines_stop : a.whole ≡ false → lines_at b at n ≡ []
  unfolding lines_at
  lines_stop w = go n
    where
      t : (read_finding b at).whole ≡ false
      t = ap (λ (x : FindingAnswer). x.whole) (sym r) ∙ w

      go : (n : ℕ) → lines_at b at n ≡ []
      go zero = refl
      go (suc m) = rw t

pub lines_none : (b : List ℕ) (at n : ℕ) → n ≡ 0 → lines_at b at n ≡ []
unfolding lines_at
lines_none b at n e = rw e
