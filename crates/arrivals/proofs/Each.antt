-- What an arrival makes goes out: one for each marked, from the first mark on, or one for all.
use mathlib.Core.Bool.{Bool, true, false}
use mathlib.Core.List.{List, [], ◌∷◌, map}
use mathlib.Core.Path.{◌≡◌, sym, ap, subst, ◌∙◌}
use Prim.Native.Nat.{ℕ, ◌≤◌, ◌<◌}
use lib.ListN.{get_or, length, set}
use Rattle.sequences.specs.Loops.{fold}
use Rattle.sequences.specs.Marks.{first_mark, marked}
use Rattle.sequences.proofs.Loops.{fold-none, fold_next, fold_still}
use Rattle.sequences.proofs.Marks.{marked-first, marked-none}
use Rattle.timestamps.specs.Order.{Clocks}
use Rattle.occurrences.specs.declared.Occurrence.{Occurrence}
use Rattle.occurrences.specs.Packed.{Notes}
use Rattle.contexts.specs.Made.{made_of}
use Rattle.contexts.specs.Table.{Findings}
use Rattle.emissions.specs.declared.Limit.{Limit}
use Rattle.emissions.specs.declared.Made.{Made}
use Rattle.emissions.specs.Emissions.{Emits, Emitting, emitted, emitted_all, reached}
use Rattle.emissions.proofs.Limits.{emitted_still}
use Rattle.std.specs.Prelude.{Option}

-- ---- a loop over those marked that passes on something made of each
module _ {S A B : Type 0} (f : S → B → S) (g : A → B) (l : List A) (m : List Bool) where
  pub each_turn : (m' : List Bool) (d : A) → first_mark m < length l → first_mark m < length m → m' ≡ set m (first_mark m) false → (s s' : S) → s' ≡ f s (g (get_or l (first_mark m) d))
      → fold f (map g (marked l m')) s' ≡ fold f (map g (marked l m)) s
  each_turn m' d in_l in-m r s s' e =
      ap (fold f (map g (marked l m'))) e ∙ ap (λ n. fold f (map g (marked l n)) (f s (g (get_or l (first_mark m) d)))) r
      ∙ sym (ap (λ x. fold f (map g x) s) (marked-first l m d in_l in-m) ∙ fold_next f (g (get_or l (first_mark m) d)) (map g (marked l (set m (first_mark m) false))) s)

  pub each_end : (s : S) → length l ≤ first_mark m → fold f (map g (marked l m)) s ≡ s
  each_end s h = ap (λ x. fold f (map g x) s) (marked-none l m h) ∙ fold-none f s

-- ---- none, or one
module _ (room : ℕ) (loggers : List ℕ) (place : ℕ) (e : Emitting) (l : List Occurrence) where
  pub emits_none : l ≡ [] → e ≡ emitted_all room loggers place e l
  unfolding emitted_all
  emits_none h = rw h (sym (fold-none (emitted room loggers place) e))

  pub emits_one : (r : Emitting) (o : Occurrence) → r ≡ emitted room loggers place e o → o ∷ [] ≡ l → r ≡ emitted_all room loggers place e l
  unfolding emitted_all
  emits_one r o h k = rw (← k) (h ∙ sym (fold_next (emitted room loggers place) o [] e ∙ fold-none (emitted room loggers place) (emitted room loggers place e o)))

-- what a context makes, by its row
pub emits_by : (room : ℕ) (loggers : List ℕ) (place : ℕ) (e r : Emitting) (x y : Findings) (clocks : Clocks) (those : List Occurrence) (o : Occurrence) → x ≡ y
    → r ≡ emitted_all room loggers place e (made_of y clocks those o) → r ≡ emitted_all room loggers place e (made_of x clocks those o)
emits_by room loggers place e r x y clocks those o h k = rw h k

-- a limit is met: whatever was left to make, that is all
pub emits_stopped : {ticks globals : List ℕ} (t : Notes ticks globals) (room : ℕ) (loggers : List ℕ) (place : ℕ) {made : Made} {out : List ℕ} {met : Option Limit} {e whole : Emitting}
    → Emits t met made out e → reached met ≡ true → (left : List Occurrence) → fold (emitted room loggers place) left e ≡ whole → Emits t met made out whole
emits_stopped t room loggers place {met = met} {e = e} h r left same =
    subst (Emits t met _ _) (sym (fold_still _ e (emitted_still room loggers place e (ap reached h.limit ∙ r)) left) ∙ same) h
