-- After a limit nothing happens.
use mathlib.Core.Bool.{true, false}
use mathlib.Core.List.{List}
use mathlib.Core.Path.{◌≡◌, refl}
use Prim.Native.Nat.{ℕ}
use Rattle.std.specs.Prelude.{Option, None, Some}
use Rattle.sequences.proofs.Booleans.{never_both}
use Rattle.sequences.proofs.Loops.{fold_still}
use Rattle.occurrences.specs.declared.Occurrence.{Occurrence}
use Rattle.emissions.specs.declared.Limit.{Limit}
use Rattle.emissions.specs.Emissions.{Emitting, emitted, emitted_all, reached}

-- a limit that is not met is none
pub unreached : (met : Option Limit) → reached met ≡ false → met ≡ None
unreached None h = refl
unreached (Some limit) h = absurd (never_both refl h)

module _ (room : ℕ) (loggers : List ℕ) (place : ℕ) (e : Emitting) (h : reached e.limit ≡ true) where
  pub emitted_still : (o : Occurrence) → emitted room loggers place e o ≡ e
  unfolding emitted
  emitted_still o = rw h

  pub emitted_all_still : (l : List Occurrence) → emitted_all room loggers place e l ≡ e
  unfolding emitted_all
  emitted_all_still l = fold_still (emitted room loggers place) e emitted_still l
