-- The first of a row: how many there are, and what stands at a place.
use Rattle.std.proofs.Common.{◌≡◌, ℕ, ◌<◌, ◌≤◌, List, [], length, get_or, take, sym, subst, arith, length-take}
use Rattle.sequences.proofs.Arrays.{held_at}
use Rattle.timestamps.specs.declared.Note.{Note}
use Rattle.occurrences.specs.declared.Occurrence.{Occurrence}
use Rattle.occurrences.specs.Occurrences.{no_occurrence}
use Rattle.occurrences.specs.Packed.{Holds, Notes, NotesOf, Stands, Within}
use Rattle.occurrences.proofs.Packed.{stand-at, stand-length, stands-within}

module _ {ticks globals : List ℕ} (t : Notes ticks globals) (row : List (List ℕ)) (n : ℕ) (l : List Occurrence) (h : Holds t row n l) where
  pub holds-length : length (take n row) ≡ length l
  holds-length = stand-length t (take n row) l h

  -- at most as many as the row has
  pub holds-most : (m : ℕ) → length row ≡ m → length l ≤ m
  holds-most m e = omega (arith, holds-length, length-take n row, e)

  pub holds_at : (i : ℕ) → i < length l → Stands t (get_or row i []) (get_or l i no_occurrence)
  holds_at i k =
      let j : i < length (take n row) = omega (arith, holds-length, k) in
      subst (λ p. Stands t p (get_or l i no_occurrence)) (sym (held_at row n i [] j)) (stand-at t (take n row) l i h j)

pub holds-within : (notes : List Note) (t : NotesOf notes) (row : List (List ℕ)) (n : ℕ) (l : List Occurrence) → Holds t row n l
    → (i : ℕ) → i < length (take n row) → Within notes (get_or row i [])
holds-within notes t row n l h i k = stands-within notes t _ _ (holds_at t row n l h i (omega (arith, holds-length t row n l h, k)))
