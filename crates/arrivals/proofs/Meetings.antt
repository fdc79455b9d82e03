-- Without candidates nothing is taken or removed.
use mathlib.Core.Bool.{Bool, true, false, ◌&&◌}
use mathlib.Core.List.{List, [], ◌∷◌, zip_with}
use mathlib.Core.Path.{◌≡◌, refl, sym, ap, ◌∙◌}
use Prim.Native.Nat.{ℕ, zero, suc, ◌≤◌}
use native.Mathlib.Omega.{arith}
use lib.ListN.{length, replicate}
use Rattle.sequences.specs.Marks.{first_mark, marked, padded}
use Rattle.sequences.proofs.Marks.{padded-start}
use Rattle.timestamps.specs.Order.{Clocks}
use Rattle.occurrences.specs.declared.Occurrence.{Occurrence}
use Rattle.waiting_lists.proofs.Marks.{padded-next}
use Rattle.contexts.specs.Choice.{chosen, removed_of, removes, taken_of, takes}
use Rattle.contexts.specs.Table.{Removed, untaken, taken, all, Context}

-- no mark at all
unmarked_all : (m : List Bool) → first_mark m ≡ length m → m ≡ replicate (length m) false
unfolding first_mark
unmarked_all [] h = refl
unmarked_all (true ∷ m) h = absurd (omega arith)
unmarked_all (false ∷ m) h = ap (λ r. false ∷ r) (unmarked_all m (omega arith))

-- none of the candidates is taken
none_zipped : (f : Occurrence → Bool) (n : ℕ) (l : List Occurrence) → length l ≤ n → padded n (zip_with (λ w c. c && f w) l (replicate n false)) ≡ replicate n false
unfolding zip_with
none_zipped f n [] h = sym (padded-start n)
none_zipped f zero (w ∷ l) h = absurd (omega arith)
none_zipped f (suc n) (w ∷ l) h = padded-next n false (zip_with (λ w c. c && f w) l (replicate n false)) ∙ ap (λ r. false ∷ r) (none_zipped f n l (omega arith))

none-removes : (x : Removed) (n : ℕ) → zip_with (removes x) (replicate n false) (replicate n false) ≡ replicate n false
unfolding zip_with removes
none-removes x zero = refl
none-removes untaken (suc n) = ap (λ r. false ∷ r) (none-removes untaken n)
none-removes taken (suc n) = ap (λ r. false ∷ r) (none-removes taken n)
none-removes all (suc n) = ap (λ r. false ∷ r) (none-removes all n)

module _ (row : Context) (clocks : Clocks) (l : List Occurrence) (few : length l ≤ 16) (m none : List Bool) (long : length m ≡ 16) (off : first_mark m ≡ 16) (is : none ≡ replicate 16 false) where
  candidates-none : m ≡ replicate 16 false
  candidates-none = unmarked_all m (omega arith) ∙ ap (λ n. replicate n false) long

  pub takes_none : none ≡ (chosen row clocks l m).taken
  unfolding chosen taken_of
  takes_none = is ∙ sym (rw candidates-none (none_zipped (takes row.takes clocks (marked l (replicate 16 false))) 16 l few))

  pub removes-none : none ≡ (chosen row clocks l m).removed
  unfolding chosen removed_of
  removes-none = is ∙ sym (none-removes row.removes 16) ∙ sym (ap (λ k. zip_with (removes row.removes) k (replicate 16 false)) candidates-none) ∙ ap (zip_with (removes row.removes) m) (sym is ∙ takes_none)
