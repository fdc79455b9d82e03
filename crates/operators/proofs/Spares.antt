-- Places for those that arrive: how far the own list has grown on the way.
use mathlib.Core.Bool.{Bool, true, false}
use mathlib.Core.List.{List}
use mathlib.Core.Logic.{inl, inr, ⊎_elim}
use mathlib.Core.Path.{◌≡◌, sym, ◌∙◌}
use Prim.Native.Nat.{ℕ, ◌+◌, ◌≤◌}
use native.Mathlib.Omega.{arith}
use lib.Dec.{eqb}
use lib.ListN.{drop, length, take, length-drop, length-take}
use Rattle.sequences.specs.Choice.{pick}
use Rattle.waiting_lists.specs.Lists.{list_of}
use Rattle.arrivals.specs.Views.{Spare}
use Rattle.operators.specs.Views.{own_part}

-- after i of n there are places for m more
pub spare_on : (list list' : List (List ℕ)) (n i m : ℕ) → Spare list n → length list' ≡ length list → (list_of list').len ≤ (list_of list).len + i → i + m ≤ n → Spare list' m
spare_on list list' n i m s e h k = ⊎_elim (λ a. inl (omega (arith, a, e, h, k))) (λ b. inr (e ∙ b)) s

-- there are places for fewer
pub spare-fewer : (list : List (List ℕ)) (n m : ℕ) → m ≤ n → Spare list n → Spare list m
spare-fewer list n m h s = ⊎_elim (λ a. inl (omega (arith, a, h))) (λ b. inr b) s

-- a part of lists that are as long is as long
part_by : (b : Bool) (m : ℕ) (l k : List (List ℕ)) → length k ≡ length l → length (pick b (take m k) (drop m k)) ≡ length (pick b (take m l) (drop m l))
part_by true m l k e = length-take m k ∙ rw e (sym (length-take m l))
part_by false m l k e = omega (arith, length-drop m k, length-drop m l, e)

pub part_long : (input m : ℕ) (l k : List (List ℕ)) → length k ≡ length l → length (own_part input m k) ≡ length (own_part input m l)
part_long input m l k e = part_by (eqb input 0) m l k e
