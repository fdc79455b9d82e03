-- The places that seated nodes want, that what is lent is clear, and that 16 places for each kind are enough.
use mathlib.Core.List.{List, [], ◌∷◌}
use mathlib.Core.Logic.{inr}
use mathlib.Core.Path.{◌≡◌, sym, ap, subst, ◌∙◌}
use Prim.Native.Nat.{ℕ, zero, suc, ◌≤◌}
use lib.ListN.{get_or, get_or-replicate, length, length-replicate, replicate}
use native.Mathlib.Omega.{arith}
use Rattle.plans.specs.declared.Node.{Node}
use Rattle.progress.specs.Seats.{Enough, list_start, made_start}
use Rattle.progress.proofs.Parts.{list-most, made-most}
use Rattle.slots.specs.Steps.{AllSeated}
use Rattle.detector.specs.Steps.{Clear, Ready}

-- where the nodes' lists end, and what they make, as the code reads it
module _ (n : ℕ) (nodes : List Node) (places takers seats : List ℕ) (a : AllSeated n nodes places takers seats) (l m : ℕ) (ls : l ≡ list_start seats n 0) (ms : m ≡ made_start seats n)
    (count : ℕ) (kinds : List ℕ) (e : Enough count kinds places) where
  lists_end : list_start seats (length nodes) 0 ≡ l
  lists_end = ap (λ (k : ℕ). list_start seats k 0) a.count ∙ sym ls

  made_end : made_start seats (length nodes) ≡ m
  made_end = ap (made_start seats) a.count ∙ sym ms

  -- at most 16 nodes want no more than the largest
  pub most : (l ≤ 544) × (m ≤ 136)
  most =
      let few = a.seated.inputs.few in
      (omega (arith, few, list-most a.seated e.most (length nodes) (omega arith), lists_end), omega (arith, few, made-most a.seated (length nodes) (omega arith), made_end))

  pub ready : Ready nodes count kinds places takers seats l m
  ready = record { seated = a.seated; taken = a.taken; enough = e; lists_fit = omega (arith, lists_end); made_fit = omega (arith, made_end) }

  -- likewise of a plan's nodes, where these are they
  pub ready_rows : (mine : List Node) → mine ≡ nodes → Ready mine count kinds places takers seats l m
  ready_rows mine same = subst (λ (ns : List Node). Ready ns count kinds places takers seats l m) (sym same) ready

-- what is lent
pub clear : (n : ℕ) → Clear (replicate n (0 ∷ 0 ∷ 0 ∷ []))
clear n = ap (λ (k : ℕ). replicate k (0 ∷ 0 ∷ 0 ∷ [])) (sym (length-replicate n (0 ∷ 0 ∷ 0 ∷ [])))

-- 16 places for each kind
at_most : (n i : ℕ) → get_or (replicate n 16) i 0 ≤ 16
at_most zero i = omega arith
at_most (suc n) zero = omega arith
at_most (suc n) (suc i) = at_most n i

pub sixteen : (count : ℕ) (kinds : List ℕ) → Enough count kinds (replicate 34 16)
sixteen count kinds = record { most = at_most 34; enough = λ q h. inr (get_or-replicate 34 q 16 0 h) }
