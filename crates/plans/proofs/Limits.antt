-- The limits of a plan, and that no entry of it has a fault: the same.
use mathlib.Core.Path.{◌≡◌, refl, sym, ◌∙◌}
use mathlib.Core.List.{List, [], ◌∷◌}
use mathlib.Core.Bool.{Bool, true, false, ◌&&◌}
use mathlib.Core.Logic.{inl, inr, ⊎_elim}
use Prim.Native.Nat.{ℕ, zero, suc, ◌+◌, ◌-◌, ◌≤◌, ◌<◌}
use native.Mathlib.Numerals.{add-one}
use native.Mathlib.Omega.{arith}
use lib.ListN.{length, get_or, take}
use lib.Seq.{take-suc, length-take-le}
use lib.Dec.{leb, ltb, eqb}
use borrow.Author.Tests.{ltb-true, leb-true, leb-false, eqb-true, lt-ltb, le-leb, lt-leb}
use Rattle.sequences.specs.Choice.{pick}
use Rattle.sequences.proofs.Booleans.{and_left, and_right, and_both, or_cases, or_left, or_right}
use Rattle.forms.specs.Sections.{within}
use Rattle.forms.proofs.Pieces.{unless-none, within_in, within_of, outside_in, outside-none}
use Rattle.forms.proofs.Layouts.{Fine, SectionOk, fine_at, at_fine}
use Rattle.plans.specs.Layout.{Plan, node}
use Rattle.plans.specs.Limits.{NumbersOk, InputOk, ThirdOk, NodeOk, no_node, PlanOk}
use Rattle.plans.specs.Reader.{clocks, above, numbers, loggers, kinds, is_input, is_third, node_fault, nodes}
use Rattle.plans.specs.declared.Node.{Node}
use Rattle.plans.proofs.Sections.{above_snoc}

-- ---- numbers that rise
above_at : (l : List ℕ) (i v : ℕ) → suc i < length l → above (take (suc i) l) v ≡ ltb (get_or l i 0) v
above_at l i v h = let k : i < length l = omega arith in rw (take-suc l i 0 k) (above_snoc (take i l) (get_or l i 0) v)

above_of : (l : List ℕ) → ((i : ℕ) → i + 1 < length l → get_or l i 0 < get_or l (i + 1) 0) → (i : ℕ) → i < length l → above (take i l) (get_or l i 0) ≡ true
above_of l r zero h = refl
above_of l r (suc i) h =
    let k : get_or l i 0 < get_or l (suc i) 0 = rw add-one at (r i (omega arith)) in
    above_at l i (get_or l (suc i) 0) h ∙ lt-ltb (get_or l i 0) (get_or l (suc i) 0) k

module _ (limit miscount disorder : ℕ) (l : List ℕ) where
  numbers_ok : 0 < disorder → SectionOk (numbers limit miscount disorder) l → NumbersOk limit l
  numbers_ok p k =
      let at_place = fine_at (numbers limit miscount disorder) [] l k.fine 0 in
      record {
        least = k.least;
        most = k.most;
        small = λ i h. (at_place i h).0;
        rising = λ i h.
            let u = unless-none (above (take (suc i) l) (get_or l (suc i) 0)) disorder 0 p (at_place (suc i) (omega arith)).1 in
            rw add-one (ltb-true (get_or l i 0) (get_or l (suc i) 0) (sym (above_at l i (get_or l (suc i) 0) (omega arith)) ∙ u.0));
      }

  ok_numbers : NumbersOk limit l → SectionOk (numbers limit miscount disorder) l
  ok_numbers k =
      record {
        least = k.least;
        most = k.most;
        fine = at_fine (numbers limit miscount disorder) [] l 0 (λ i h. (k.small i h, rw (above_of l k.rising i h)));
      }

-- ---- inputs and nodes
module _ (kinds place x : ℕ) where
  input_ok : is_input kinds place x ≡ true → InputOk kinds place x
  input_ok e =
      ⊎_elim (λ h. inl (ltb-true x kinds h))
      (λ h.
      let low = leb-true 32768 x (and_left (leb 32768 x) (ltb (x - 32768) place) h) in
      let high = ltb-true (x - 32768) place (and_right (leb 32768 x) (ltb (x - 32768) place) h) in
      inr (x - 32768, high, omega arith))
      (or_cases (ltb x kinds) (leb 32768 x && ltb (x - 32768) place) e)

  pub ok_input : InputOk kinds place x → is_input kinds place x ≡ true
  ok_input (inl h) = or_left (ltb x kinds) _ (lt-ltb x kinds h)
  ok_input (inr h) =
      or_right (ltb x kinds) (leb 32768 x && ltb (x - 32768) place)
      (and_both (leb 32768 x) (ltb (x - 32768) place) (le-leb 32768 x (omega (arith, h.2))) (lt-ltb (x - 32768) place (omega (arith, h.1, h.2))))

  input-small : kinds ≤ 32 → place < 16 → InputOk kinds place x → x < 65536
  input-small c p (inl h) = omega arith
  input-small c p (inr h) = omega (arith, h.1, h.2)

module _ (kinds place : ℕ) (n : Node) where
  third_ok : is_third kinds place n ≡ true → ThirdOk kinds place n
  third_ok e = go (leb n.operator 3) refl e
    where
      go : (t : Bool) → leb n.operator 3 ≡ t → pick t (eqb n.third 65535) (is_input kinds place n.third) ≡ true → ThirdOk kinds place n
      go true h e = inl (leb-true n.operator 3 h, eqb-true n.third 65535 e)
      go false h e = inr (leb-false n.operator 3 h, input_ok kinds place n.third e)

  ok_third : ThirdOk kinds place n → is_third kinds place n ≡ true
  ok_third (inl h) = rw (le-leb n.operator 3 h.0, h.1)
  ok_third (inr h) = rw (lt-leb n.operator 3 h.0) (ok_input kinds place n.third h.1)

  third-small : kinds ≤ 32 → place < 16 → ThirdOk kinds place n → n.third < 65536
  third-small c p (inl h) = omega (arith, h.1)
  third-small c p (inr h) = input-small kinds place n.third c p h.1

  pub node_ok : node_fault kinds place n ≡ 0 → NodeOk kinds place n
  node_ok e =
      let a = unless-none (within 1 6 n.operator) 9 _ (omega arith) e in
      let b = unless-none (within 1 4 n.context) 10 _ (omega arith) a.1 in
      let c = unless-none (is_input kinds place n.left) 11 _ (omega arith) b.1 in
      let d = unless-none (is_input kinds place n.middle) 11 _ (omega arith) c.1 in
      let t = unless-none (is_third kinds place n) 41 0 (omega arith) d.1 in
      let o = within_of 1 6 n.operator a.0 in
      let x = within_of 1 4 n.context b.0 in
      record {
        operator-least = o.0;
        operator-most = o.1;
        context-least = x.0;
        context-most = x.1;
        left = input_ok kinds place n.left c.0;
        middle = input_ok kinds place n.middle d.0;
        third = third_ok t.0;
      }

  ok_node : NodeOk kinds place n → node_fault kinds place n ≡ 0
  ok_node k =
      rw (
        within_in 1 6 n.operator k.operator-least k.operator-most,
        within_in 1 4 n.context k.context-least k.context-most,
        ok_input kinds place n.left k.left,
        ok_input kinds place n.middle k.middle,
        ok_third k.third,
      )

  node-fits : kinds ≤ 32 → place < 16 → NodeOk kinds place n → node.fits n
  node-fits c p k = (
    omega arith,
    (omega arith, (input-small kinds place n.left c p k.left, (input-small kinds place n.middle c p k.middle, third-small c p k.third))),
  )

-- ---- the whole plan
pub record PlanFine (p : Plan) : Type 0 where
  pub clocks_fine : SectionOk clocks (p.ratio ∷ [])
  pub loggers_fine : SectionOk loggers p.loggers
  pub kinds_fine : SectionOk kinds p.kinds
  pub nodes_fine : SectionOk (nodes (length p.kinds)) p.nodes

pub fine_ok : (p : Plan) → PlanFine p → PlanOk p
fine_ok p k =
    let r = fine_at clocks [] (p.ratio ∷ []) k.clocks_fine.fine 0 0 (omega arith) in
    let o = outside-none 1 1000000 p.ratio 3 (omega arith) r.1 in
    let s = nodes (length p.kinds) in
    record {
      ratio-least = o.0;
      ratio-most = o.1;
      loggers = numbers_ok 8 4 5 p.loggers (omega arith) k.loggers_fine;
      kinds = numbers_ok 32 6 7 p.kinds (omega arith) k.kinds_fine;
      nodes-least = k.nodes_fine.least;
      nodes-most = k.nodes_fine.most;
      nodes = λ i h.
          node_ok (length p.kinds) i (get_or p.nodes i no_node)
          (rw (length-take-le i p.nodes (omega arith)) at (fine_at s [] p.nodes k.nodes_fine.fine no_node i h).1);
    }

pub ok_fine : (p : Plan) → PlanOk p → PlanFine p
unfolding Fine
ok_fine p k =
    record {
      clocks_fine = record { least = omega arith; most = omega arith; fine = (omega arith, outside_in 1 1000000 p.ratio 3 k.ratio-least k.ratio-most, tt) };
      loggers_fine = ok_numbers 8 4 5 p.loggers k.loggers;
      kinds_fine = ok_numbers 32 6 7 p.kinds k.kinds;
      nodes_fine = record {
        least = k.nodes-least;
        most = k.nodes-most;
        fine = at_fine (nodes (length p.kinds)) [] p.nodes no_node
            (λ i h. (
              node-fits (length p.kinds) i (get_or p.nodes i no_node) k.kinds.most (omega arith) (k.nodes i h),
              rw (length-take-le i p.nodes (omega arith)) (ok_node (length p.kinds) i (get_or p.nodes i no_node) (k.nodes i h)),
            ));
      };
    }
