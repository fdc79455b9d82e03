-- The plan file, for byte lists of every length: what is accepted is the bytes of a plan within the limits, and the bytes of
-- every such plan are accepted, with that very plan. Each list has one answer: a plan, or one number of the table.
use mathlib.Core.Path.{◌≡◌, refl, sym, ap, subst, ◌∙◌}
use mathlib.Core.List.{List, [], ◌∷◌, ◌++◌, append_assoc, append-nil}
use mathlib.Core.Logic.{◌⊎◌, inl, inr, ⊎_elim}
use Prim.Native.Nat.{ℕ, ◌+◌, ◌≤◌}
use native.Mathlib.Omega.{arith}
use lib.ListN.{length, get_or, drop, length-append}
use lib.Seq.{take_all}
use borrow.Author.Tests.{le-ltb}
use Rattle.forms.specs.Bytes.{Bytes}
use Rattle.forms.specs.Forms.{number, section_bytes}
use Rattle.forms.specs.Sections.{within, Read, got, bad, then, section, ended}
use Rattle.forms.proofs.Numbers.{bytes-append}
use Rattle.forms.proofs.Forms.{number_laws}
use Rattle.forms.proofs.Layouts.{SectionOk, section-bytes, then-got, ended-got, section-laid, section-read, rest, room}
use Rattle.forms.proofs.Faults.{then-bad, ended-bad, no_fault, unless_proper, section-bad}
use Rattle.plans.specs.Faults.{PlanNumber}
use Rattle.plans.specs.Layout.{Plan, node, plan_bytes}
use Rattle.plans.specs.Limits.{PlanOk}
use Rattle.plans.specs.Reader.{clocks, above, loggers, kinds, is_input, is_third, nodes, plan_at, PlanAnswer, accepted, refused, answered, read_plan}
use Rattle.plans.specs.declared.Node.{Node}
use Rattle.plans.proofs.Sections.{node_laws}
use Rattle.plans.proofs.Limits.{PlanFine, fine_ok, ok_fine}

-- what follows each section
module _ (b : List ℕ) where
  abbrev end : List ℕ → List ℕ → List ℕ → List Node → ℕ → Read Plan
  end rs ls ks ns at = ended 12 b (record { ratio = get_or rs 0 0; loggers = ls; kinds = ks; nodes = ns }) at

  abbrev after_kinds : List ℕ → List ℕ → List ℕ → ℕ → Read Plan
  after_kinds rs ls ks at = then (section (nodes (length ks)) b at) (end rs ls ks)

  abbrev after_loggers : List ℕ → List ℕ → ℕ → Read Plan
  after_loggers rs ls at = then (section kinds b at) (after_kinds rs ls)

  abbrev after_clocks : List ℕ → ℕ → Read Plan
  after_clocks rs at = then (section loggers b at) (after_loggers rs)

-- ---- each refusal has a number of the table
not_none : (k : ℕ) → PlanNumber k → k ≡ 0 → ⊥
not_none k (inl h) z = omega arith
not_none k (inr h) z = omega arith

plan-bad : (b : List ℕ) (k p : ℕ) → plan_at b ≡ bad k p → PlanNumber k
unfolding plan_at
plan-bad b k p h =
    ⊎_elim
    (section-bad PlanNumber b clocks (inl (omega arith)) (inl (omega arith)) (λ l v. unless_proper PlanNumber (within 1 1000000 v) (inl (omega arith)) (no_fault PlanNumber)) 0 k p)
    (λ t. ⊎_elim
    (section-bad PlanNumber b loggers (inl (omega arith)) (inl (omega arith)) (λ l v. unless_proper PlanNumber (above l v) (inl (omega arith)) (no_fault PlanNumber)) t.1 k p)
    (λ u. ⊎_elim
    (section-bad PlanNumber b kinds (inl (omega arith)) (inl (omega arith)) (λ l v. unless_proper PlanNumber (above l v) (inl (omega arith)) (no_fault PlanNumber)) u.1 k p)
    (λ v. ⊎_elim
    (section-bad PlanNumber b (nodes (length v.0)) (inl (omega arith)) (inl (omega arith)) (λ l n.
    unless_proper PlanNumber (within 1 6 n.operator) (inl (omega arith))
    (unless_proper PlanNumber (within 1 4 n.context) (inl (omega arith))
    (unless_proper PlanNumber (is_input (length v.0) (length l) n.left) (inl (omega arith))
    (unless_proper PlanNumber (is_input (length v.0) (length l) n.middle) (inl (omega arith))
    (unless_proper PlanNumber (is_third (length v.0) (length l) n) (inr refl) (no_fault PlanNumber)))))) v.1 k p)
    (λ w. let e = ended-bad 12 b _ w.1 k p w.2 in inl (omega arith))
    (then-bad (section (nodes (length v.0)) b v.1) (end b t.0 u.0 v.0) k p v.2))
    (then-bad (section kinds b u.1) (after_kinds b t.0 u.0) k p u.2))
    (then-bad (section loggers b t.1) (after_loggers b t.0) k p t.2))
    (then-bad (section clocks b 0) (after_clocks b) k p h)

-- one answer: a plan, or a number from 1 to 12 or 41 with its place
pub one_answer : (b : List ℕ) → ((p : Plan) × (read_plan b ≡ accepted p)) ⊎ ((k : ℕ) × (at : ℕ) × PlanNumber k × (read_plan b ≡ refused k at))
unfolding read_plan
one_answer b = go (plan_at b) refl
  where
    go : (r : Read Plan) → plan_at b ≡ r
        → ((p : Plan) × (answered r ≡ accepted p)) ⊎ ((k : ℕ) × (at : ℕ) × PlanNumber k × (answered r ≡ refused k at))
    go (got p m) e = inl (p, refl)
    go (bad k at) e = inr (k, at, plan-bad b k at e, refl)

-- ---- what is accepted is the bytes of a plan within the limits
plan-got : (b : List ℕ) (p : Plan) → read_plan b ≡ accepted p → (m : ℕ) × (plan_at b ≡ got p m)
unfolding read_plan
plan-got b p h = go (plan_at b) refl h
  where
    go : (r : Read Plan) → plan_at b ≡ r → answered r ≡ accepted p → (m : ℕ) × (r ≡ got p m)
    go (got q m) e h = let i : q ≡ p = ap (λ (a : PlanAnswer). a.plan) h in (m, rw i)
    go (bad k at) e h =
        let z : k ≡ 0 = ap (λ (a : PlanAnswer). a.number) h in
        absurd (not_none k (plan-bad b k at e) z)

single : (l : List ℕ) → length l ≡ 1 → l ≡ get_or l 0 0 ∷ []
single [] h = absurd (omega arith)
single (x ∷ []) h = refl
single (x ∷ y ∷ l) h = absurd (omega arith)

pub accepted_is_laid_out : (b : List ℕ) (p : Plan) → Bytes b → read_plan b ≡ accepted p → (b ≡ plan_bytes p) × PlanOk p
unfolding plan_at plan_bytes
accepted_is_laid_out b p B h =
    let (m, r) = plan-got b p h in
    let t = then-got (section clocks b 0) (after_clocks b) p m r in
    let u = then-got (section loggers b t.1) (after_loggers b t.0) p m t.3 in
    let v = then-got (section kinds b u.1) (after_kinds b t.0 u.0) p m u.3 in
    let w = then-got (section (nodes (length v.0)) b v.1) (end b t.0 u.0 v.0) p m v.3 in
    let e = ended-got 12 b (record { ratio = get_or t.0 0 0; loggers = u.0; kinds = v.0; nodes = w.0 }) w.1 p m w.3 in
    let x₁ = section-laid b B clocks (number_laws 4) 0 t.0 t.1 [] (omega arith) refl t.2 in
    let x₂ = section-laid b B loggers (number_laws 2) t.1 u.0 u.1 _ (omega arith) x₁.0 u.2 in
    let x₃ = section-laid b B kinds (number_laws 2) u.1 v.0 v.1 _ (omega arith) x₂.0 v.2 in
    let x₄ = section-laid b B (nodes (length v.0)) node_laws v.1 w.0 w.1 _ (omega arith) x₃.0 w.2 in
    let one : t.0 ≡ get_or t.0 0 0 ∷ [] = single t.0 (omega (arith, x₁.1.least, x₁.1.most)) in
    subst (λ q. (b ≡ plan_bytes q) × PlanOk q) e.0 (
      sym (take_all w.1 b e.1) ∙ x₄.0
          ∙ ap (λ l. section_bytes (number 4) l ++ section_bytes (number 2) u.0 ++ section_bytes (number 2) v.0 ++ section_bytes node w.0) one,
      fine_ok _ (record { clocks_fine = subst (SectionOk clocks) one x₁.1; loggers_fine = x₂.1; kinds_fine = x₃.1; nodes_fine = x₄.1 }),
    )

-- ---- the bytes of a plan within the limits are accepted
read-laid : (b : List ℕ) (p : Plan) → b ≡ plan_bytes p → PlanFine p → read_plan b ≡ accepted p
unfolding read_plan plan_at plan_bytes
read-laid b p e k =
    let C : List ℕ = section_bytes (number 4) (p.ratio ∷ []) in
    let L : List ℕ = section_bytes (number 2) p.loggers in
    let K : List ℕ = section_bytes (number 2) p.kinds in
    let N : List ℕ = section_bytes node p.nodes in
    let a₂ : ℕ = 0 + length C in
    let a₃ : ℕ = a₂ + length L in
    let a₄ : ℕ = a₃ + length K in
    let e₁ : drop 0 b ≡ C ++ (L ++ (K ++ N)) = e ∙ append_assoc (C ++ L) K N ∙ append_assoc C L (K ++ N) in
    let r₁ = section-read clocks (number_laws 4) b 0 (p.ratio ∷ []) (L ++ (K ++ N)) (omega arith) (omega arith) k.clocks_fine e₁ in
    let e₂ : drop a₂ b ≡ L ++ (K ++ N) = rest b C (L ++ (K ++ N)) 0 e₁ in
    let m₂ : a₂ ≤ length b = room b C (L ++ (K ++ N)) 0 (omega arith) e₁ in
    let r₂ = section-read loggers (number_laws 2) b a₂ p.loggers (K ++ N) m₂ (omega arith) k.loggers_fine e₂ in
    let e₃ : drop a₃ b ≡ K ++ N = rest b L (K ++ N) a₂ e₂ in
    let m₃ : a₃ ≤ length b = room b L (K ++ N) a₂ m₂ e₂ in
    let r₃ = section-read kinds (number_laws 2) b a₃ p.kinds N m₃ (omega arith) k.kinds_fine e₃ in
    let e₄ : drop a₄ b ≡ N ++ [] = rest b K N a₃ e₃ ∙ sym (append-nil N) in
    let m₄ : a₄ ≤ length b = room b K N a₃ m₃ e₃ in
    let r₄ = section-read (nodes (length p.kinds)) node_laws b a₄ p.nodes [] m₄ (omega arith) k.nodes_fine e₄ in
    let n : length b ≤ a₄ + length N = omega (arith, ap length e, length-append (C ++ L ++ K) N, length-append (C ++ L) K, length-append C L) in
    rw (r₁, r₂, r₃, r₄, le-ltb _ _ n)

pub laid_out_is_accepted : (p : Plan) → PlanOk p → read_plan (plan_bytes p) ≡ accepted p
laid_out_is_accepted p k = read-laid (plan_bytes p) p refl (ok_fine p k)

-- which are bytes
pub laid_out_is_bytes : (p : Plan) → PlanOk p → Bytes (plan_bytes p)
unfolding plan_bytes
laid_out_is_bytes p k =
    let f = ok_fine p k in
    let C = section_bytes (number 4) (p.ratio ∷ []) in
    let L = section_bytes (number 2) p.loggers in
    let K = section_bytes (number 2) p.kinds in
    let N = section_bytes node p.nodes in
    bytes-append (C ++ L ++ K) N
    (bytes-append (C ++ L) K
    (bytes-append C L (section-bytes clocks (number_laws 4) (p.ratio ∷ []) (omega arith) f.clocks_fine) (section-bytes loggers (number_laws 2) p.loggers (omega arith) f.loggers_fine))
    (section-bytes kinds (number_laws 2) p.kinds (omega arith) f.kinds_fine))
    (section-bytes (nodes (length p.kinds)) node_laws p.nodes (omega arith) f.nodes_fine)

-- so they tell one plan from another
pub layout_tells : (p q : Plan) → PlanOk p → PlanOk q → plan_bytes p ≡ plan_bytes q → p ≡ q
layout_tells p q h k e =
    ap (λ (a : PlanAnswer). a.plan) (sym (laid_out_is_accepted p h) ∙ ap read_plan e ∙ laid_out_is_accepted q k)

-- ---- for those who go by the number of the answer
pub accepted_of : (b : List ℕ) → (read_plan b).number ≡ 0 → read_plan b ≡ accepted (read_plan b).plan
accepted_of b z =
    ⊎_elim (λ a. a.1 ∙ ap (λ (r : PlanAnswer). accepted r.plan) (sym a.1))
    (λ r. let n : (read_plan b).number ≡ r.0 = ap (λ (a : PlanAnswer). a.number) r.3 in absurd (not_none r.0 r.2 (sym n ∙ z)))
    (one_answer b)

pub accepted_ok : (b : List ℕ) → Bytes b → (read_plan b).number ≡ 0 → PlanOk (read_plan b).plan
accepted_ok b B z = (accepted_is_laid_out b (read_plan b).plan B (accepted_of b z)).1
