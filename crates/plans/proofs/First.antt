-- The first 221 bytes of a plan file decide its answer: one byte more than the longest plan has.
use mathlib.Core.Path.{◌≡◌, ap}
use mathlib.Core.List.{List}
use Prim.Native.Nat.{ℕ, ◌≤◌}
use native.Mathlib.Decide.{dec_lt}
use native.Mathlib.Omega.{arith}
use lib.ListN.{length, take}
use lib.Seq.{take_all}
use Rattle.forms.specs.Forms.{number, pair}
use Rattle.forms.specs.Sections.{section}
use Rattle.forms.proofs.First.{Steady, ended-first, number_steady, pair_steady, section-first, section-next, then-first, via_steady}
use Rattle.plans.specs.Layout.{from_node, node, to_node}
use Rattle.plans.specs.Reader.{answered, clocks, kinds, loggers, nodes, plan_at, read_plan}

node_steady : Steady node
node_steady =
    let two = pair (number 2) (number 2) in
    let inputs = pair (number 2) two in
    via_steady to_node from_node (pair (number 1) (pair (number 1) inputs))
    (pair_steady (number 1) (pair (number 1) inputs) (number_steady 1)
    (pair_steady (number 1) inputs (number_steady 1)
    (pair_steady (number 2) two (number_steady 2) (pair_steady (number 2) (number 2) (number_steady 2) (number_steady 2)))))

module _ (b : List ℕ) (m : ℕ) (enough : 221 ≤ m) (within : m ≤ length b) where
  at_first : plan_at (take m b) ≡ plan_at b
  unfolding plan_at
  at_first =
      then-first (section clocks b 0) (section clocks (take m b) 0) _ _ (section-first b m within clocks (number_steady 4) 0 (omega arith) (omega arith)) λ ratios at₁ e₁.
      let b₁ = section-next clocks b 0 ratios at₁ (omega arith) e₁ in
      then-first (section loggers b at₁) (section loggers (take m b) at₁) _ _ (section-first b m within loggers (number_steady 2) at₁ (omega arith) (omega (arith, b₁))) λ ls at₂ e₂.
      let b₂ = section-next loggers b at₁ ls at₂ (omega arith) e₂ in
      then-first (section kinds b at₂) (section kinds (take m b) at₂) _ _ (section-first b m within kinds (number_steady 2) at₂ (omega arith) (omega (arith, b₁, b₂))) λ ks at₃ e₃.
      let b₃ = section-next kinds b at₂ ks at₃ (omega arith) e₃ in
      then-first (section (nodes (length ks)) b at₃) (section (nodes (length ks)) (take m b) at₃) _ _
      (section-first b m within (nodes (length ks)) node_steady at₃ (omega arith) (omega (arith, b₁, b₂, b₃))) λ ns at₄ e₄.
      let b₄ = section-next (nodes (length ks)) b at₃ ns at₄ (omega arith) e₄ in
      ended-first b m within _ _ at₄ (omega (arith, b₁, b₂, b₃, b₄))

pub first-bytes : (b : List ℕ) (m : ℕ) → 221 ≤ m → read_plan (take m b) ≡ read_plan b
unfolding read_plan
first-bytes b m h = elim (dec_lt (length b) m) [
  | yes l ↦ ap (λ x. answered (plan_at x)) (take_all m b (omega arith))
  | no l ↦ ap answered (at_first b m h (omega arith))
]
