-- `forms::number_at`: a byte more each turn, and in the end all of them.
use mathlib.Core.List.{List}
use mathlib.Core.Path.{◌≡◌, refl, sym, ap, ◌∙◌}
use Prim.Native.Nat.{ℕ, ◌+◌, ◌-◌, ◌*◌, ◌<◌}
use native.Mathlib.Omega.{arith}
use lib.ListN.{get_or, take, drop}
use lib.Seq.{take_all}
use Rattle.forms.specs.Bytes.{value_of}
use Rattle.forms.proofs.Numbers.{value-more, bound_more, bound_64, length_part, bytes_take, bytes_drop}
use Rattle.forms.proofs.number_at.Goals as goal

pub loop-b-init : goal.loop-b-init
unfolding value_of
loop-b-init c = (refl, omega arith)

pub overflow_mul-v : goal.overflow_mul-v
overflow_mul-v c =
    let a = c.args in
    let l = c.loop-b in
    omega (arith, length_part a.bytes.now a.at (a.at + a.width - a.at) (omega arith), bound_64 l.b-index l.v (omega arith) l.invariant.1)

pub loop-b-preserved : goal.loop-b-preserved
loop-b-preserved c =
    let a = c.args in
    let l = c.loop-b in
    let part : List ℕ = take (a.at + a.width - a.at) (drop a.at a.bytes.now) in
    let byte : get_or part l.b-index 0 < 256 = bytes_take _ _ (bytes_drop a.at a.bytes.now (λ i. omega (arith, c.type_inv.bytes i))) l.b-index in (
      ap (λ v. v * 256 + get_or part l.b-index 0) l.invariant.0 ∙ sym (value-more part l.b-index c.loop-b-test.true),
      bound_more l.b-index l.v _ l.invariant.1 byte,
    )

pub returns : goal.returns
returns c =
    let a = c.args in
    let l = c.loop-b in
    let w : a.at + a.width - a.at ≡ a.width = omega arith in
    l.invariant.0 ∙ rw (take_all l.b-index _ c.loop-b-test.false, w)
