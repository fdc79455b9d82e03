-- Taken out, and put in at last.
use mathlib.Core.Path.{◌≡◌, refl, sym, ap, ◌∙◌}
use Prim.Native.Nat.{◌+◌, ◌-◌, ◌<◌}
use native.Mathlib.Omega.{arith}
use Rattle.waiting_lists.specs.Lists.{place_in}
use Rattle.waiting_lists.proofs.moved.Goals as goal

pub returns-then-i-last : goal.returns-then-i-last
returns-then-i-last c =
    let e : c.args.i ≡ c.args.last = c.if-i-last.true in
    ((λ j h. refl), (λ j h k. absurd (omega arith)), ap (place_in c.args.order) (sym e), (λ j h k. refl))

pub returns : goal.returns
returns c =
    let p = c.place_in.ensures in
    let o = c.without_place.ensures in
    let (few, most) = c.requires in
    let ne = c.if-i-last.false in
    let lt : c.args.i < c.args.last = omega (arith, ne) in
    let (low, there, high) = c.with_place.ensures in (
      (λ j h. low j (omega arith) ∙ o.0 j h),
      (λ j h k. low j k ∙ o.1 j h (omega arith)),
      there ∙ p.0,
      (λ j h k. let e : j - 1 + 1 ≡ j = omega arith in
          ap (place_in c.with_place.result) (sym e) ∙ high (j - 1) (omega arith) (omega arith) ∙ o.1 (j - 1) (omega arith) (omega arith) ∙ ap (place_in c.args.order) e),
    )
