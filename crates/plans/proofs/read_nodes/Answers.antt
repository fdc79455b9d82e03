-- `plans::read_nodes`: the count, and a loop over as many nodes.
use mathlib.Core.List.{List, map}
use mathlib.Core.Path.{◌≡◌, refl, sym, ap, ◌∙◌}
use Prim.Native.Nat.{◌+◌, ◌-◌, ◌<◌}
use native.Mathlib.Omega.{arith}
use borrow.Author.Rules.{rules}
use lib.ListN.{length, length-map, length-set, take}
use lib.Seq.{length-take-le}
use Rattle.std.proofs.lemmas.Result.{err_from_is_err_and}
use Rattle.sequences.proofs.Arrays.{map_set}
use Rattle.forms.specs.Sections.{entries}
use Rattle.forms.proofs.Sections.{section_go, section_stop, entry_got, entry_bad, entries_got}
use Rattle.plans.specs.Reader.{nodes}
use Rattle.plans.specs.Views.{node_of}
use Rattle.plans.specs.declared.Node.{Node}
use Rattle.plans.proofs.Sections.{node-piece}
use Rattle.plans.proofs.Slots.{slotted-more, slotted-none}
use Rattle.plans.proofs.read_nodes.Goals as goal

pub returns-in_err-count-clause-filled : goal.returns-in_err-count-clause-filled
returns-in_err-count-clause-filled c =
    let a = c.args in
    let p = err_from_is_err_and c.from_residual.result c.from_residual.ensures.1 in
    rw (p.1, p.2) (record { is = sym (section_stop (nodes a.kinds) a.bytes.now a.start _ _ (sym c.in_err-count.ensures.is)); counted = tt })

pub loop-place-init : goal.loop-place-init
loop-place-init c =
    let a = c.args in
    record {
      long = search rules;
      rest = section_go (nodes a.kinds) a.bytes.now a.start _ _ (sym c.in_ok-count.ensures.is);
      slotted = slotted-none _ _ refl;
    }

pub returns-in_err-at-clause-filled : goal.returns-in_err-at-clause-filled
returns-in_err-at-clause-filled c =
    let a = c.args in
    let l = c.loop-place in
    let held : List Node = map node_of l.into in
    let before : length (take l.place held) ≡ l.place = length-take-le l.place held (omega (arith, length-map l.into node_of, c.in_ok-count.ensures.most)) in
    let q = err_from_is_err_and c.from_residual-in_err-at.result c.from_residual-in_err-at.ensures.1 in
    rw (q.1, q.2)
    (record {
      is = entry_bad (nodes a.kinds) a.bytes.now _ l.place held l.at _ l.invariant.rest _ _ c.loop-place-test.true
          (c.in_err-at.ensures ∙ node-piece a.bytes.now l.at 1 a.kinds l.place (take l.place held) before);
      counted = tt;
    })

pub loop-place-preserved : goal.loop-place-preserved
loop-place-preserved c =
    let a = c.args in
    let l = c.loop-place in
    let held : List Node = map node_of l.into in
    let row = c.read_node.new.row in
    let most = c.in_ok-count.ensures.most in
    let room : l.place < length l.into = omega (arith, most) in
    let before : length (take l.place held) ≡ l.place = length-take-le l.place held (omega (arith, length-map l.into node_of)) in
    record {
      long = length-set l.into l.place row ∙ l.invariant.long;
      rest = ap (λ x. entries (nodes a.kinds) (c.in_ok-count.count - (l.place + 1)) (take (l.place + 1) x) a.bytes.now c.in_ok-at.at) (map_set node_of l.into l.place row)
          ∙ entry_got (nodes a.kinds) a.bytes.now _ l.place held l.at _ l.invariant.rest _ _ c.loop-place-test.true (omega (arith, length-map l.into node_of))
          (c.in_ok-at.ensures.0 ∙ node-piece a.bytes.now l.at 1 a.kinds l.place (take l.place held) before);
      slotted = slotted-more l.place l.into row room l.invariant.slotted c.in_ok-at.ensures.1;
    }

pub returns-clause-filled : goal.returns-clause-filled
returns-clause-filled c =
    let a = c.args in
    let l = c.loop-place in
    let held : List Node = map node_of l.into in
    let most = c.in_ok-count.ensures.most in
    record {
      is = entries_got (nodes a.kinds) a.bytes.now c.in_ok-count.count l.place held l.at _ l.invariant.rest (omega arith);
      counted = (most, length-take-le c.in_ok-count.count held (omega (arith, most, length-map l.into node_of)));
    }
