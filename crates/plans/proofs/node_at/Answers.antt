-- `plans::node_at`: each field reads what the form has at its place, and fits there.
use mathlib.Core.Path.{subst, sym}
use native.Mathlib.Omega.{arith}
use Rattle.plans.specs.Layout.{node}
use Rattle.plans.proofs.Sections.{node_laws, node-value}
use Rattle.plans.proofs.node_at.Goals as goal

pub returns : goal.returns
returns c =
    let a = c.args in
    let is = node-value a.bytes.now a.at _ _ _ _ _
    c.number_at.ensures c.number_at-2.ensures c.number_at-3.ensures c.number_at-4.ensures c.number_at-5.ensures in
    (is, subst node.fits (sym is) (node_laws.fit a.bytes.now a.at (λ i. omega (arith, c.type_inv.bytes i)) c.requires))
