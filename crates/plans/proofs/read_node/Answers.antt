-- `plans::read_node`: an entry of eight bytes, and what `judge_node` says of it.
use mathlib.Core.Path.{◌≡◌, sym, ap, ◌∙◌}
use Prim.Native.Nat.{◌<◌}
use native.Mathlib.Omega.{arith}
use Rattle.forms.specs.Sections.{bad}
use Rattle.forms.proofs.Pieces.{piece_is, piece_short, piece_wrong}
use Rattle.plans.specs.Faults.{number_of}
use Rattle.plans.specs.Layout.{node}
use Rattle.plans.specs.Reader.{node_fault}
use Rattle.plans.proofs.Faults.{some_number}
use Rattle.plans.proofs.Slots.{row_below, row_gives}
use Rattle.plans.proofs.read_node.Goals as goal

pub returns-then-left-lt-WIDTH : goal.returns-then-left-lt-WIDTH
returns-then-left-lt-WIDTH c =
    let a = c.args in
    rw c.at.ensures (sym (piece_short node 1 (node_fault a.kinds a.place) a.bytes.now a.at (omega arith)))

pub returns-in-Err : goal.returns-in-Err
returns-in-Err c =
    let a = c.args in
    let n = c.node_at-node in
    let fault : number_of c.in-Err.fault ≡ node_fault a.kinds a.place n.result = c.in-Err.ensures a.kinds a.place c.row_of.ensures in
    let some : 0 < node_fault a.kinds a.place n.result = rw (← fault) (some_number c.in-Err.fault) in
    rw c.at-in-Err.ensures
    (ap (λ k. bad k a.at) fault
    ∙ sym (piece_wrong node 1 (node_fault a.kinds a.place) a.bytes.now a.at n.result (omega arith) (sym n.ensures.0) some))

pub returns : goal.returns
returns c =
    let a = c.args in
    let n = c.node_at-node in
    let row = c.row_of.ensures in
    let none : node_fault a.kinds a.place n.result ≡ 0 = sym (c.in_default.ensures a.kinds a.place row) in
    let gives = row_gives a.kinds a.place n.result _ row c.requires.0 c.requires.1 none in (
      rw gives (sym (piece_is node 1 (node_fault a.kinds a.place) a.bytes.now a.at n.result (omega arith) (sym n.ensures.0) none)),
      row_below a.kinds a.place n.result _ row,
    )
