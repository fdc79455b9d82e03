-- `plans::read_numbers`: the count, and a loop over as many numbers.
use mathlib.Core.List.{◌++◌}
use mathlib.Core.Path.{◌≡◌, sym, ◌∙◌}
use Prim.Native.Nat.{◌≤◌, ◌<◌}
use native.Mathlib.Omega.{arith}
use lib.ListN.{length, drop, take}
use lib.Seq.{length-take-le}
use lib.Dec.{leb-zero}
use Rattle.std.proofs.lemmas.List.{take-append-le}
use Rattle.std.proofs.lemmas.Result.{err_from_is_err_and}
use Rattle.forms.specs.Bytes.{Bytes}
use Rattle.forms.proofs.Sections.{section_go, section_stop, entry_got, entry_bad, entries_got}
use Rattle.plans.specs.Faults.{number_of}
use Rattle.plans.specs.Reader.{numbers}
use Rattle.plans.proofs.Sections.{least_more, rising-piece}
use Rattle.plans.proofs.read_numbers.Goals as goal

pub returns-in_err-count : goal.returns-in_err-count
returns-in_err-count g c =
    let a = c.args in
    let s = numbers g.row.N (number_of a.miscount) (number_of a.disorder) in
    let p = err_from_is_err_and c.from_residual.result c.from_residual.ensures.1 in
    rw (p.1, p.2) (record { is = sym (section_stop s a.bytes.now a.start _ _ (sym c.in_err-count.ensures.is)); counted = tt })

pub loop-entry-init : goal.loop-entry-init
loop-entry-init g c =
    let a = c.args in
    let s = numbers g.row.N (number_of a.miscount) (number_of a.disorder) in
    record { above = λ v. sym (leb-zero v); rest = section_go s a.bytes.now a.start _ _ (sym c.in_ok-count.ensures.is) }

pub returns-in_err-n : goal.returns-in_err-n
returns-in_err-n g c =
    let a = c.args in
    let l = c.loop-entry in
    let s = numbers g.row.N (number_of a.miscount) (number_of a.disorder) in
    let bytes : Bytes a.bytes.now = λ i. omega (arith, c.type_inv.bytes i) in
    let rising = rising-piece 1 (number_of a.disorder) a.bytes.now l.at l.least (take l.entry-index l.entry-items) bytes l.invariant.above in
    let long = length-take-le c.in_ok-count.count a.into.now (omega (arith, c.in_ok-count.ensures.most)) in
    let p = err_from_is_err_and c.from_residual-in_err-n.result c.from_residual-in_err-n.ensures.1 in
    rw (p.1, p.2)
    (record {
      is = entry_bad s a.bytes.now _ l.entry-index l.entry-items l.at _ l.invariant.rest _ _ (omega (arith, long)) (c.in_err-n.ensures.is ∙ rising);
      counted = tt;
    })

pub loop-entry-preserved : goal.loop-entry-preserved
loop-entry-preserved g c =
    let a = c.args in
    let l = c.loop-entry in
    let s = numbers g.row.N (number_of a.miscount) (number_of a.disorder) in
    let bytes : Bytes a.bytes.now = λ i. omega (arith, c.type_inv.bytes i) in
    let rising = rising-piece 1 (number_of a.disorder) a.bytes.now l.at l.least (take l.entry-index l.entry-items) bytes l.invariant.above in
    let long = length-take-le c.in_ok-count.count a.into.now (omega (arith, c.in_ok-count.ensures.most)) in
    let room : l.entry-index < length l.entry-items = omega arith in
    record {
      above = least_more l.entry-items l.entry-index c.in_ok-n.n room;
      rest = entry_got s a.bytes.now _ l.entry-index l.entry-items l.at _ l.invariant.rest _ _ (omega (arith, long)) room
          (c.in_ok-n.ensures.is ∙ rising);
    }

pub returns : goal.returns
returns g c =
    let a = c.args in
    let l = c.loop-entry in
    let s = numbers g.row.N (number_of a.miscount) (number_of a.disorder) in
    let most = c.in_ok-count.ensures.most in
    let count = c.in_ok-count.count in
    let long = length-take-le count a.into.now (omega (arith, most)) in
    let all : count ≤ length l.entry-items = omega (arith, long) in
    let held : take count (l.entry-items ++ drop count a.into.now) ≡ take count l.entry-items = take-append-le count l.entry-items _ all in
    record {
      is = rw held (entries_got s a.bytes.now count l.entry-index l.entry-items l.at _ l.invariant.rest (omega (arith, long)));
      counted = (most, rw held (length-take-le count l.entry-items all));
    }
