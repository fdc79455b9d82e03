-- The place is one, or nothing changes.
use mathlib.Core.Path.{sym}
use lib.Seq.{set_out}
use Rattle.waiting_lists.proofs.put.Goals as goal

pub returns-else-place-w : goal.returns-else-place-w
returns-else-place-w c = let a = c.args in sym (set_out a.w.now a.place a.o.now c.if-place-w.false)
