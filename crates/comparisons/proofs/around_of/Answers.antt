-- By the note of the logger.
use Rattle.std.proofs.Common.{◌≡◌, ◌||◌, ◌-◌, ltb, ◌∙◌}
use Rattle.comparisons.proofs.Relations.{around_none, around_own}
use Rattle.comparisons.proofs.around_of.Goals as goal
use Rattle.comparisons.proofs.around_of.Goals.{then-earlier, else-earlier}

pub returns-then-own-eq0 : goal.returns-then-own-eq0
returns-then-own-eq0 c = around_none _ _ _ _ _ _ c.clearly_earlier-earlier.ensures c.clearly_earlier-later.ensures c.if-own-eq0.true

pub returns-then-later : goal.returns-then-later
returns-then-later c =
    let before : c.if-earlier.before ≡ (c.clearly_earlier-earlier.result || ltb (c.args.own - 1) c.args.t.0) = elim c.if-earlier.branch [
      | then-earlier w ↦ rw w.if-earlier.true (w.before-is ∙ w.if-earlier.true)
      | else-earlier w ↦ rw w.if-earlier.false (w.before-is ∙ w.earlier-before.ensures)
    ] in
    around_own _ _ _ _ _ _ c.clearly_earlier-earlier.ensures c.clearly_earlier-later.ensures _ _ c.if-own-eq0.false before (rw c.if-later.true)

pub returns-else-later : goal.returns-else-later
returns-else-later c =
    let before : c.if-earlier.before ≡ (c.clearly_earlier-earlier.result || ltb (c.args.own - 1) c.args.t.0) = elim c.if-earlier.branch [
      | then-earlier w ↦ rw w.if-earlier.true (w.before-is ∙ w.if-earlier.true)
      | else-earlier w ↦ rw w.if-earlier.false (w.before-is ∙ w.earlier-before.ensures)
    ] in
    around_own _ _ _ _ _ _ c.clearly_earlier-earlier.ensures c.clearly_earlier-later.ensures _ _ c.if-own-eq0.false before (rw c.if-later.false c.earlier-after.ensures)
