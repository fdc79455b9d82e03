-- By the note of the second list, then reply by reply.
use Rattle.std.proofs.Common.{◌≡◌, ◌&&◌, not, eq-eqb, ◌∙◌}
use Rattle.comparisons.specs.Notes.{related_at}
use Rattle.comparisons.proofs.Relations.{related_told}
use Rattle.comparisons.proofs.relate_at.Goals as goal
use Rattle.comparisons.proofs.relate_at.Goals.{then-r, else-r, then-r-2, else-r-2, then-not-m, else-not-m}

pub returns-then-note-eq0 : goal.returns-then-note-eq0
unfolding related_at
returns-then-note-eq0 c = rw (eq-eqb _ _ c.if-note-eq0.true)

pub returns-then-r-3 : goal.returns-then-r-3
returns-then-r-3 c =
    let before : c.if-r.before ≡ (c.args.r.before && c.around_of-m.result.earlier)
    = elim c.if-r.branch [ then-r w ↦ rw w.if-r.true w.before-is | else-r w ↦ rw w.if-r.false (w.before-is ∙ w.if-r.false) ] in
    let apart : c.if-r-2.value ≡ (c.args.r.concurrent && not c.around_of-m.result.earlier)
    = elim c.if-r-2.branch [ then-r-2 w ↦ rw w.if-r-2.true w.value-is | else-r-2 w ↦ rw w.if-r-2.false (w.value-is ∙ w.if-r-2.false) ] in
    let concurrent : c.if-not-m.concurrent ≡ (c.if-r-2.value && not c.around_of-m.result.later)
    = elim c.if-not-m.branch [ then-not-m w ↦ rw w.if-not-m.true w.concurrent-is | else-not-m w ↦ rw w.if-not-m.false (w.concurrent-is ∙ w.if-not-m.false) ] in
    related_told _ _ _ _ _ _ _ _ _ c.if-note-eq0.false c.around_of-m.ensures before (rw apart at concurrent) (rw c.if-r-3.true)

pub returns-else-r-3 : goal.returns-else-r-3
returns-else-r-3 c =
    let before : c.if-r.before ≡ (c.args.r.before && c.around_of-m.result.earlier)
    = elim c.if-r.branch [ then-r w ↦ rw w.if-r.true w.before-is | else-r w ↦ rw w.if-r.false (w.before-is ∙ w.if-r.false) ] in
    let apart : c.if-r-2.value ≡ (c.args.r.concurrent && not c.around_of-m.result.earlier)
    = elim c.if-r-2.branch [ then-r-2 w ↦ rw w.if-r-2.true w.value-is | else-r-2 w ↦ rw w.if-r-2.false (w.value-is ∙ w.if-r-2.false) ] in
    let concurrent : c.if-not-m.concurrent ≡ (c.if-r-2.value && not c.around_of-m.result.later)
    = elim c.if-not-m.branch [ then-not-m w ↦ rw w.if-not-m.true w.concurrent-is | else-not-m w ↦ rw w.if-not-m.false (w.concurrent-is ∙ w.if-not-m.false) ] in
    related_told _ _ _ _ _ _ _ _ _ c.if-note-eq0.false c.around_of-m.ensures before (rw apart at concurrent) (rw c.if-r-3.false)
