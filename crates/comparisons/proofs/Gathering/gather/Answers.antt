-- By the note that its logger has.
use Rattle.std.proofs.Common.{refl, sym, ◌∙◌, arith}
use Rattle.timestamps.proofs.Groupings.{valid-place}
use Rattle.comparisons.proofs.Entries.{again-noted, first-good, first-noted, first-torn, global_told, judged_bad, judged_clash, judged_good}
use Rattle.comparisons.proofs.Notes.{again-fits, other_clash}
use Rattle.comparisons.proofs.Gathering.gather.Goals as goal

pub note_of-note-requires : goal.note_of-note-requires
note_of-note-requires c = sym c.valid.ensures ∙ c.if-not-valid.false

pub bounds-self-k : goal.bounds-self-k
bounds-self-k c = omega (arith, valid-place _ (sym c.valid.ensures ∙ c.if-not-valid.false))

pub bounds-self-k-2 : goal.bounds-self-k-2
bounds-self-k-2 c = omega (arith, valid-place _ (sym c.valid.ensures ∙ c.if-not-valid.false))

pub bounds-self-k-3 : goal.bounds-self-k-3
bounds-self-k-3 c = omega (arith, valid-place _ (sym c.valid.ensures ∙ c.if-not-valid.false))

pub bounds-self-k-4 : goal.bounds-self-k-4
bounds-self-k-4 c = omega (arith, valid-place _ (sym c.valid.ensures ∙ c.if-not-valid.false))

pub returns-then-not-valid-clause-judged : goal.returns-then-not-valid-clause-judged
returns-then-not-valid-clause-judged c = λ l n. judged_bad _ l _ (sym c.valid.ensures ∙ c.if-not-valid.true)

pub returns-then-self-k-clause-judged : goal.returns-then-self-k-clause-judged
returns-then-self-k-clause-judged c = λ l n.
    let v = sym c.valid.ensures ∙ c.if-not-valid.false in
    judged_good _ l _ v (again-fits _ l _ n _ v (c.if-self-k.true ∙ c.note_of-note.ensures))

pub returns-then-self-k-clause-noted : goal.returns-then-self-k-clause-noted
returns-then-self-k-clause-noted c = λ l n. again-noted _ l _ (sym c.valid.ensures ∙ c.if-not-valid.false) _ n (c.if-self-k.true ∙ c.note_of-note.ensures)

pub returns-then-self-k-ne0-clause-judged : goal.returns-then-self-k-ne0-clause-judged
returns-then-self-k-ne0-clause-judged c = λ l n.
    let v = sym c.valid.ensures ∙ c.if-not-valid.false in
    judged_clash _ l _ v (other_clash _ l _ n _ v (λ e. c.if-self-k.false (e ∙ sym c.note_of-note.ensures)) c.if-self-k-ne0.true)

pub returns-then-is_torn-clause-judged : goal.returns-then-is_torn-clause-judged
returns-then-is_torn-clause-judged c = λ l n.
    let v = sym c.valid.ensures ∙ c.if-not-valid.false in
    judged_clash _ l _ v (first-torn _ l _ v _ n c.if-self-k-ne0.false _ _ (global_told c.args.ratio _ _ c.global-global.ensures) c.widened-span.ensures
    (sym c.is_torn.ensures ∙ c.if-is_torn.true))

-- nothing is noted yet
pub returns-then-is_torn-clause-kept : goal.returns-then-is_torn-clause-kept
returns-then-is_torn-clause-kept c = refl

pub returns-clause-judged : goal.returns-clause-judged
returns-clause-judged c = λ l n.
    let v = sym c.valid.ensures ∙ c.if-not-valid.false in
    judged_good _ l _ v (first-good _ l _ v _ n c.if-self-k-ne0.false _ _ (global_told c.args.ratio _ _ c.global-global.ensures) c.widened-span.ensures
    (sym c.is_torn.ensures ∙ c.if-is_torn.false))

pub returns-clause-noted : goal.returns-clause-noted
returns-clause-noted c = λ l n.
    first-noted _ l _ (sym c.valid.ensures ∙ c.if-not-valid.false) _ n c.if-self-k-ne0.false _ _ (global_told c.args.ratio _ _ c.global-global.ensures)
    c.widened-span.ensures _ c.note_of-note.ensures (sym c.is_torn.ensures ∙ c.if-is_torn.false)
