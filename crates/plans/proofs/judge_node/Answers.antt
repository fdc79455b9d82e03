-- `plans::judge_node`: the tests go in the order of `node_fault`.
use mathlib.Core.Path.{◌≡◌, sym, ◌∙◌}
use mathlib.Core.Bool.{true, false}
use mathlib.Core.Logic.{⊎_elim}
use Rattle.forms.specs.Sections.{within}
use Rattle.plans.specs.Reader.{is_input, is_third}
use Rattle.plans.proofs.Slots.{slot-allowed, slot-refused}
use Rattle.plans.proofs.judge_node.Goals as goal

pub returns-then-not-is_within : goal.returns-then-not-is_within
returns-then-not-is_within c =
    let operator : within 1 6 c.args.node.operator ≡ false = sym c.is_within.ensures ∙ c.if-not-is_within.true in
    λ kinds place r. rw operator

pub returns-then-not-is_within-2 : goal.returns-then-not-is_within-2
returns-then-not-is_within-2 c =
    let operator : within 1 6 c.args.node.operator ≡ true = sym c.is_within.ensures ∙ c.if-not-is_within.false in
    let context : within 1 4 c.args.node.context ≡ false = sym c.is_within-2.ensures ∙ c.if-not-is_within-2.true in
    λ kinds place r. rw (operator, context)

pub returns-then-left-eq-NO_SLOT : goal.returns-then-left-eq-NO_SLOT
returns-then-left-eq-NO_SLOT c =
    let operator : within 1 6 c.args.node.operator ≡ true = sym c.is_within.ensures ∙ c.if-not-is_within.false in
    let context : within 1 4 c.args.node.context ≡ true = sym c.is_within-2.ensures ∙ c.if-not-is_within-2.false in
    λ kinds place r.
    ⊎_elim
    (λ refused. rw (operator, context, slot-refused kinds place _ _ r.left refused))
    (λ (left, refused). rw (operator, context, slot-allowed kinds place _ _ r.left left, slot-refused kinds place _ _ r.middle refused))
    c.then-left-eq-NO_SLOT.either

pub returns-then-not-is_third : goal.returns-then-not-is_third
returns-then-not-is_third c =
    let operator : within 1 6 c.args.node.operator ≡ true = sym c.is_within.ensures ∙ c.if-not-is_within.false in
    let context : within 1 4 c.args.node.context ≡ true = sym c.is_within-2.ensures ∙ c.if-not-is_within-2.false in
    λ kinds place r.
    let left : is_input kinds place c.args.node.left ≡ true = slot-allowed kinds place _ _ r.left c.if-left-eq-NO_SLOT.false in
    let middle : is_input kinds place c.args.node.middle ≡ true = slot-allowed kinds place _ _ r.middle c.if-middle-eq-NO_SLOT.false in
    let third : is_third kinds place c.args.node ≡ false = sym (c.is_third.ensures kinds place r.third) ∙ c.if-not-is_third.true in
    rw (operator, context, left, middle, third)

pub returns : goal.returns
returns c =
    let operator : within 1 6 c.args.node.operator ≡ true = sym c.is_within.ensures ∙ c.if-not-is_within.false in
    let context : within 1 4 c.args.node.context ≡ true = sym c.is_within-2.ensures ∙ c.if-not-is_within-2.false in
    λ kinds place r.
    let left : is_input kinds place c.args.node.left ≡ true = slot-allowed kinds place _ _ r.left c.if-left-eq-NO_SLOT.false in
    let third : is_third kinds place c.args.node ≡ true = sym (c.is_third.ensures kinds place r.third) ∙ c.if-not-is_third.false in
    rw (operator, context, left, slot-allowed kinds place _ _ r.middle c.if-middle-eq-NO_SLOT.false, third)
