-- `plans::slot_of`: by the four cases.
use Rattle.plans.proofs.Slots.{slot-kind, slot-node, slot-other, slot-past}
use Rattle.plans.proofs.slot_of.Goals as goal

pub returns-then-input-kinds : goal.returns-then-input-kinds
returns-then-input-kinds c = slot-kind _ _ _ c.requires.0 c.if-input-kinds.true

pub returns-then-input-lt-FIRST_NODE : goal.returns-then-input-lt-FIRST_NODE
returns-then-input-lt-FIRST_NODE c = slot-other _ _ _ c.requires.0 c.if-input-kinds.false c.if-input-lt-FIRST_NODE.true

pub returns-then-earlier-place : goal.returns-then-earlier-place
returns-then-earlier-place c = slot-node _ _ _ c.requires.0 c.if-input-lt-FIRST_NODE.false c.if-earlier-place.true

pub returns-else-earlier-place : goal.returns-else-earlier-place
returns-else-earlier-place c = slot-past _ _ _ c.requires.0 c.if-input-lt-FIRST_NODE.false c.if-earlier-place.false
