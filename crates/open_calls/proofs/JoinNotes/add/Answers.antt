-- By the three cases.
use Rattle.std.proofs.Common.{sym, ◌∙◌, arith}
use Rattle.timestamps.specs.Order.{clocks_of}
use Rattle.timestamps.proofs.Groupings.{valid-place}
use Rattle.open_calls.proofs.Adding.{clear_told, late_told, put_told}
use Rattle.open_calls.proofs.JoinNotes.add.Goals as goal

pub bounds-self-k : goal.bounds-self-k
bounds-self-k c = omega (arith, valid-place _ c.requires)

pub bounds-self-k-then-not-is_clear : goal.bounds-self-k-then-not-is_clear
bounds-self-k-then-not-is_clear c = omega (arith, valid-place _ c.requires)

pub bounds-self-k-then-not-is_clear-2 : goal.bounds-self-k-then-not-is_clear-2
bounds-self-k-then-not-is_clear-2 c = omega (arith, valid-place _ c.requires)

pub returns-then-not-is_clear : goal.returns-then-not-is_clear
returns-then-not-is_clear c = record { joined = λ l v n. put_told (clocks_of c.args.ratio) l v _ c.requires _ n _ _ c.note_of-note.ensures c.global_note-global.ensures (sym c.is_earlier.ensures ∙ c.if-is_earlier.true) (sym c.is_clear.ensures ∙ c.if-not-is_clear.true) _ c.make_room.ensures }

pub returns-else-not-is_clear : goal.returns-else-not-is_clear
returns-else-not-is_clear c = record { joined = λ l v n. clear_told (clocks_of c.args.ratio) l v _ c.requires _ n _ c.global_note-global.ensures (sym c.is_clear.ensures ∙ c.if-not-is_clear.false) }

pub returns-else-is_earlier : goal.returns-else-is_earlier
returns-else-is_earlier c = record { joined = λ l v n. late_told (clocks_of c.args.ratio) l v _ c.requires _ n _ c.note_of-note.ensures (sym c.is_earlier.ensures ∙ c.if-is_earlier.false) }
