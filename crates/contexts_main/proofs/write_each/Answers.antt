-- Each that waits has a place of the list, and what lies there is known.
use Rattle.occurrences.proofs.Packed.{stands-within}
use Rattle.waiting_lists.proofs.Waits.{read-bytes}
use Rattle.std.proofs.Common.{rules}
use Rattle.contexts_main.proofs.write_each.Goals as goal

pub combined-c-requires : goal.combined-c-requires
combined-c-requires g c =
    let (t, l, x, h, p) = c.requires in
    (read-bytes _ t c.args.list.now l h c.list_of-waiting.result c.list_of-waiting.ensures _ _ c.place_at-place.ensures (search rules), stands-within _ t _ x p)
