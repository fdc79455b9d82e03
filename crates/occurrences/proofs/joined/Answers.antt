-- The later of two alone, or all places.
use Rattle.std.proofs.Common.{◌+◌, ◌<◌, length, get_or, sym, ap, ◌∙◌, rules, ltb-true}
use Rattle.timestamps.specs.Notes.{globals_of}
use Rattle.occurrences.specs.Steps.{kept_of}
use Rattle.occurrences.proofs.Joins.{later_one}
use Rattle.timestamps.proofs.Notes.{global_noted}
use Rattle.occurrences.proofs.Single.{first_settled, only_inside, second_settled}
use Rattle.timestamps.specs.Order.{clearly_earlier}
use Rattle.occurrences.proofs.joined.Goals as goal

pub bounds-notes-i : goal.bounds-notes-i
bounds-notes-i c = only_inside _ _ c.in-Some.ensures.2 c.args.notes.now c.requires.0

pub bounds-notes-j : goal.bounds-notes-j
bounds-notes-j c = only_inside _ _ c.in-Some-only.ensures.2 c.args.notes.now c.requires.1

pub returns-then-clearly_earlier : goal.returns-then-clearly_earlier
unfolding clearly_earlier
returns-then-clearly_earlier c =
    let apart : get_or (globals_of c.args.notes.now) c.in-Some.i 0 + 1 < get_or (globals_of c.args.notes.now) c.in-Some-only.j 0
    = rw (global_noted c.args.notes.now c.in-Some.i, global_noted c.args.notes.now c.in-Some-only.j) (ltb-true _ _ (sym c.clearly_earlier.ensures ∙ c.if-clearly_earlier.true)) in
    λ t p q. second_settled t _ _ _ _ c.in-Some.ensures.2 c.in-Some-only.ensures.2 p q apart (search rules)

pub returns-then-clearly_earlier-2 : goal.returns-then-clearly_earlier-2
unfolding clearly_earlier
returns-then-clearly_earlier-2 c =
    let apart : get_or (globals_of c.args.notes.now) c.in-Some-only.j 0 + 1 < get_or (globals_of c.args.notes.now) c.in-Some.i 0
    = rw (global_noted c.args.notes.now c.in-Some.i, global_noted c.args.notes.now c.in-Some-only.j) (ltb-true _ _ (sym c.clearly_earlier-2.ensures ∙ c.if-clearly_earlier-2.true)) in
    λ t p q. first_settled t _ _ _ _ c.in-Some.ensures.2 c.in-Some-only.ensures.2 p q apart (search rules)

pub settled-requires : goal.settled-requires
settled-requires c = λ k l. rw (c.merged-m.ensures.0.bytes k l) (later_one _ _ _ (λ n. n < length c.args.notes.now) (c.requires.0 k l) (c.requires.1 k l))

pub returns : goal.returns
returns c =
    λ t p q. record {
      highest = c.merged-m.result.highest.0;
      top = c.merged-m.ensures.1 t.no_global;
      kept = record {
        size = c.settled.ensures.size;
        bytes = λ k l. c.settled.ensures.bytes k l ∙ ap (kept_of (globals_of c.args.notes.now) c.merged-m.result.highest.0) (c.merged-m.ensures.0.bytes k l);
      };
    }
