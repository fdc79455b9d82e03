-- The only one's; or that of the first four places, and of the others where there are any.
use Rattle.std.proofs.Common.{◌-◌, ◌^◌, get_or, sym, ap, ◌∙◌, arith, rules}
use Rattle.timestamps.specs.Notes.{globals_of}
use Rattle.occurrences.proofs.Bytes.{byte_further, byte_none, inside-first, inside-last}
use Rattle.timestamps.proofs.Notes.{global_noted}
use Rattle.occurrences.proofs.Single.{only_inside, only_lowest}
use Rattle.occurrences.proofs.Steps.{lowest_empty, lowest-more}
use Rattle.occurrences.proofs.lowest.Goals as goal

pub bounds-notes-event : goal.bounds-notes-event
bounds-notes-event c = only_inside _ _ c.in-Some.ensures.2 c.args.notes.now c.requires

pub returns-in-Some : goal.returns-in-Some
returns-in-Some c = λ z. only_lowest _ _ c.in-Some.ensures.2 (globals_of c.args.notes.now) _ z (search rules) (c.tick_of.ensures ∙ sym (global_noted c.args.notes.now _))

pub lowest_of_four-low-requires : goal.lowest_of_four-low-requires
lowest_of_four-low-requires c = inside-first _ _ c.requires

pub returns-then-high-eq0 : goal.returns-then-high-eq0
returns-then-high-eq0 c =
    let four = c.lowest_of_four-low.ensures in
    λ z. lowest-more 4 4 _ (λ j. 0) _ (2 ^ 64 - 1) _
    (λ j l. sym (ap (λ n. get_or (globals_of c.args.notes.now) n 0) (byte_none (get_or c.args.o.now 2 0) 4 j c.if-high-eq0.true) ∙ z))
    (omega (arith, four.size)) four (lowest_empty 4)

pub lowest_of_four-requires : goal.lowest_of_four-requires
lowest_of_four-requires c = inside-last _ _ c.requires

pub returns : goal.returns
returns c =
    λ z. lowest-more 4 4 _ _ _ _ _ (λ j l. ap (λ n. get_or (globals_of c.args.notes.now) n 0) (byte_further (get_or c.args.o.now 2 0) 4 j))
    c.earliest.ensures c.lowest_of_four-low.ensures c.lowest_of_four.ensures
