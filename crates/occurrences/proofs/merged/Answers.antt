-- Of the eight places; where the upper four have none, of the lower.
use Rattle.timestamps.specs.Notes.{globals_of, ticks_of}
use Rattle.occurrences.proofs.Bytes.{bytes-more, bytes-none, inside-first, inside-last, later_further, later-none}
use Rattle.occurrences.proofs.Steps.{highest_level, highest-more}
use Rattle.std.proofs.Common.{get_or, sym, ap, ◌∙◌, arith}
use Rattle.occurrences.proofs.merged.Goals as goal

pub merged_of_four-low-requires : goal.merged_of_four-low-requires
merged_of_four-low-requires c =
    let p = c.requires in
    (inside-first _ _ p.0, inside-first _ _ p.1)

pub returns-then-a-b-eq0 : goal.returns-then-a-b-eq0
returns-then-a-b-eq0 c =
    let first = c.merged_of_four-low.ensures in
    let none = later-none (ticks_of c.args.notes.now) c.args.a c.args.b 4 in (
      bytes-none 4 4 _ _ (λ j l. none j c.if-a-b-eq0.true) first.0,
      λ z. highest-more 4 4 _ (λ j. 0) _ 0 _ (λ j l. sym (ap (λ n. get_or (globals_of c.args.notes.now) n 0) (none j c.if-a-b-eq0.true) ∙ z)) (omega arith) first.1
          (highest_level 4 0 (omega arith)),
    )

pub merged_of_four-high-requires : goal.merged_of_four-high-requires
merged_of_four-high-requires c =
    let p = c.requires in
    (inside-last _ _ p.0, inside-last _ _ p.1)

pub returns : goal.returns
returns c =
    let same = later_further (ticks_of c.args.notes.now) c.args.a c.args.b 4 in (
      bytes-more 4 4 _ _ _ _ (omega arith) (λ j l. same j) c.merged_of_four-low.ensures.0 c.merged_of_four-high.ensures.0,
      λ z. highest-more 4 4 _ _ _ _ _ (λ j l. ap (λ n. get_or (globals_of c.args.notes.now) n 0) (same j)) c.latest.ensures
          c.merged_of_four-low.ensures.1 c.merged_of_four-high.ensures.1,
    )
