-- What is left to look at tells the whole.
use Rattle.std.proofs.Common.{◌≡◌, ◌<◌, length, get_or, sym, ◌∙◌, arith}
use Rattle.contexts.proofs.Accumulations.{none-left, some-here, some-later}
use Rattle.contexts.proofs.Steps.{before_told}
use Rattle.event_sets.proofs.Words.{rest_less}
use Rattle.occurrences.proofs.Packed.{stands-within}
use Rattle.occurrences.specs.Occurrences.{is_before, no_occurrence}
use Rattle.sequences.specs.Marks.{first_mark}
use Rattle.waiting_lists.proofs.Marks.{first_some, length_marks, marks_rest}
use Rattle.waiting_lists.proofs.Waits.{read_at, read-bytes, read-few, read_length}
use Rattle.waiting_lists.specs.Marks.{marks_of}
use Rattle.contexts.proofs.some_before.Goals as goal

pub lowest-low-requires : goal.lowest-low-requires
lowest-low-requires c = let (t, l, x, h, p) = c.requires in read-bytes _ t _ l h _ c.list_of-waiting.ensures _ _ c.place_at-place.ensures c.if-i-waiting.true

pub order-word-requires : goal.order-word-requires
order-word-requires c = let (t, l, x, h, p) = c.requires in (read-bytes _ t _ l h _ c.list_of-waiting.ensures _ _ c.place_at-place.ensures c.if-i-waiting.true, stands-within _ t _ x p)

pub returns-then-eq : goal.returns-then-eq
returns-then-eq c = λ t l x h p.
    let here : c.in-Some.i < length l = omega (arith, read_length t _ l h _ c.list_of-waiting.ensures, c.if-i-waiting.true) in
    let few : c.in-Some.i < length (marks_of c.loop-i.rest) = omega (arith, read-few t _ l h _ c.list_of-waiting.ensures, c.if-i-waiting.true, length_marks c.loop-i.rest) in
    let word = c.order-word.ensures t (get_or l c.in-Some.i no_occurrence) x (c.lowest-low.ensures t.no_global) (c.lowest-first.ensures t.no_global) (read_at t _ l h _ c.list_of-waiting.ensures _ _ c.place_at-place.ensures c.if-i-waiting.true) p in
    some-here (λ w. is_before t.clocks w x) l (marks_of c.loop-i.rest) c.in-Some.i c.in-Some.ensures.0 here few (sym (before_told t.clocks _ x c.order-word.result c.eq.result c.eq.ensures word) ∙ c.if-eq.true)
    ∙ c.loop-i.invariant t l x h p

pub overflow_sub-rest : goal.overflow_sub-rest
overflow_sub-rest c =
    let (t, l, x, h, p) = c.requires in
    first_some c.loop-i.rest (omega (arith, c.in-Some.ensures.0, read-few t _ l h _ c.list_of-waiting.ensures, c.if-i-waiting.true))

pub loop-i-smaller : goal.loop-i-smaller
loop-i-smaller c =
    let (t, l, x, h, p) = c.requires in
    rest_less c.loop-i.rest (first_some c.loop-i.rest (omega (arith, c.in-Some.ensures.0, read-few t _ l h _ c.list_of-waiting.ensures, c.if-i-waiting.true)))

pub loop-i-preserved : goal.loop-i-preserved
loop-i-preserved c =
    λ t l x h p.
    let here : c.in-Some.i < length l = omega (arith, read_length t _ l h _ c.list_of-waiting.ensures, c.if-i-waiting.true) in
    let few : c.in-Some.i < length (marks_of c.loop-i.rest) = omega (arith, read-few t _ l h _ c.list_of-waiting.ensures, c.if-i-waiting.true, length_marks c.loop-i.rest) in
    let word = c.order-word.ensures t (get_or l c.in-Some.i no_occurrence) x (c.lowest-low.ensures t.no_global) (c.lowest-first.ensures t.no_global) (read_at t _ l h _ c.list_of-waiting.ensures _ _ c.place_at-place.ensures c.if-i-waiting.true) p in
    some-later (λ w. is_before t.clocks w x) l (marks_of c.loop-i.rest) c.in-Some.i c.in-Some.ensures.0 here few (sym (before_told t.clocks _ x c.order-word.result c.eq.result c.eq.ensures word) ∙ c.if-eq.false) _
    (marks_rest c.loop-i.rest)
    ∙ c.loop-i.invariant t l x h p

pub returns-in-loop-i : goal.returns-in-loop-i
returns-in-loop-i c =
    let off : first_mark (marks_of c.loop-i.rest) ≡ 16 = omega arith in
    λ t l x h p.
    none-left _ l _ (omega (arith, off, read_length t _ l h _ c.list_of-waiting.ensures, read-few t _ l h _ c.list_of-waiting.ensures)) ∙ c.loop-i.invariant t l x h p

pub returns-else-i-waiting : goal.returns-else-i-waiting
returns-else-i-waiting c = λ t l x h p.
    none-left _ l _ (omega (arith, c.in-Some.ensures.0, c.if-i-waiting.false, read_length t _ l h _ c.list_of-waiting.ensures)) ∙ c.loop-i.invariant t l x h p
