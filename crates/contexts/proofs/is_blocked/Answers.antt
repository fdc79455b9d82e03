-- No middle before place j blocks it; only the first `blockers` of them are looked at.
use Rattle.std.proofs.Common.{◌≡◌, ℕ, ◌<◌, ◌≤◌, List, length, sym, ap, ◌∙◌, arith}
use Rattle.contexts.proofs.Absences.{any_here, any_later, any_past}
use Rattle.contexts.specs.Choice.{blocks}
use Rattle.occurrences.proofs.Packed.{stands-within}
use Rattle.occurrences.specs.Packed.{Notes}
use Rattle.occurrences.specs.declared.Occurrence.{Occurrence}
use Rattle.waiting_lists.proofs.Waits.{read_at, read-bytes, waits-length}
use Rattle.waiting_lists.specs.Lists.{Waits, list_of}
use Rattle.waiting_lists.specs.declared.WaitingList.{WaitingList}
use Rattle.contexts.proofs.is_blocked.Goals as goal

-- one of the first so many is one of those that wait
one_of : (list : WaitingList) (w : List (List ℕ)) (n j : ℕ) → list ≡ list_of w → n ≤ (list_of w).len → j < n → j < list.len
one_of list w n j is few h = omega (arith, ap (λ (x : WaitingList). x.len) is)

-- as many as that wait
most : {ticks globals : List ℕ} (t : Notes ticks globals) (w : List (List ℕ)) (l : List Occurrence) (n : ℕ) → Waits t w l → n ≤ (list_of w).len → n ≤ length l
most t w l n h few = omega (arith, waits-length t w l h)

pub is_blocked_by-requires : goal.is_blocked_by-requires
is_blocked_by-requires c =
    let (own, (t, l, z, h, p), few) = c.requires in
    (own, read-bytes _ t _ l h _ c.list_of-waiting.ensures _ _ c.place_at-place.ensures (one_of _ _ _ _ c.list_of-waiting.ensures few c.loop-j-test.true), stands-within _ t _ z p)

pub returns-then-is_blocked_by : goal.returns-then-is_blocked_by
returns-then-is_blocked_by c = λ t l x z own low h p r.
    let few = c.requires.2 in
    let at = read_at t _ l h _ c.list_of-waiting.ensures _ _ c.place_at-place.ensures (one_of _ _ _ _ c.list_of-waiting.ensures few c.loop-j-test.true) in
    let told = c.is_blocked_by.ensures t x _ z own low p at r in
    sym (any_here (blocks t.clocks x z) l c.args.blockers (most t _ l _ h few) c.loop-j.j c.loop-j-test.true (sym told ∙ c.if-is_blocked_by.true)) ∙ c.loop-j.invariant t l x z own low h p r

pub loop-j-preserved : goal.loop-j-preserved
loop-j-preserved c = λ t l x z own low h p r.
    let few = c.requires.2 in
    let at = read_at t _ l h _ c.list_of-waiting.ensures _ _ c.place_at-place.ensures (one_of _ _ _ _ c.list_of-waiting.ensures few c.loop-j-test.true) in
    let told = c.is_blocked_by.ensures t x _ z own low p at r in
    sym (any_later (blocks t.clocks x z) l c.args.blockers (most t _ l _ h few) c.loop-j.j c.loop-j-test.true (sym told ∙ c.if-is_blocked_by.false)) ∙ c.loop-j.invariant t l x z own low h p r

pub returns : goal.returns
returns c = λ t l x z own low h p r.
    sym (any_past (blocks t.clocks x z) l c.args.blockers (most t _ l _ h c.requires.2) c.loop-j.j c.loop-j-test.false) ∙ c.loop-j.invariant t l x z own low h p r
