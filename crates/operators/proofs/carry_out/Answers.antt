-- It accumulates, or by the row.
use Rattle.operators.proofs.carry_out.Goals as goal

pub returns-then-turn-eq-ACCUMULATE : goal.returns-then-turn-eq-ACCUMULATE
returns-then-turn-eq-ACCUMULATE c =
    let call = c in
    let yes = call in
    record {
      acts = (λ t node x a looks keeps takes i p h chose. call.accumulate.ensures.acts t node x a yes.if-turn-eq-ACCUMULATE.true takes i p h chose);
      beyond = call.accumulate.ensures.beyond;
    }

pub returns : goal.returns
returns c =
    let call = c in
    let no = call in
    record {
      acts = (λ t node x a looks keeps takes i p h chose. call.by_row.ensures.acts t node x a looks keeps no.if-turn-eq-ACCUMULATE.false takes i p h chose);
      beyond = call.by_row.ensures.beyond;
    }
