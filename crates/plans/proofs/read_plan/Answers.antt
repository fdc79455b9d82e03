-- `plans::read_plan`: the four sections in turn, each read from where the one before it ends.
use borrow.Author.Tests.{lt-ltb, le-ltb}
use Rattle.std.proofs.lemmas.Result.{err_from_is_err_and}
use Rattle.sequences.proofs.Arrays.{map-take}
use Rattle.plans.specs.Reader.{plan_at, read_plan}
use Rattle.plans.specs.Views.{node_of}
use Rattle.plans.proofs.read_plan.Goals as goal

pub returns-in_err-ratio-clause-answer : goal.returns-in_err-ratio-clause-answer
unfolding read_plan plan_at
returns-in_err-ratio-clause-answer c =
    let p = err_from_is_err_and c.from_residual.result c.from_residual.ensures.1 in
    rw (p.1, p.2, ← c.in_err-ratio.ensures)

pub returns-in_err-logger_count-clause-answer : goal.returns-in_err-logger_count-clause-answer
unfolding read_plan plan_at
returns-in_err-logger_count-clause-answer c =
    let p = err_from_is_err_and c.from_residual-in_err-logger_count.result c.from_residual-in_err-logger_count.ensures.1 in
    rw (p.1, p.2, ← c.in_ok-ratio.ensures, ← c.in_err-logger_count.ensures.is)

pub returns-in_err-kind_count-clause-answer : goal.returns-in_err-kind_count-clause-answer
unfolding read_plan plan_at
returns-in_err-kind_count-clause-answer c =
    let p = err_from_is_err_and c.from_residual-in_err-kind_count.result c.from_residual-in_err-kind_count.ensures.1 in
    rw (p.1, p.2, ← c.in_ok-ratio.ensures, ← c.in_ok-logger_count.ensures.is, ← c.in_err-kind_count.ensures.is)

pub returns-in_err-node_count-clause-answer : goal.returns-in_err-node_count-clause-answer
unfolding read_plan plan_at
returns-in_err-node_count-clause-answer c =
    let p = err_from_is_err_and c.from_residual-in_err-node_count.result c.from_residual-in_err-node_count.ensures.1 in
    let kinds = c.in_ok-kind_count.ensures in
    rw (p.1, p.2, ← c.in_ok-ratio.ensures, ← c.in_ok-logger_count.ensures.is, ← kinds.is, kinds.counted.1, ← c.in_err-node_count.ensures.filled.is)

pub returns-then-at-bytes-clause-answer : goal.returns-then-at-bytes-clause-answer
unfolding read_plan plan_at
returns-then-at-bytes-clause-answer c =
    let kinds = c.in_ok-kind_count.ensures in
    rw (
      c.at.ensures,
      ← c.in_ok-ratio.ensures,
      ← c.in_ok-logger_count.ensures.is,
      ← kinds.is,
      kinds.counted.1,
      ← c.in_ok-node_count.ensures.filled.is,
      lt-ltb _ _ c.if-at-bytes.true,
    )

pub returns-clause-answer : goal.returns-clause-answer
unfolding read_plan plan_at
returns-clause-answer c =
    let kinds = c.in_ok-kind_count.ensures in
    rw (
      ← c.in_ok-ratio.ensures,
      ← c.in_ok-logger_count.ensures.is,
      ← kinds.is,
      kinds.counted.1,
      ← c.in_ok-node_count.ensures.filled.is,
      le-ltb _ _ c.if-at-bytes.false,
      map-take node_of c.in_ok-node_count.node_count c.read_nodes.new.into,
    )
