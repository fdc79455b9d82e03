-- Of those looked at the ones that stay close up behind the others.
use Rattle.std.proofs.Common.{◌≡◌, ◌+◌, ◌-◌, sym, subst, ◌∙◌, arith, rules}
use Rattle.waiting_lists.specs.Marks.{marks_of}
use Rattle.waiting_lists.proofs.Marks.{length_marks}
use Rattle.waiting_lists.proofs.Removals.{Closing, closing_end, closing_gone, closing_kept, closing_start}
use Rattle.waiting_lists.proofs.remove.Goals as goal

pub loop-i-init : goal.loop-i-init
loop-i-init c = record {
  left = search rules;
  fewer = search rules;
  few = c.count-len.ensures.1;
  closing = closing_start c.args.list.now.order c.count-len.result (marks_of c.args.gone);
}

pub loop-i-preserved-then-is_marked : goal.loop-i-preserved-then-is_marked
loop-i-preserved-then-is_marked c =
    let e : c.loop-i.i ≡ c.loop-i.i - 1 + 1 = omega arith in
    let cl = subst (Closing c.args.list.now.order c.count-len.result (marks_of c.args.gone) c.loop-i.order c.loop-i.len) e c.loop-i.invariant.closing in
    record {
      left = omega arith;
      fewer = omega arith;
      few = c.loop-i.invariant.few;
      closing = closing_gone c.args.list.now.order c.count-len.result (marks_of c.args.gone) c.loop-i.order c.loop-i.len (c.loop-i.i - 1) cl (omega arith) c.loop-i.invariant.fewer
          (omega (arith, length_marks c.args.gone)) c.moved-order.result c.moved-order.ensures (sym c.is_marked.ensures ∙ c.if-is_marked.true);
    }

pub loop-i-preserved : goal.loop-i-preserved
loop-i-preserved c =
    let e : c.loop-i.i ≡ c.loop-i.i - 1 + 1 = omega arith in
    let cl = subst (Closing c.args.list.now.order c.count-len.result (marks_of c.args.gone) c.loop-i.order c.loop-i.len) e c.loop-i.invariant.closing in
    record {
      left = omega arith;
      fewer = c.loop-i.invariant.fewer;
      few = c.loop-i.invariant.few;
      closing = closing_kept c.args.list.now.order c.count-len.result (marks_of c.args.gone) c.loop-i.order c.loop-i.len (c.loop-i.i - 1) cl (omega arith) c.loop-i.invariant.fewer
          (omega (arith, length_marks c.args.gone)) (sym c.is_marked.ensures ∙ c.if-is_marked.false);
    }

pub returns : goal.returns
returns c =
    let none : c.loop-i.i ≡ 0 = search rules in
    closing_end c.args.list.now c.count-len.result (marks_of c.args.gone) c.loop-i.order c.loop-i.len c.count-len.ensures.0
    (subst (Closing c.args.list.now.order c.count-len.result (marks_of c.args.gone) c.loop-i.order c.loop-i.len) none c.loop-i.invariant.closing)
