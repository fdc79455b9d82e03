-- Those before place o-index came to the node, and no limit was met.
use Prim.Native.Nat.{◌+◌, ◌<◌}
use Rattle.arrivals.specs.Meetings.{setting_of}
use Rattle.detections.proofs.Writing.{beyond_none, beyond_then}
use Rattle.emissions.specs.Emissions.{reached}
use Rattle.occurrences.proofs.Packed.{stand-length}
use Rattle.operators.proofs.Sides.{held_of}
use Rattle.operators.proofs.Spares.{part_long, spare_on}
use Rattle.operators.proofs.Turns.{arrival-at, by_input, first-few, one_more, stands_at, turn_ends, turn_stops}
use Rattle.operators.specs.Views.{HoldsTurned, own_part}
use Rattle.sequences.proofs.Loops.{fold-none}
use Rattle.std.proofs.lemmas.Result.{err_from_is_err_and}
use Rattle.std.specs.Prelude.{None}
use Rattle.waiting_lists.proofs.Waits.{waits-length}
use lib.ListN.{length}
use mathlib.Core.Path.{ap, refl, subst, sym}
use native.Mathlib.Omega.{arith}
use Rattle.operators.proofs.input_turn.Goals as goal

pub loop-o-init : goal.loop-o-init
loop-o-init c = (beyond_none c.requires.1.0 c.requires.1.1, λ t node x l event takes g h. subst (HoldsTurned t None _ _ _ _) (sym (fold-none _ x)) h)

pub act-requires : goal.act-requires
act-requires c =
    let a = c.args in
    let turn = a.turn in
    let ((t, node, x, l, takes, h, g), fits, spares) = c.requires in
    let i = c.loop-o.o-index in
    let was = c.loop-o.invariant.1 t node x l 0 takes g h in
    let few = first-few (setting_of (length a.out.now) t.clocks a.setting.now.loggers.now) node turn.place turn.input 0 l i x in
    let before = waits-length t _ _ (held_of t turn.input turn.split x h).own-waits in
    let after = waits-length t _ _ (held_of t turn.input turn.split _ was).own-waits in (
      (t, _, (arrival-at 0 turn.input l i).occurrence, was, stands_at 0 turn.input l i t a.arrivals.now g c.loop-o-test.true),
      (c.loop-o.invariant.0.within, c.loop-o.invariant.0.few),
      λ may. spare_on (own_part turn.input turn.split a.lists.now) (own_part turn.input turn.split c.loop-o.lists) (length a.arrivals.now) i 1 (spares may)
          (part_long turn.input turn.split a.lists.now c.loop-o.lists c.loop-o.auto.lists) (omega (arith, few.0, before, after)) (omega (arith, c.loop-o-test.true)),
    )

pub returns-in_err-act : goal.returns-in_err-act
returns-in_err-act c =
    let a = c.args in
    let turn = a.turn in
    let i = c.loop-o.o-index in
    let p = err_from_is_err_and c.from_residual.result c.from_residual.ensures.1 in
    record {
      turns = rw (p.1, p.2) (λ t node x l event takes g h.
          let was = c.loop-o.invariant.1 t node x l event takes g h in
          let in_l : i < length l = omega (arith, c.loop-o-test.true, stand-length t a.arrivals.now l g) in
          let then = c.in_err-act.ensures.acts t node _ (arrival-at event turn.input l i) takes (by_input event turn.input l i in_l) (stands_at event turn.input l i t a.arrivals.now g c.loop-o-test.true) was in
          let s = setting_of (length a.out.now) t.clocks a.setting.now.loggers.now in
          let more = rw (c.loop-o.auto.out, one_more event turn.input l i s node turn.place x in_l) at then in
          subst (HoldsTurned t _ _ _ _ _) (turn_stops s node _ event turn.input l (i + 1) x _ refl (ap reached more.emit.limit)) more);
      beyond = beyond_then c.loop-o.invariant.0 c.act.ensures.beyond;
    }

pub loop-o-preserved : goal.loop-o-preserved
loop-o-preserved c =
    let a = c.args in
    let turn = a.turn in
    let i = c.loop-o.o-index in (
      beyond_then c.loop-o.invariant.0 c.act.ensures.beyond,
      λ t node x l event takes g h.
          let was = c.loop-o.invariant.1 t node x l event takes g h in
          let in_l : i < length l = omega (arith, c.loop-o-test.true, stand-length t a.arrivals.now l g) in
          let then = c.in_ok-act.ensures.acts t node _ (arrival-at event turn.input l i) takes (by_input event turn.input l i in_l) (stands_at event turn.input l i t a.arrivals.now g c.loop-o-test.true) was in
          let s = setting_of (length a.out.now) t.clocks a.setting.now.loggers.now in
          rw (c.loop-o.auto.out, one_more event turn.input l i s node turn.place x in_l) at then,
    )

pub returns : goal.returns
returns c = record {
  turns = λ t node x l event takes g h.
      subst (HoldsTurned t None _ _ _ _) (turn_ends _ node _ event c.args.turn.input l c.loop-o.o-index x (omega (arith, c.loop-o-test.false, stand-length t c.args.arrivals.now l g)))
      (c.loop-o.invariant.1 t node x l event takes g h);
  beyond = c.loop-o.invariant.0;
}
