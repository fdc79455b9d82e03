-- The stamps that the bytes left name, written from here, make all of them.
use Rattle.timestamps.specs.Notes.{ticks_of}
use native.Mathlib.Omega.{arith}
use Rattle.detections.specs.Steps.{stamp_bytes}
use Rattle.detections.proofs.LowestByte.{lowest-fewer, lowest-inside, lowest_named, lowest-place, lowest-within}
use Rattle.detections.proofs.Stamps.{named_turn, named_end}
use Rattle.detections.proofs.Writing.{writes_start, writes_room, writes_turn, writes_end}
use borrow.Author.Rules.{rules}
use Rattle.detections.proofs.put_named.Goals as goal

pub loop-rest-init : goal.loop-rest-init
loop-rest-init c = let s = c in (search rules, s.requires.0, writes_start _ _ _ s.requires.2)

pub overflow_cast-k : goal.overflow_cast-k
overflow_cast-k c = omega (arith, lowest-place c.loop-rest.rest c.loop-rest-test.true c.loop-rest.invariant.0)

pub overflow_mul-event : goal.overflow_mul-event
overflow_mul-event c = omega (arith, lowest-place c.loop-rest.rest c.loop-rest-test.true c.loop-rest.invariant.0)

pub overflow_shr-event : goal.overflow_shr-event
overflow_shr-event c = omega (arith, lowest-place c.loop-rest.rest c.loop-rest-test.true c.loop-rest.invariant.0)

pub offset_bounds-loggers-k : goal.offset_bounds-loggers-k
offset_bounds-loggers-k c = omega (arith, lowest-place c.loop-rest.rest c.loop-rest-test.true c.loop-rest.invariant.0)

pub bounds-loggers-k : goal.bounds-loggers-k
bounds-loggers-k c = omega (arith, lowest-place c.loop-rest.rest c.loop-rest-test.true c.loop-rest.invariant.0)

pub put_stamp-to-requires : goal.put_stamp-to-requires
put_stamp-to-requires c =
    let rest = c.loop-rest.rest in
    let turn = named_turn (ticks_of c.args.notes.now) c.args.loggers.now c.requires.1 rest c.loop-rest-test.true c.loop-rest.invariant.0 in
    (lowest_named rest c.loop-rest-test.true c.loop-rest.invariant.0 c.args.notes.now c.loop-rest.invariant.1, writes_room c.loop-rest.invariant.2 (stamp_bytes _ _) _ turn)

pub overflow_mul-rest : goal.overflow_mul-rest
overflow_mul-rest c =
    let l = c.loop-rest in
    omega (arith, lowest-place l.rest c.loop-rest-test.true l.invariant.0)

pub overflow_shl-rest : goal.overflow_shl-rest
overflow_shl-rest c =
    let l = c.loop-rest in
    omega (arith, lowest-place l.rest c.loop-rest-test.true l.invariant.0)

pub overflow_sub-rest : goal.overflow_sub-rest
overflow_sub-rest c =
    let l = c.loop-rest in
    lowest-within l.rest c.loop-rest-test.true l.invariant.0

pub loop-rest-smaller : goal.loop-rest-smaller
loop-rest-smaller c =
    let l = c.loop-rest in
    lowest-fewer l.rest c.loop-rest-test.true l.invariant.0

pub loop-rest-preserved : goal.loop-rest-preserved
loop-rest-preserved c =
    let rest = c.loop-rest.rest in
    let p = c.loop-rest-test.true in
    let h = c.loop-rest.invariant.0 in (
      omega (arith, lowest-fewer rest p h, h),
      lowest-inside rest p h c.args.notes.now c.loop-rest.invariant.1,
      writes_turn c.loop-rest.invariant.2 (named_turn (ticks_of c.args.notes.now) c.args.loggers.now c.requires.1 rest p h) c.put_stamp-to.ensures,
    )

pub returns : goal.returns
returns c = writes_end c.loop-rest.invariant.2 (named_end (ticks_of c.args.notes.now) c.args.loggers.now c.requires.1 c.loop-rest.rest c.loop-rest-test.false)
