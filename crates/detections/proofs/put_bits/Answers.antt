-- The bits that are left, written from here, make all of them.
use Prim.Native.Nat.{◌+◌}
use native.Mathlib.Omega.{arith}
use lib.Count.{count_trailing_zeros, trailing_le}
use Rattle.event_sets.proofs.Words.{rest_less}
use Rattle.forms.specs.Bytes.{big_endian}
use Rattle.detections.proofs.Events.{bits_turn, bits_end}
use Rattle.detections.proofs.Sizes.{length_two}
use Rattle.detections.proofs.Writing.{writes_room, writes_turn, writes_end}
use Rattle.detections.proofs.put_bits.Goals as goal

pub overflow_cast-rest : goal.overflow_cast-rest
overflow_cast-rest c = omega (arith, trailing_le 64 c.loop-rest.rest)

pub overflow_add-first : goal.overflow_add-first
overflow_add-first c = omega (arith, trailing_le 64 c.loop-rest.rest, c.requires.0)

pub put_u16-to-requires : goal.put_u16-to-requires
put_u16-to-requires c =
    let first = c.args.first in
    let rest = c.loop-rest.rest in
    omega (arith, length_two (first + count_trailing_zeros 64 rest), writes_room c.loop-rest.invariant.1 (big_endian 2 (first + count_trailing_zeros 64 rest)) _ (bits_turn first rest c.loop-rest-test.true c.loop-rest.invariant.0))

pub loop-rest-smaller : goal.loop-rest-smaller
loop-rest-smaller c = rest_less c.loop-rest.rest c.loop-rest-test.true

pub loop-rest-preserved : goal.loop-rest-preserved
loop-rest-preserved c =
    let first = c.args.first in
    let rest = c.loop-rest.rest in
    (omega (arith, rest_less rest c.loop-rest-test.true, c.loop-rest.invariant.0), writes_turn c.loop-rest.invariant.1 (bits_turn first rest c.loop-rest-test.true c.loop-rest.invariant.0) c.put_u16-to.ensures)

pub returns : goal.returns
returns c = writes_end c.loop-rest.invariant.1 (bits_end c.args.first c.loop-rest.rest c.loop-rest-test.false)
