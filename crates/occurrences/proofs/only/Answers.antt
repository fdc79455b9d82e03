-- The byte above the zeros at the end, where nothing stands above it.
use Rattle.std.proofs.Common.{arith}
use Rattle.occurrences.proofs.Single.{few_zeros, only_byte}
use Rattle.occurrences.proofs.only.Goals as goal

pub overflow_cast-k : goal.overflow_cast-k
overflow_cast-k c = omega (arith, few_zeros c.args.w)

pub returns-then-event-lt256 : goal.returns-then-event-lt256
returns-then-event-lt256 c = (omega arith, omega arith, only_byte c.args.w c.if-event-lt256.true)
