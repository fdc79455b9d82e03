-- `next_bit` meets its contract: the zeros below the first bit that is set, counted from `place` on.
use mathlib.Core.Path.{sym}
use native.Mathlib.Omega.{arith}
use Rattle.std.proofs.Common.{rules}
use Rattle.event_sets.proofs.Walks.{bit_found, bit_empty, bit_beyond}
use Rattle.event_sets.proofs.next_bit.Goals as goal

pub returns-then-place-ge64 : goal.returns-then-place-ge64
returns-then-place-ge64 c = sym (bit_beyond c.args.word c.args.place c.if-place-ge64.true)

pub returns-then-rest-eq0 : goal.returns-then-rest-eq0
returns-then-rest-eq0 c = sym (bit_empty c.args.word c.args.place c.if-rest-eq0.true)

pub returns-else-rest-eq0 : goal.returns-else-rest-eq0
returns-else-rest-eq0 c = sym (bit_found c.args.word c.args.place (search rules) (search rules) (omega arith))
