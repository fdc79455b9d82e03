-- `count` meets its contract: the bits that are set in both words are as many as the elements, at most 64 in each.
use native.Mathlib.Omega.{arith}
use borrow.Author.Rules.{rules}
use lib.Count.{ones-le}
use Rattle.event_sets.proofs.Counts.{size_ones}
use Rattle.event_sets.proofs.count.Goals as goal

pub overflow_add-result : goal.overflow_add-result
overflow_add-result c = let s = c.args.set in omega (arith, ones-le 64 s.low (search rules), ones-le 64 s.high (search rules))

pub overflow_cast-result : goal.overflow_cast-result
overflow_cast-result c = let s = c.args.set in omega (arith, ones-le 64 s.low (search rules), ones-le 64 s.high (search rules))

pub returns : goal.returns
returns c = size_ones c.args.set (record { low = search rules; high = search rules })
