-- Sets of event numbers below 128, in two words: what a set has, how sets are made, and their elements in rising order.
use Rattle.std.specs.Prelude.{Option, Bool, ◌&&◌, List, ℕ, ◌-◌, ◌/◌, ◌%◌, ◌^◌, ◌<◌, eqb, leb, ltb, length}
use Rattle.std.specs.Int.Bits.{bit_or}
use Rattle.std.specs.List.{slice_get}
use Rattle.sequences.specs.Choice.{pick}
use Rattle.sequences.specs.Range.{numbers_from}
use Rattle.sequences.specs.Select.{filter}
use Rattle.event_sets.specs.declared.EventSet.{EventSet}

-- both words are below 2 ^ 64, as they are in every set that the code makes
pub record WordsFit (s : EventSet) : Type 0 where
  pub low : s.low < 2 ^ 64
  pub high : s.high < 2 ^ 64

-- the bit at place j of a word is set
unfoldable pub is_set : ℕ → ℕ → Bool
is_set word j = eqb (word / 2 ^ j % 2) 1

-- the set has number j: a bit of the low word below 64, of the high word below 128
unfoldable pub has : EventSet → ℕ → Bool
has s j = pick (ltb j 64) (is_set s.low j) (ltb j 128 && is_set s.high (j - 64))

-- ---- making sets

abbrev pub no_events : EventSet
no_events = record { low = 0; high = 0 }

-- the set with number i too; from 128 on there is nothing to mark
unfoldable pub marked_with : EventSet → ℕ → EventSet
marked_with s i =
    pick (ltb i 64)
    (record { low = bit_or s.low (2 ^ i); high = s.high })
    (pick (ltb i 128) (record { low = s.low; high = bit_or s.high (2 ^ (i - 64)) }) s)

unfoldable pub union_of : EventSet → EventSet → EventSet
union_of a b = record { low = bit_or a.low b.low; high = bit_or a.high b.high }

-- ---- the elements

-- the numbers that the set has, rising
unfoldable pub elements : EventSet → List ℕ
elements s = filter (has s) (numbers_from 0 128)

unfoldable pub size_of : EventSet → ℕ
size_of s = length (elements s)

-- ---- walking the elements

-- the elements that are at least n
unfoldable pub elements_from : EventSet → ℕ → List ℕ
elements_from s n = filter (leb n) (elements s)

-- the smallest of them, if there is one
unfoldable pub next_from : EventSet → ℕ → Option ℕ
next_from s n = slice_get (elements_from s n) 0

-- the same for one word: the first place from k on whose bit is set
unfoldable pub next_bit : ℕ → ℕ → Option ℕ
next_bit word k = slice_get (filter (is_set word) (numbers_from k (64 - k))) 0
