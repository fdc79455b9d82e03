-- Document 01, "Stamps", with request Q-1: how two composite stamps compare. Each is given by its stamps.
use Rattle.std.specs.Prelude.{Bool, not, ◌||◌, List, ℕ, eqb}
use Rattle.sequences.specs.Choice.{pick}
use Rattle.sequences.specs.Select.{some_passes, each_passes}
use Rattle.timestamps.specs.declared.Timestamp.{Timestamp}
use Rattle.timestamps.specs.declared.Order.{Order}
use Rattle.timestamps.specs.declared.Order.TheVariants.{Incomparable, Before, After, Concurrent}
use Rattle.timestamps.specs.declared.Relation.{Relation}
use Rattle.timestamps.specs.Order.{Clocks, before, concurrent}

-- a is before b: each stamp of b has some stamp of a before it
unfoldable pub all_before : Clocks → List Timestamp → List Timestamp → Bool
all_before clocks a b = each_passes (λ t. some_passes (λ s. before clocks s t) a) b

-- they are concurrent: all pairs are
unfoldable pub all_concurrent : Clocks → List Timestamp → List Timestamp → Bool
all_concurrent clocks a b = each_passes (λ t. each_passes (λ s. concurrent clocks s t) a) b

-- a is weakly before b: no stamp of b is before a stamp of a
unfoldable pub stamps_weakly_before : Clocks → List Timestamp → List Timestamp → Bool
stamps_weakly_before clocks a b = not (some_passes (λ t. some_passes (λ s. before clocks t s) a) b)

-- ---- the four words
-- what each says of a and b; incomparable is none of the others
unfoldable pub says : Order → Clocks → List Timestamp → List Timestamp → Bool
says Before clocks a b = all_before clocks a b
says After clocks a b = all_before clocks b a
says Concurrent clocks a b = all_concurrent clocks a b
says Incomparable clocks a b = not (all_before clocks a b || (all_before clocks b a || all_concurrent clocks a b))

-- the word for how a stands to b
unfoldable pub order_of : Clocks → List Timestamp → List Timestamp → Order
order_of clocks a b =
    pick (says Before clocks a b) Before
    (pick (says After clocks a b) After
    (pick (says Concurrent clocks a b) Concurrent Incomparable))

-- the number of each
unfoldable pub order_number : Order → ℕ
order_number Incomparable = 0
order_number Before = 1
order_number After = 2
order_number Concurrent = 3

-- two words are the same
unfoldable pub same_order : Order → Order → Bool
same_order v w = eqb (order_number v) (order_number w)

-- ---- the comparison: the word, and beside it whether a is weakly before b
unfoldable pub relation_of : Clocks → List Timestamp → List Timestamp → Relation
relation_of clocks a b = record { order = order_of clocks a b; weakly_before = stamps_weakly_before clocks a b }
