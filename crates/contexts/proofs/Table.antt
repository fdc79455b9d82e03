-- The rows of the table, and what other numbers are read as.
use Rattle.std.proofs.Common.{◌≡◌, ℕ, ◌-◌, ◌<◌, ◌≤◌, [], ◌∷◌, map, sym, refl, arith}
use lib.ListN.{get_or-eq_default}
use Rattle.contexts.specs.declared.Taken.TheVariants.{Latest, Earliest, Every}
use Rattle.contexts.specs.declared.Found.TheVariants.{Each, Together}
use Rattle.contexts.specs.declared.Removed.TheVariants.{Untaken, Taken as TheTaken, All}
use Rattle.contexts.specs.declared.Afterwards.TheVariants.{Joins, Consumed}
use Rattle.contexts.specs.Table.{Afterwards, Context, Findings, Removed, Taken, recent, row_of, table}

-- the rows of the code's table, by the code's words, say what document 01's rows say
abbrev context : Taken → Findings → Removed → Afterwards → Context
context t f r a = record { takes = t; finds = f; removes = r; afterwards = a }

pub rows_say : (context Latest Each Untaken Joins ∷ context Earliest Each TheTaken Consumed ∷ context Every Each All Consumed ∷ context Every Together All Consumed ∷ []) ≡ table
rows_say = refl

-- contexts 1 to 4 are the four rows, in order
pub contexts_are : map row_of (1 ∷ 2 ∷ 3 ∷ 4 ∷ []) ≡ table
unfolding row_of
contexts_are = refl

-- any other number is read as recent
pub none_recent : (context : ℕ) → context ≤ 0 → recent ≡ row_of context
unfolding row_of
none_recent context h = let e : context ≡ 0 = omega arith in rw e

pub past_recent : (context : ℕ) → 4 < context → recent ≡ row_of context
unfolding row_of
past_recent context h = let past : 4 ≤ context - 1 = omega arith in sym (get_or-eq_default table recent past)
