-- Document 01, "How an event is worked": one table of four rows says what each context takes and what it removes.
use Rattle.std.specs.Prelude.{ℕ, ◌-◌, List, [], ◌∷◌, slice_index_or}
use Rattle.contexts.specs.declared.Taken as of_taken
use Rattle.contexts.specs.declared.Taken.TheVariants.{Latest, Earliest, Every}
use Rattle.contexts.specs.declared.Found as of_found
use Rattle.contexts.specs.declared.Found.TheVariants.{Each, Together}
use Rattle.contexts.specs.declared.Removed as of_removed
use Rattle.contexts.specs.declared.Removed.TheVariants.{Untaken, Taken as TheTaken, All}
use Rattle.contexts.specs.declared.Afterwards as of_afterwards
use Rattle.contexts.specs.declared.Afterwards.TheVariants.{Joins, Consumed}
use Rattle.contexts.specs.declared.Context as of_context

-- Taken: candidates before no other candidate; candidates with no other candidate before them; all
abbrev pub Taken : Type 0
Taken = of_taken.Taken

pattern abbrev pub latest : Taken
latest = Latest

pattern abbrev pub earliest : Taken
earliest = Earliest

pattern abbrev pub every : Taken
every = Every

-- Findings: one for each taken; one for all together
abbrev pub Findings : Type 0
Findings = of_found.Found

pattern abbrev pub each : Findings
each = Each

pattern abbrev pub together : Findings
together = Together

-- Removed: candidates not taken; those taken; all
abbrev pub Removed : Type 0
Removed = of_removed.Removed

pattern abbrev pub untaken : Removed
untaken = Untaken

pattern abbrev pub taken : Removed
taken = TheTaken

pattern abbrev pub all : Removed
all = All

-- Afterwards, of an arrival at AND that met candidates: it joins its own side's list; it is consumed
abbrev pub Afterwards : Type 0
Afterwards = of_afterwards.Afterwards

pattern abbrev pub joins : Afterwards
joins = Joins

pattern abbrev pub consumed : Afterwards
consumed = Consumed

-- a context is a row of the table
abbrev pub Context : Type 0
Context = of_context.Context

abbrev pub recent : Context
recent = record { takes = latest; finds = each; removes = untaken; afterwards = joins }

abbrev pub chronicle : Context
chronicle = record { takes = earliest; finds = each; removes = taken; afterwards = consumed }

abbrev pub continuous : Context
continuous = record { takes = every; finds = each; removes = all; afterwards = consumed }

abbrev pub cumulative : Context
cumulative = record { takes = every; finds = together; removes = all; afterwards = consumed }

-- the table, in document 01's order
abbrev pub table : List Context
table = recent ∷ chronicle ∷ continuous ∷ cumulative ∷ []

-- the row of context 1 to 4; any other number is read as recent, and no plan has one
unfoldable pub row_of : ℕ → Context
row_of context = slice_index_or table (context - 1) recent
