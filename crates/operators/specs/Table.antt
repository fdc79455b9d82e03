-- Document 01, "How an event is worked", and Q-2: what an arrival by each input does, one row for each operator.
use Rattle.std.specs.Prelude.{List, [], ◌∷◌, ℕ, get_or}
use Rattle.arrivals.specs.Meetings.{Action, pass, wait, meet, meet_and_wait, delete, accumulate, absent, nothing}

-- OR passes each arrival on
abbrev pub or : List Action
or = pass ∷ pass ∷ nothing ∷ []

-- AND: an arrival on either side meets all that wait on the other
abbrev pub and : List Action
and = meet_and_wait ∷ meet_and_wait ∷ nothing ∷ []

-- SEQ: a left arrival waits; a middle one meets those before it, and never waits
abbrev pub seq : List Action
seq = wait ∷ meet ∷ nothing ∷ []

-- aperiodic: the middle arrival acts as SEQ's, and a third deletes the waiting lefts before it
abbrev pub aperiodic : List Action
aperiodic = wait ∷ meet ∷ delete ∷ []

-- accumulated: lefts and middles wait, and a third accumulates
abbrev pub accumulated : List Action
accumulated = wait ∷ wait ∷ accumulate ∷ []

-- absence: lefts and middles wait, and a third meets the lefts before it that no middle blocks
abbrev pub absence : List Action
absence = wait ∷ wait ∷ absent ∷ []

-- the table: operators 1 to 6, left input first
abbrev pub table : List (List Action)
table = or ∷ and ∷ seq ∷ aperiodic ∷ accumulated ∷ absence ∷ []

-- the row of operator 1 to 6; any other number is read as SEQ, and no plan has one
unfoldable pub operator_of : ℕ → List Action
operator_of operator = get_or (seq ∷ table) operator seq

-- what an arrival by an input does; by an input that the operator has not, nothing
unfoldable pub action_of : ℕ → ℕ → Action
action_of operator input = get_or (operator_of operator) input nothing
