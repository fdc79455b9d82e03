-- Document 01, "How an event is worked": a meeting says all that an arrival does at a node, and the working follows it.
use Rattle.std.specs.Prelude.{Bool, true, false, not, List, [], ◌∷◌, Option, None, Some, ℕ, eqb}
use Rattle.sequences.specs.Choice.{pick}
use Rattle.sequences.specs.Marks.{marked, padded, unmarked}
use Rattle.sequences.specs.Select.{some_passes}
use Rattle.timestamps.specs.Order.{Clocks}
use Rattle.occurrences.specs.declared.Occurrence.{Occurrence}
use Rattle.waiting_lists.specs.Waiting.{appended_to, is_full}
use Rattle.contexts.specs.Choice.{absence_candidates, and_candidates, chosen, seq_candidates}
use Rattle.contexts.specs.Made.{accumulated_of, made_of}
use Rattle.contexts.specs.Table.{Afterwards, joins, consumed, Context, Findings}
use Rattle.emissions.specs.declared.Limit.{Limit}
use Rattle.emissions.specs.declared.Limit.TheVariants.{ListFull}
use Rattle.emissions.specs.Emissions.{Emitting, emitted_all, ended, reached}

-- what holds for all nodes of a passage: how many output bytes are lent, the plan's clocks, its logger numbers by place
pub record Setting : Type 0 where
  pub room : ℕ
  pub clocks : Clocks
  pub loggers : List ℕ

abbrev pub setting_of : ℕ → Clocks → List ℕ → Setting
setting_of room clocks loggers = record { room = room; clocks = clocks; loggers = loggers }

-- ---- what an arrival does: it is passed on as a finding; it waits on its own side; it meets those of the other side that are before it; it meets all of the
-- other side, and then waits on its own as the context says.
-- Of a third arrival, whose own side is the middle one: it deletes the lefts before it; it accumulates; it finds an absence. Else nothing
pub data Action : Type 0 where
  pass wait meet meet_and_wait : Action
  delete accumulate absent nothing : Action

-- the code of each, as the code's table has it
unfoldable pub action_from : ℕ → Action
action_from code =
    pick (eqb code 0) pass (pick (eqb code 1) wait (pick (eqb code 2) meet (pick (eqb code 3) meet_and_wait
    (pick (eqb code 4) delete (pick (eqb code 5) accumulate (pick (eqb code 6) absent nothing))))))

-- it may come to wait
unfoldable pub may_wait : Action → Bool
may_wait pass = false
may_wait wait = true
may_wait meet = false
may_wait meet_and_wait = true
may_wait delete = false
may_wait accumulate = false
may_wait absent = false
may_wait nothing = false

-- ---- a meeting

-- an arrival in its turn: the event, the input that it comes by, its place among that input's arrivals in this event
pub record Arrival : Type 0 where
  pub event : ℕ
  pub input : ℕ
  pub place : ℕ
  pub occurrence : Occurrence

-- the arrival; what waits on its own side and on the other; of the other side the marks of the candidates, of those taken and of those removed; of its own
-- side the marks of those removed; what is made; whether the arrival then waits
pub record Meeting : Type 0 where
  pub arrival : Arrival
  pub own : List Occurrence
  pub other : List Occurrence
  pub candidates : List Bool
  pub taken : List Bool
  pub removed : List Bool
  pub cleared : List Bool
  pub made : List Occurrence
  pub waits : Bool

-- the candidates among those of the other side
unfoldable pub candidates_of : Action → Clocks → (own other : List Occurrence) → Occurrence → List Bool
candidates_of pass clocks own other o = padded 16 []
candidates_of wait clocks own other o = padded 16 []
candidates_of meet clocks own other o = seq_candidates clocks other o
candidates_of meet_and_wait clocks own other o = and_candidates other
candidates_of delete clocks own other o = padded 16 []
candidates_of accumulate clocks own other o = seq_candidates clocks other o
candidates_of absent clocks own other o = absence_candidates clocks other own o
candidates_of nothing clocks own other o = padded 16 []

-- what is made with those taken: the arrival itself where it is passed on, else its findings; where it accumulates, with the middles of its own side between
unfoldable pub made_by : Action → Findings → Clocks → (own those : List Occurrence) → Occurrence → List Occurrence
made_by pass finds clocks own those o = o ∷ []
made_by wait finds clocks own those o = []
made_by meet finds clocks own those o = made_of finds clocks those o
made_by meet_and_wait finds clocks own those o = made_of finds clocks those o
made_by delete finds clocks own those o = []
made_by accumulate finds clocks own those o = accumulated_of finds clocks those own o
made_by absent finds clocks own those o = made_of finds clocks those o
made_by nothing finds clocks own those o = []

-- what is removed of the other side: what the row of the context removes; in its place, where the arrival deletes or accumulates, all that are before it
unfoldable pub removed_by : Action → Clocks → List Occurrence → List Bool → Occurrence → List Bool
removed_by pass clocks other removed o = removed
removed_by wait clocks other removed o = removed
removed_by meet clocks other removed o = removed
removed_by meet_and_wait clocks other removed o = removed
removed_by delete clocks other removed o = seq_candidates clocks other o
removed_by accumulate clocks other removed o = seq_candidates clocks other o
removed_by absent clocks other removed o = removed
removed_by nothing clocks other removed o = removed

-- and of its own side: where it accumulates, all middles before it
unfoldable pub cleared_by : Action → Clocks → List Occurrence → Occurrence → List Bool
cleared_by pass clocks own o = padded 16 []
cleared_by wait clocks own o = padded 16 []
cleared_by meet clocks own o = padded 16 []
cleared_by meet_and_wait clocks own o = padded 16 []
cleared_by delete clocks own o = padded 16 []
cleared_by accumulate clocks own o = seq_candidates clocks own o
cleared_by absent clocks own o = padded 16 []
cleared_by nothing clocks own o = padded 16 []

-- at AND the arrival joins its own side's list if the row says so or there was no candidate; otherwise it is consumed
unfoldable pub joins_by : Afterwards → List Bool → Bool
joins_by joins candidates = true
joins_by consumed candidates = not (some_passes (λ b. b) candidates)

unfoldable pub waits_by : Action → Afterwards → List Bool → Bool
waits_by pass afterwards candidates = false
waits_by wait afterwards candidates = true
waits_by meet afterwards candidates = false
waits_by meet_and_wait afterwards candidates = joins_by afterwards candidates
waits_by delete afterwards candidates = false
waits_by accumulate afterwards candidates = false
waits_by absent afterwards candidates = false
waits_by nothing afterwards candidates = false

-- the meeting that an action gives under a context's row
unfoldable pub meeting_of : Action → Context → Clocks → (own other : List Occurrence) → Arrival → Meeting
meeting_of action row clocks own other a =
    let o = a.occurrence in
    let candidates = candidates_of action clocks own other o in
    let choice = chosen row clocks other candidates in
    record {
      arrival = a;
      own = own;
      other = other;
      candidates = candidates;
      taken = choice.taken;
      removed = removed_by action clocks other choice.removed o;
      cleared = cleared_by action clocks own o;
      made = made_by action row.finds clocks own (marked other choice.taken) o;
      waits = waits_by action row.afterwards candidates;
    }

-- ---- the working that a meeting gives: findings are made first, then the removal, then the append; where a limit is met nothing more happens

-- a node as one side sees it: what waits on its own side and on the other, and what was made
pub record Sides : Type 0 where
  pub own : List Occurrence
  pub other : List Occurrence
  pub emit : Emitting

abbrev pub sides : List Occurrence → List Occurrence → Emitting → Sides
sides own other e = record { own = own; other = other; emit = e }

-- the append: 31 where the list already holds 16, which then stays as it is
abbrev pub full_limit : List Occurrence → Option Limit
full_limit l = pick (is_full l) (Some ListFull) None

unfoldable pub appended : List Occurrence → List Occurrence → Emitting → Occurrence → Sides
appended own other e o = sides (appended_to own o) other (pick (is_full own) (ended e ListFull) e)

unfoldable pub carried_out : Setting → ℕ → Emitting → Meeting → Sides
carried_out s place e m =
    let f = emitted_all s.room s.loggers place e m.made in
    let own = unmarked m.own m.cleared in
    let other = unmarked m.other m.removed in
    pick (reached f.limit) (sides m.own m.other f) (pick m.waits (appended own other f m.arrival.occurrence) (sides own other f))
