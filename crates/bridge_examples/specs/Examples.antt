-- Document 01, "Bridge examples", with request Q-2: the marked twelve in one table; the limits, what else the operators leave, and the operators with a third
-- input in three others.
use Rattle.std.specs.Prelude.{Bool, true, false, ◌&&◌, List, [], ◌∷◌, ◌++◌, map, ℕ, ◌+◌, eqb}
use Rattle.sequences.specs.Range.{numbers_from}
use Rattle.timestamps.specs.Examples as stamps
use Rattle.working.specs.Working.{Work, worked}

-- how the work ends: number, place, findings and their bytes
abbrev ending : ℕ → ℕ → ℕ → List ℕ → Work
ending number place findings bytes = record { number = number; place = place; findings = findings; bytes = bytes }

-- a row of the table: one on stamps; or the bytes of a plan and of a passage, worked within so many output bytes, and how that ends
pub data Example : Type 0 where
  compares : stamps.Example → Example
  ends : ℕ → (plan passage : List ℕ) → Work → Example

unfoldable pub same_numbers : List ℕ → List ℕ → Bool
same_numbers [] [] = true
same_numbers [] (b ∷ m) = false
same_numbers (a ∷ l) [] = false
same_numbers (a ∷ l) (b ∷ m) = eqb a b && same_numbers l m

unfoldable pub same_work : Work → Work → Bool
same_work v w = eqb v.number w.number && (eqb v.place w.place && (eqb v.findings w.findings && same_numbers v.bytes w.bytes))

-- what the row says holds
unfoldable pub holds : Example → Bool
holds (compares e) = stamps.holds e
holds (ends room plan passage w) = same_work (worked plan passage room) w

-- ---- plan P and its passage

-- plan P with an operator, a context and the two bytes of a third input: ratio 10, loggers 1 and 2, kinds 7 and 9, one node with kind 7 as its left and
-- kind 9 as its middle input
abbrev pub plan_third : ℕ → ℕ → ℕ → ℕ → List ℕ
plan_third operator context high low =
    0 ∷ 1 ∷ 0 ∷ 0 ∷ 0 ∷ 0x0A
    ∷ 0 ∷ 2 ∷ 0 ∷ 1 ∷ 0 ∷ 2
    ∷ 0 ∷ 2 ∷ 0 ∷ 7 ∷ 0 ∷ 9
    ∷ 0 ∷ 1 ∷ operator ∷ context ∷ 0 ∷ 0 ∷ 0 ∷ 1 ∷ high ∷ low ∷ []

-- without one
abbrev pub plan_with : ℕ → ℕ → List ℕ
plan_with operator context = plan_third operator context 0xFF 0xFF

abbrev pub plan_p : ℕ → List ℕ
plan_p context = plan_with 3 context

-- an event of a kind, at logger:tick
abbrev event : ℕ → ℕ → ℕ → List ℕ
event kind logger tick = 0 ∷ kind ∷ 0 ∷ logger ∷ 0 ∷ 0 ∷ 0 ∷ 0 ∷ 0 ∷ 0 ∷ 0 ∷ tick ∷ []

-- kind 7 at logger 1, kind 9 at logger 2
abbrev seven : ℕ → List ℕ
seven tick = event 7 1 tick

abbrev nine : ℕ → List ℕ
nine tick = event 9 2 tick

-- a passage: the count of its events, then the events
abbrev passage : ℕ → List ℕ → List ℕ
passage count events = 0 ∷ count ∷ events

-- kind 7 at 1:80, kind 7 at 1:95, kind 9 at 2:110
abbrev passage_p : List ℕ
passage_p = passage 3 (seven 80 ++ seven 95 ++ nine 110)

-- the bytes of a finding of node 0 at 2:110, before its events; and those of a finding from two events
abbrev pub at110 : List ℕ
at110 = 0 ∷ 0 ∷ 0 ∷ 1 ∷ 0 ∷ 2 ∷ 0 ∷ 0 ∷ 0 ∷ 0 ∷ 0 ∷ 0 ∷ 0 ∷ 110 ∷ []

abbrev pub from_two : ℕ → ℕ → List ℕ
from_two i j = at110 ++ (0 ∷ 2 ∷ 0 ∷ i ∷ 0 ∷ j ∷ [])

abbrev detections : List Example
detections =
    ends 32768 (plan_p 1) passage_p (ending 0 0 1 (from_two 1 2))  -- D1
    ∷ ends 32768 (plan_p 2) passage_p (ending 0 0 1 (from_two 0 2))  -- D2
    ∷ ends 32768 (plan_p 3) passage_p (ending 0 0 2 (from_two 0 2 ++ from_two 1 2))  -- D3
    ∷ ends 32768 (plan_p 4) passage_p (ending 0 0 1 (at110 ++ (0 ∷ 3 ∷ 0 ∷ 0 ∷ 0 ∷ 1 ∷ 0 ∷ 2 ∷ [])))  -- D4
    ∷ []

-- J1 to J8, then D1 to D4
unfoldable pub table : List Example
table = map compares stamps.table ++ detections

-- ---- the limits

-- events of kind 7 with these ticks
unfoldable pub sevens : List ℕ → List ℕ
sevens [] = []
sevens (tick ∷ l) = seven tick ++ sevens l

-- n events of kind 7, with ticks 0, 1, ..; and such with one of kind 9 after them
abbrev lefts : ℕ → List ℕ
lefts n = passage n (sevens (numbers_from 0 n))

abbrev then_nine : ℕ → List ℕ
then_nine n = passage (n + 1) (sevens (numbers_from 0 n) ++ nine 110)

-- findings at 2:110, each from one of these events and the last
unfoldable pub each_with : List ℕ → ℕ → List ℕ
each_with [] last = []
each_with (i ∷ l) last = from_two i last ++ each_with l last

unfoldable pub limits : List Example
limits =
    ends 32768 (plan_p 1) (lefts 16) (ending 0 0 0 [])  -- 16 wait
    ∷ ends 32768 (plan_p 1) (lefts 17) (ending 31 16 0 [])
    ∷ ends 20 (plan_p 1) passage_p (ending 0 0 1 (from_two 1 2))
    ∷ ends 19 (plan_p 1) passage_p (ending 33 2 0 [])
    ∷ ends 32768 (plan_p 3) (then_nine 8) (ending 0 0 8 (each_with (numbers_from 0 8) 8))  -- eight findings pass
    ∷ ends 32768 (plan_p 3) (then_nine 9) (ending 32 9 8 (each_with (numbers_from 0 8) 9))
    ∷ ends 160 (plan_p 3) (then_nine 9) (ending 32 9 8 (each_with (numbers_from 0 8) 9))  -- 32 before 33
    ∷ ends 159 (plan_p 3) (then_nine 9) (ending 33 9 7 (each_with (numbers_from 0 7) 9))
    ∷ ends 0 (plan_p 1) (passage 0 []) (ending 0 0 0 [])  -- no events
    ∷ ends 32768 (plan_p 1) [] (ending 21 0 0 [])  -- no bytes
    ∷ ends 32768 [] passage_p (ending 1 0 0 [])
    ∷ []

-- ---- what waits on, by further events

-- a finding of node 0 at 2:tick from events i and j
abbrev at : ℕ → ℕ → ℕ → List ℕ
at tick i j = 0 ∷ 0 ∷ 0 ∷ 1 ∷ 0 ∷ 2 ∷ 0 ∷ 0 ∷ 0 ∷ 0 ∷ 0 ∷ 0 ∷ 0 ∷ tick ∷ 0 ∷ 2 ∷ 0 ∷ i ∷ 0 ∷ j ∷ []

-- plan P's passage and a second event of kind 9
abbrev again : List ℕ
again = passage 4 (seven 80 ++ seven 95 ++ nine 110 ++ nine 120)

-- kind 9 first
abbrev nine_first : List ℕ
nine_first = passage 3 (nine 110 ++ seven 80 ++ seven 95)

unfoldable pub operators : List Example
operators =
    ends 32768 (plan_p 1) again (ending 0 0 2 (at 110 1 2 ++ at 120 1 3))  -- recent: the one taken stays, the other went
    ∷ ends 32768 (plan_p 2) again (ending 0 0 2 (at 110 0 2 ++ at 120 1 3))  -- chronicle: the one taken went
    ∷ ends 32768 (plan_p 3) again (ending 0 0 2 (at 110 0 2 ++ at 110 1 2))  -- continuous: all went
    ∷ ends 32768 (plan_p 1) (passage 4 (seven 80 ++ seven 105 ++ nine 110 ++ nine 130)) (ending 0 0 2 (at 110 0 2 ++ at 130 1 3))  -- recent: one that is no candidate stays
    ∷ ends 32768 (plan_with 2 2) nine_first (ending 0 0 1 (at 110 0 1))  -- AND: either side first, and each is consumed
    ∷ ends 32768 (plan_with 2 1) nine_first (ending 0 0 2 (at 110 0 1 ++ at 110 0 2))  -- AND recent: all wait on
    ∷ ends 32768 (plan_with 1 1) (passage 1 (nine 110)) (ending 0 0 1 (at110 ++ (0 ∷ 1 ∷ 0 ∷ 0 ∷ [])))  -- OR
    ∷ []

-- ---- the operators with a third input

-- a node with an operator and a context, kind 7 as its left input, kind 8 as its middle and kind 9 as its third
abbrev pub interval_plan : ℕ → ℕ → List ℕ
interval_plan operator context =
    0 ∷ 1 ∷ 0 ∷ 0 ∷ 0 ∷ 0x0A
    ∷ 0 ∷ 2 ∷ 0 ∷ 1 ∷ 0 ∷ 2
    ∷ 0 ∷ 3 ∷ 0 ∷ 7 ∷ 0 ∷ 8 ∷ 0 ∷ 9
    ∷ 0 ∷ 1 ∷ operator ∷ context ∷ 0 ∷ 0 ∷ 0 ∷ 1 ∷ 0 ∷ 2 ∷ []

-- kind 8 at logger 2
abbrev eight : ℕ → List ℕ
eight tick = event 8 2 tick

-- a finding at 2:110 from three events
abbrev from_three : ℕ → ℕ → ℕ → List ℕ
from_three i j k = at110 ++ (0 ∷ 3 ∷ 0 ∷ i ∷ 0 ∷ j ∷ 0 ∷ k ∷ [])

abbrev aperiodic : List Example
aperiodic =
    ends 32768 (interval_plan 4 1) (passage 3 (seven 80 ++ eight 100 ++ eight 120)) (ending 0 0 2 (at 100 0 1 ++ at 120 0 2))  -- recent: the left waits on
    ∷ ends 32768 (interval_plan 4 1) (passage 4 (seven 80 ++ eight 100 ++ nine 110 ++ eight 120)) (ending 0 0 1 (at 100 0 1))  -- the third deletes it
    ∷ ends 32768 (interval_plan 4 3) (passage 4 (seven 80 ++ seven 105 ++ nine 110 ++ eight 130)) (ending 0 0 1 (at 130 1 3))  -- and no left that is not before it
    ∷ []

abbrev accumulated : List Example
accumulated =
    ends 32768 (interval_plan 5 1) (passage 5 (seven 80 ++ eight 90 ++ eight 100 ++ nine 110 ++ nine 120)) (ending 0 0 1 (from_three 0 2 3))  -- one middle is between; then all went
    ∷ ends 32768 (interval_plan 5 3) (passage 4 (seven 80 ++ seven 95 ++ eight 100 ++ nine 110)) (ending 0 0 2 (from_three 0 2 3 ++ from_two 1 3))  -- each with the middles after its own left
    ∷ ends 32768 (interval_plan 5 1) (passage 4 (eight 100 ++ nine 110 ++ seven 80 ++ nine 120)) (ending 0 0 1 (at 120 2 3))  -- without candidates too the middle goes
    ∷ []

abbrev absence : List Example
absence =
    ends 32768 (interval_plan 6 1) (passage 4 (eight 60 ++ eight 120 ++ seven 80 ++ nine 110)) (ending 0 0 1 (at 110 2 3))  -- no middle that is before the left or after the third blocks
    ∷ ends 32768 (interval_plan 6 1) (passage 3 (seven 80 ++ eight 90 ++ nine 110)) (ending 0 0 0 [])  -- one that is concurrent with the left does
    ∷ ends 32768 (interval_plan 6 1) (passage 4 (seven 80 ++ nine 110 ++ eight 100 ++ nine 120)) (ending 0 0 1 (at 110 0 1))  -- a late one takes no finding back, and blocks from then on
    ∷ []

-- 41, at the node's entry: a third input that is not 65,535, and one that is no input
abbrev thirds : List Example
thirds =
    ends 32768 (plan_third 3 1 0 0) passage_p (ending 41 20 0 [])
    ∷ ends 32768 (plan_third 4 1 0xFF 0xFF) passage_p (ending 41 20 0 [])
    ∷ ends 32768 (plan_third 4 1 0 0) (passage 0 []) (ending 0 0 0 [])
    ∷ []

unfoldable pub intervals : List Example
intervals = aperiodic ++ accumulated ++ absence ++ thirds
