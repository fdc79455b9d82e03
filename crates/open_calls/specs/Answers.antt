-- Document 01: the answer of the join call, and where 34 to 36 turn it back; the numbers that both open calls share.
use Rattle.std.specs.Prelude.{Bool, not, ◌&&◌, List, [], ◌∷◌, map, ℕ, suc, leb, length, replicate, Result}
use Rattle.sequences.specs.Choice.{pick}
use Rattle.sequences.specs.Select.{each_passes}
use Rattle.timestamps.specs.declared.Timestamp.{Timestamp}
use Rattle.timestamps.specs.declared.CompositeTimestamp.{CompositeTimestamp}
use Rattle.timestamps.specs.Composite.{logger_places, present_at, stamp_at}
use Rattle.timestamps.specs.Join.{join_of}
use Rattle.timestamps.specs.Order.{blank, clocks_of, valid, valid_ratio}
use Rattle.open_calls.specs.declared.Refusal.{Refusal}
use Rattle.open_calls.specs.declared.Refusal.TheVariants.{BadRatio, BadLength, BadEntry, NotConcurrent}
use Rattle.open_calls.specs.declared.Refused.{Refused}
use Rattle.open_calls.specs.declared.JoinAnswer.{JoinAnswer}

-- document 01's number of each refusal
unfoldable pub number_of : Refusal → ℕ
number_of BadRatio = 34
number_of BadLength = 35
number_of BadEntry = 36
number_of NotConcurrent = 37

-- whether a call goes on, or is turned back, and at which place
abbrev pub Judgement : Type 0
Judgement = Result (Unit {0}) Refused

-- 35 lets a list of 1 to 128 pass
unfoldable pub valid_length : ℕ → Bool
valid_length n = leb 1 n && leb n 128

-- one stamp for each logger place, blank where there is none
abbrev pub shown_at : CompositeTimestamp → ℕ → Timestamp
shown_at c k = pick (present_at c k) (stamp_at c k) blank

unfoldable pub shown : CompositeTimestamp → List Timestamp
shown c = map (shown_at c) logger_places

-- turned back: the number, the place, and the blank stamp in all eight
unfoldable pub refused_join : Refusal → ℕ → JoinAnswer
refused_join why place = record { number = number_of why; place = place; timestamps = replicate 8 blank }

-- the place of the first stamp that 36 does not let pass
unfoldable pub first_invalid : List Timestamp → ℕ
first_invalid [] = 0
first_invalid (s ∷ l) = pick (valid s) (suc (first_invalid l)) 0

-- 34, then 35, then entry by entry 36; else the join
unfoldable pub join_answer : ℕ → List Timestamp → JoinAnswer
join_answer ratio l =
    pick (not (valid_ratio ratio)) (refused_join BadRatio 0)
    (pick (not (valid_length (length l))) (refused_join BadLength 0)
    (pick (not (each_passes valid l)) (refused_join BadEntry (first_invalid l))
    (record { number = 0; place = 0; timestamps = shown (join_of (clocks_of ratio) l) })))
