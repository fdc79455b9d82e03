-- What the functions compute step by step. Readers of the promises need none of these: the laws tie them to the answers.
use Rattle.std.specs.Prelude.{not, List, ℕ, length, Result, Ok, Err}
use Rattle.sequences.specs.Choice.{pick}
use Rattle.sequences.specs.Select.{each_passes}
use Rattle.timestamps.specs.declared.Timestamp.{Timestamp}
use Rattle.timestamps.specs.Order.{valid, valid_ratio}
use Rattle.open_calls.specs.declared.Refusal.TheVariants.{BadRatio, BadLength, BadEntry}
use Rattle.open_calls.specs.declared.Refused.{Refused}
use Rattle.open_calls.specs.Answers.{Judgement, first_invalid, valid_length}

-- the ratio, then the length of the (first) list
unfoldable pub call_judged : ℕ → ℕ → Judgement
call_judged ratio n =
    pick (not (valid_ratio ratio)) (Err (record { why = BadRatio; place = 0 }))
    (pick (not (valid_length n)) (Err (record { why = BadLength; place = 0 })) (Ok tt))

-- the entries of a list
unfoldable pub entries_judged : List Timestamp → Judgement
entries_judged l = pick (each_passes valid l) (Ok tt) (Err (record { why = BadEntry; place = first_invalid l }))

-- where the first goes on, the next
abbrev pub and_then : {A : Type 0} → Judgement → Result A Refused → Result A Refused
and_then (Err refused) next = Err refused
and_then (Ok _) next = next

unfoldable pub list_judged : ℕ → List Timestamp → Judgement
list_judged ratio l = and_then (call_judged ratio (length l)) (entries_judged l)
