-- Document 01, with request Q-1: the answer of the comparison call, and where 34 to 37 turn it back.
use Rattle.std.specs.Prelude.{ℕ, suc, false, not, List, [], ◌∷◌, ◌++◌, length, Ok, Err}
use Rattle.sequences.specs.Choice.{pick}
use Rattle.sequences.specs.Select.{some_passes}
use Rattle.timestamps.specs.declared.Timestamp.{Timestamp}
use Rattle.timestamps.specs.declared.Order.TheVariants.{Incomparable}
use Rattle.timestamps.specs.declared.Relation.{Relation}
use Rattle.timestamps.specs.Comparison.{order_number, relation_of}
use Rattle.timestamps.specs.Order.{clocks_of, concurrent, valid, valid_ratio}
use Rattle.open_calls.specs.declared.Refusal.{Refusal}
use Rattle.open_calls.specs.declared.Refusal.TheVariants.{BadRatio, BadLength, BadEntry, NotConcurrent}
use Rattle.open_calls.specs.Answers.{Judgement, number_of, valid_length}
use Rattle.comparisons.specs.declared.Comparison.{Comparison}

-- turned back: the number, the place, incomparable and no
unfoldable pub refused_comparison : Refusal → ℕ → Comparison
refused_comparison why place = record { number = number_of why; place = place; order = order_number Incomparable; weakly_before = false }

-- entry by entry, 36 before 37: an entry not concurrent with an earlier one of its list
unfoldable pub judged : ℕ → List Timestamp → ℕ → List Timestamp → Judgement
judged ratio earlier place [] = Ok tt
judged ratio earlier place (s ∷ l) =
    pick (not (valid s)) (Err (record { why = BadEntry; place = place }))
    (pick (some_passes (λ e. not (concurrent (clocks_of ratio) e s)) earlier) (Err (record { why = NotConcurrent; place = place }))
    (judged ratio (earlier ++ (s ∷ [])) (suc place) l))

-- a list whose first place is `place`: 35, then its entries
unfoldable pub judged_list : ℕ → ℕ → List Timestamp → Judgement
judged_list ratio place l = pick (not (valid_length (length l))) (Err (record { why = BadLength; place = place })) (judged ratio [] place l)

-- the word's number, and the yes or no
abbrev pub related : Relation → Comparison
related r = record { number = 0; place = 0; order = order_number r.order; weakly_before = r.weakly_before }

-- turned back by a list, or else the answer
abbrev pub unless_refused : Judgement → Comparison → Comparison
unless_refused (Err refused) answer = refused_comparison refused.why refused.place
unless_refused (Ok _) answer = answer

-- 34, then the first list whole, then the second, whose places follow the first's; else the comparison
unfoldable pub compare_answer : ℕ → List Timestamp → List Timestamp → Comparison
compare_answer ratio a b =
    pick (not (valid_ratio ratio)) (refused_comparison BadRatio 0)
    (unless_refused (judged_list ratio 0 a)
    (unless_refused (judged_list ratio (length a) b)
    (related (relation_of (clocks_of ratio) a b))))
