-- What is noted of a list, and what the comparison computes from it. Readers of the promises need none of these: the laws tie them to the answer.
-- At a logger place of the notes stands that of a local tick, 0 where there is none; at the same of the globals the global tick itself.
use Rattle.std.specs.Prelude.{◌≡◌, ℕ, ◌+◌, ◌-◌, ◌<◌, ◌≤◌, min, max, Bool, true, not, ◌&&◌, ◌||◌, List, [], get_or, length, replicate, ◌==◌, nat_lt, Result, Ok, Err}
use Rattle.sequences.specs.Choice.{pick}
use Rattle.sequences.specs.Loops.{fold}
use Rattle.sequences.specs.Members.{◌is_in◌}
use Rattle.sequences.specs.Select.{each_passes, some_passes}
use Rattle.timestamps.specs.declared.GlobalTick.{GlobalTick}
use Rattle.timestamps.specs.declared.LocalTick.{LocalTick}
use Rattle.timestamps.specs.declared.Order.{Order}
use Rattle.timestamps.specs.declared.Order.TheVariants.{Incomparable, Before, After, Concurrent}
use Rattle.timestamps.specs.declared.Relation.{Relation}
use Rattle.timestamps.specs.declared.Timestamp.{Timestamp}
use Rattle.timestamps.specs.Comparison.{relation_of}
use Rattle.timestamps.specs.Composite.{logger_places}
use Rattle.timestamps.specs.Order.{Clocks, clearly_earlier, clocks_of, concurrent, global_of, quotient, valid}
use Rattle.open_calls.specs.declared.Refusal.{Refusal}
use Rattle.open_calls.specs.declared.Refusal.TheVariants.{BadEntry, NotConcurrent}
use Rattle.open_calls.specs.declared.Refused.{Refused}
use Rattle.open_calls.specs.Notes.{local_note, note_at}
use Rattle.open_calls.specs.Steps.{and_then, call_judged}
use Rattle.comparisons.specs.declared.Gathering.{Gathering}
use Rattle.comparisons.specs.declared.Around.{Around}
use Rattle.comparisons.specs.declared.Replies.{Replies}
use Rattle.comparisons.specs.declared.Span.{Span}
use Rattle.comparisons.specs.Answers.{judged, judged_list}

-- the tick of a note
abbrev pub tick_of : ℕ → LocalTick
tick_of note = record { 0 = note - 1 }

-- the timestamp that is noted at a logger place
abbrev pub noted_at : List ℕ → ℕ → Timestamp
noted_at notes k = record { logger = k; tick = tick_of (note_at notes k) }

abbrev pub global_zero : GlobalTick
global_zero = record { 0 = 0 }

abbrev pub global_at : List GlobalTick → ℕ → GlobalTick
global_at globals k = get_or globals k global_zero

-- no global tick is as large
abbrev pub no_lowest : ℕ
no_lowest = 18446744073709551615

abbrev pub span_of : ℕ → ℕ → Span
span_of lowest highest = record { lowest = record { 0 = lowest }; highest = record { 0 = highest } }

abbrev pub nothing_gathered : Gathering
nothing_gathered = record { span = span_of no_lowest 0; notes = replicate 8 0; globals = replicate 8 global_zero }

unfoldable pub widened_by : Span → GlobalTick → Span
widened_by a g = span_of (min a.lowest.0 g.0) (max a.highest.0 g.0)

-- ---- what a gathering says of the timestamps of a list
-- one of them is noted, and its global tick lies between the lowest and the highest
pub record NotedIn (clocks : Clocks) (a : Gathering) (s : Timestamp) : Type 0 where
  pub place : s.logger < 8
  pub local : note_at a.notes s.logger ≡ local_note s
  pub global : global_at a.globals s.logger ≡ global_of clocks s
  pub low : a.span.lowest.0 ≤ (global_of clocks s).0
  pub high : (global_of clocks s).0 ≤ a.span.highest.0

-- all of them are, what is noted is one of them, so are the lowest and the highest, and these are not clearly apart
pub record NotedList (clocks : Clocks) (l : List Timestamp) (a : Gathering) : Type 0 where
  pub sized : (length a.notes ≡ 8) × (length a.globals ≡ 8)
  pub each : (s : Timestamp) → s is_in l → NotedIn clocks a s
  pub held : (k : ℕ) → k < 8 → 0 < note_at a.notes k → noted_at a.notes k is_in l
  pub lowest : a.span.lowest.0 < no_lowest → (s : Timestamp) × (s is_in l) × ((global_of clocks s).0 ≡ a.span.lowest.0)
  pub highest : 0 < a.span.highest.0 → (s : Timestamp) × (s is_in l) × ((global_of clocks s).0 ≡ a.span.highest.0)
  pub near : a.span.highest.0 ≤ a.span.lowest.0 + 1
  pub fits : a.span.highest.0 < no_lowest

-- ---- how the lists are judged
-- an entry is not concurrent with an earlier one
abbrev pub clashes : Clocks → List Timestamp → Timestamp → Bool
clashes clocks earlier s = some_passes (λ e. not (concurrent clocks e s)) earlier

-- one entry, after earlier ones
unfoldable pub entry_judged : Clocks → List Timestamp → Timestamp → Result (Unit {0}) Refusal
entry_judged clocks earlier s = pick (not (valid s)) (Err BadEntry) (pick (clashes clocks earlier s) (Err NotConcurrent) (Ok tt))

-- the ratio and the first length, the first list, then the second
unfoldable pub lists_related : ℕ → List Timestamp → List Timestamp → Result Relation Refused
lists_related ratio a b =
    and_then (call_judged ratio (length a))
    (and_then (judged ratio [] 0 a)
    (and_then (judged_list ratio (length a) b)
    (Ok (relation_of (clocks_of ratio) a b))))

-- ---- one list against another
-- the tick of a note, if there is one, is earlier than t
abbrev pub is_earlier : ℕ → LocalTick → Bool
is_earlier note t = nat_lt 0 note && nat_lt (tick_of note).0 t.0

-- a list with the note `own` of a logger meets a timestamp of that logger: by their local ticks, or by the global ticks
unfoldable pub around_of : Span → ℕ → LocalTick → GlobalTick → Around
around_of a own t g = record {
  earlier = clearly_earlier a.lowest g || is_earlier own t;
  later = clearly_earlier g a.highest || (nat_lt 0 own && nat_lt t.0 (tick_of own).0);
}

-- the replies with one timestamp more of the second list, which the first has met
abbrev pub related_by : Replies → Around → Replies
related_by r m = record {
  before = r.before && m.earlier;
  concurrent = r.concurrent && (not m.earlier && not m.later);
  weakly_before = r.weakly_before && not m.later;
}

unfoldable pub related_at : Span → ℕ → ℕ → GlobalTick → Replies → Replies
related_at a own note g r = pick (note == 0) r (related_by r (around_of a own (tick_of note) g))

abbrev pub all_related : Replies
all_related = record { before = true; concurrent = true; weakly_before = true }

-- at a place of the second list
abbrev pub related_next : Gathering → Gathering → Replies → ℕ → Replies
related_next a b r k = related_at a.span (note_at a.notes k) (note_at b.notes k) (global_at b.globals k) r

unfoldable pub related_lists : Gathering → Gathering → Replies
related_lists a b = fold (related_next a b) logger_places all_related

-- ---- the word
-- a timestamp with a note has one before it: the one with the note `own` of its logger, or the one of the lowest global tick
unfoldable pub has_earlier : ℕ → GlobalTick → ℕ → ℕ → Bool
has_earlier ratio low own note =
    pick (note == 0) true
    (pick (is_earlier own (tick_of note)) true (clearly_earlier low (quotient ratio (tick_of note))))

abbrev pub has_earlier_at : ℕ → Gathering → Gathering → ℕ → Bool
has_earlier_at ratio a b k = has_earlier ratio a.span.lowest (note_at a.notes k) (note_at b.notes k)

unfoldable pub each_has_earlier : ℕ → Gathering → Gathering → Bool
each_has_earlier ratio a b = each_passes (has_earlier_at ratio a b) logger_places

-- the first that holds
unfoldable pub order_noted : ℕ → Replies → Gathering → Gathering → Order
order_noted ratio r a b =
    pick r.before Before
    (pick r.concurrent Concurrent
    (pick r.weakly_before Incomparable
    (pick (each_has_earlier ratio b a) After Incomparable)))

unfoldable pub relation_noted : ℕ → Gathering → Gathering → Relation
relation_noted ratio a b = record { order = order_noted ratio (related_lists a b) a b; weakly_before = (related_lists a b).weakly_before }
