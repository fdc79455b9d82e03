-- Document 01, "How an event is worked": candidates, and which of them a context takes and removes. Marks stand beside the waiting occurrences, one for each of 16 places.
use Rattle.std.specs.Prelude.{Bool, true, not, ◌&&◌, List, map}
use mathlib.Core.List.{zip_with}
use Rattle.sequences.specs.Marks.{marked, padded}
use Rattle.sequences.specs.Select.{some_passes}
use Rattle.timestamps.specs.Order.{Clocks}
use Rattle.occurrences.specs.declared.Occurrence.{Occurrence}
use Rattle.occurrences.specs.Occurrences.{is_before, is_weakly_before}
use Rattle.contexts.specs.Table.{Taken, latest, earliest, every, Removed, untaken, taken, all, Context}

-- SEQ: the candidates are the waiting occurrences whose stamp is before the arrival's; as in the choice below, the word of the comparison tells it
unfoldable pub seq_candidates : Clocks → List Occurrence → Occurrence → List Bool
seq_candidates clocks waiting o = padded 16 (map (λ w. is_before clocks w o) waiting)

-- AND: the candidates are all that wait on the other side
unfoldable pub and_candidates : List Occurrence → List Bool
and_candidates waiting = padded 16 (map (λ w. true) waiting)

-- absence: a waiting middle blocks a left of a third arrival, where the left is weakly before it and it is weakly before the third
unfoldable pub blocks : Clocks → (left third middle : Occurrence) → Bool
blocks clocks left third middle = is_weakly_before clocks left middle && is_weakly_before clocks middle third

-- the candidates are the lefts before the third that no waiting middle blocks
unfoldable pub absence_candidates : Clocks → (lefts middles : List Occurrence) → Occurrence → List Bool
absence_candidates clocks lefts middles o = padded 16 (map (λ l. is_before clocks l o && not (some_passes (blocks clocks l o) middles)) lefts)

-- a candidate is taken: it is before no other candidate; no other candidate is before it; always.
-- "Other" needs no word: with at least one stamp an occurrence is not before itself (proofs/Choices.antt, latest-others, earliest_others)
unfoldable pub takes : Taken → Clocks → List Occurrence → Occurrence → Bool
takes latest clocks candidates w = not (some_passes (λ c. is_before clocks w c) candidates)
takes earliest clocks candidates w = not (some_passes (λ c. is_before clocks c w) candidates)
takes every clocks candidates w = true

-- the marks of those taken
unfoldable pub taken_of : Taken → Clocks → List Occurrence → List Bool → List Bool
taken_of t clocks waiting candidates = padded 16 (zip_with (λ w c. c && takes t clocks (marked waiting candidates) w) waiting candidates)

-- a place is removed, by whether it is a candidate and is taken: a candidate not taken; one taken; every candidate
unfoldable pub removes : Removed → Bool → Bool → Bool
removes untaken candidate is_taken = candidate && not is_taken
removes taken candidate is_taken = is_taken
removes all candidate is_taken = candidate

-- the marks of those removed
unfoldable pub removed_of : Removed → List Bool → List Bool → List Bool
removed_of x candidates marks = zip_with (removes x) candidates marks

-- the choice that a row of the table makes: the marks of those taken and of those removed
pub record Chosen : Type 0 where
  pub taken : List Bool
  pub removed : List Bool

unfoldable pub chosen : Context → Clocks → List Occurrence → List Bool → Chosen
chosen row clocks waiting candidates = record {
  taken = taken_of row.takes clocks waiting candidates;
  removed = removed_of row.removes candidates (taken_of row.takes clocks waiting candidates);
}
