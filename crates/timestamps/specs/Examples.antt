-- Document 01, "Bridge examples": the marked rows on stamps, at ratio 10. `stamped 1 80` is 1:80.
use Rattle.std.specs.Prelude.{Bool, true, false, ◌&&◌, List, [], ◌∷◌, ◌++◌, ℕ, eqb}
use Rattle.sequences.specs.Choice.{pick}
use Rattle.timestamps.specs.declared.Timestamp.{Timestamp}
use Rattle.timestamps.specs.declared.CompositeTimestamp.{CompositeTimestamp}
use Rattle.timestamps.specs.declared.Order.TheVariants.{Incomparable}
use Rattle.timestamps.specs.Comparison.{all_before, relation_of, same_order}
use Rattle.timestamps.specs.Composite.{members}
use Rattle.timestamps.specs.Join.{join_of, Grouping, stamp, group, last, more, group_join}
use Rattle.timestamps.specs.Order.{Clocks, clocks_of, largest_tick}

abbrev pub stamped : ℕ → ℕ → Timestamp
stamped logger tick = record { logger = logger; tick = record { 0 = tick } }

-- a row of the table: a grouping and the stamps of its join by rising logger; or two composites that are incomparable, the first weakly before the second
pub data Example : Type 0 where
  joins : Grouping → List Timestamp → Example
  weakly : List Timestamp → List Timestamp → Example

unfoldable pub same_stamps : List Timestamp → List Timestamp → Bool
same_stamps [] [] = true
same_stamps [] (t ∷ m) = false
same_stamps (s ∷ l) [] = false
same_stamps (s ∷ l) (t ∷ m) = eqb s.logger t.logger && (eqb s.tick.0 t.tick.0 && same_stamps l m)

-- what the row says holds
unfoldable pub holds : Example → Bool
holds (joins g l) = same_stamps (members (group_join (clocks_of 10) g)) l
holds (weakly a b) = same_order (relation_of (clocks_of 10) a b).order Incomparable && (relation_of (clocks_of 10) a b).weakly_before

-- groupings of two and three parts
abbrev pub two : Grouping → Grouping → Grouping
two g h = group (more g (last h))

abbrev pub three : Grouping → Grouping → Grouping → Grouping
three g h i = group (more g (more h (last i)))

abbrev at : ℕ → ℕ → Grouping
at logger tick = stamp (stamped logger tick)

abbrev a80 : Grouping
a80 = at 1 80

abbrev b90 : Grouping
b90 = at 2 90

abbrev c100 : Grouping
c100 = at 3 100

abbrev both : List Timestamp
both = stamped 2 90 ∷ stamped 3 100 ∷ []

unfoldable pub table : List Example
table =
    joins (two (at 1 80) (at 1 81)) (stamped 1 81 ∷ [])  -- J1
    ∷ joins (two (at 1 89) (at 2 90)) (stamped 1 89 ∷ stamped 2 90 ∷ [])  -- J2
    ∷ joins (two (at 1 89) (at 2 100)) (stamped 2 100 ∷ [])  -- J3
    ∷ joins (three a80 b90 c100) both  -- J4, in every grouping
    ∷ joins (two (two a80 b90) c100) both
    ∷ joins (two a80 (two b90 c100)) both
    ∷ joins (two (two a80 c100) b90) both
    ∷ joins (two b90 (two a80 c100)) both
    ∷ joins (two (two b90 c100) a80) both
    ∷ joins (two c100 (two a80 b90)) both
    ∷ weakly (stamped 1 80 ∷ []) both  -- J5
    ∷ joins (two (at 2 55) (at 2 55)) (stamped 2 55 ∷ [])  -- J6
    ∷ joins (three (at 1 80) (two (at 1 90) (at 2 80)) (at 2 90)) (stamped 1 90 ∷ stamped 2 90 ∷ [])  -- J7
    ∷ joins (two (at 1 0) (at 1 largest_tick)) (stamped 1 largest_tick ∷ [])  -- J8
    ∷ []

-- Definition 5.9 of the thesis: the later of two composites where one is before the other, else their join
unfoldable pub max_of59 : Clocks → CompositeTimestamp → CompositeTimestamp → CompositeTimestamp
max_of59 clocks a b =
    pick (all_before clocks (members b) (members a)) a
    (pick (all_before clocks (members a) (members b)) b
    (join_of clocks (members a ++ members b)))
