-- Document 01's marked examples on stamps, computed from the definitions.
use mathlib.Core.Path.{◌≡◌, refl}
use mathlib.Core.Bool.{true, false}
use mathlib.Core.List.{[], ◌∷◌}
use Rattle.sequences.specs.Range.{numbers_from}
use Rattle.sequences.specs.Select.{filter, some_passes, each_passes}
use Rattle.timestamps.specs.declared.Order.TheVariants.{Incomparable}
use Rattle.timestamps.specs.Comparison.{all_before, all_concurrent, order_number, order_of, relation_of, same_order, says, stamps_weakly_before}
use Rattle.timestamps.specs.Composite.{members, tick_of, composite_of}
use Rattle.timestamps.specs.Examples.{holds, table, same_stamps, stamped, max_of59}
use Rattle.timestamps.specs.Join.{join_of, group_join}
use Rattle.timestamps.specs.Maxima.{maxima}
use Rattle.timestamps.specs.Order.{clocks_of, before, concurrent, clearly_earlier, global_of}

-- every row of the table
pub table-holds : each_passes holds table ≡ true
unfolding each_passes some_passes filter numbers_from holds table same_stamps members tick_of composite_of join_of group_join maxima before concurrent clearly_earlier global_of all_before all_concurrent stamps_weakly_before says order_of order_number same_order relation_of
table-holds = refl

-- J5: incomparable, and yet weakly before; so the words do not tell it
pub weakly_alone : relation_of (clocks_of 10) (stamped 1 80 ∷ []) (stamped 2 90 ∷ stamped 3 100 ∷ []) ≡ record { order = Incomparable; weakly_before = true }
unfolding each_passes some_passes before concurrent clearly_earlier global_of all_before all_concurrent stamps_weakly_before says order_of relation_of
weakly_alone = refl

-- pair by pair with Definition 5.9 the result depends on the grouping, and one of the two is not the join (J4)
pub pairs_left : same_stamps (members (max_of59 (clocks_of 10) (max_of59 (clocks_of 10) (composite_of (stamped 1 80 ∷ [])) (composite_of (stamped 2 90 ∷ []))) (composite_of (stamped 3 100 ∷ [])))) (stamped 3 100 ∷ []) ≡ true
unfolding each_passes some_passes filter numbers_from same_stamps members tick_of composite_of join_of maxima before clearly_earlier global_of all_before max_of59
pairs_left = refl

pub pairs_right : same_stamps (members (max_of59 (clocks_of 10) (composite_of (stamped 1 80 ∷ [])) (max_of59 (clocks_of 10) (composite_of (stamped 2 90 ∷ [])) (composite_of (stamped 3 100 ∷ []))))) (stamped 2 90 ∷ stamped 3 100 ∷ []) ≡ true
unfolding each_passes some_passes filter numbers_from same_stamps members tick_of composite_of join_of maxima before clearly_earlier global_of all_before max_of59
pairs_right = refl

pub pairs_wrong : same_stamps (members (join_of (clocks_of 10) (stamped 1 80 ∷ stamped 2 90 ∷ stamped 3 100 ∷ []))) (stamped 3 100 ∷ []) ≡ false
unfolding each_passes some_passes filter numbers_from same_stamps members tick_of composite_of join_of maxima before clearly_earlier global_of
pairs_wrong = refl
