-- Document 01, "Stamps": the join, and groupings.
use Rattle.std.specs.Prelude.{List, [], ◌∷◌, ◌++◌}
use Rattle.timestamps.specs.declared.Timestamp.{Timestamp}
use Rattle.timestamps.specs.declared.CompositeTimestamp.{CompositeTimestamp}
use Rattle.timestamps.specs.Composite.{composite_of, members}
use Rattle.timestamps.specs.Maxima.{maxima}
use Rattle.timestamps.specs.Order.{Clocks, before}

-- the join: the stamps of a collection that are before no other in it
unfoldable pub join_of : Clocks → List Timestamp → CompositeTimestamp
join_of clocks l = composite_of (maxima (before clocks) l)

-- a grouping: one stamp, or one or more groupings joined
mutual
  pub data Grouping : Type 0 where
    stamp : Timestamp → Grouping
    group : Parts → Grouping

  pub data Parts : Type 0 where
    last : Grouping → Parts
    more : Grouping → Parts → Parts

unfoldable mutual
  -- its join: that stamp alone, or the join of its parts' joins
  pub group_join : Clocks → Grouping → CompositeTimestamp
  group_join clocks (stamp s) = composite_of (s ∷ [])
  group_join clocks (group ps) = join_of clocks (part_joins clocks ps)

  -- the stamps of the parts' joins
  pub part_joins : Clocks → Parts → List Timestamp
  part_joins clocks (last g) = members (group_join clocks g)
  part_joins clocks (more g ps) = members (group_join clocks g) ++ part_joins clocks ps

unfoldable mutual
  -- the stamps that a grouping is made of
  pub leaves : Grouping → List Timestamp
  leaves (stamp s) = s ∷ []
  leaves (group ps) = part_leaves ps

  pub part_leaves : Parts → List Timestamp
  part_leaves (last g) = leaves g
  part_leaves (more g ps) = leaves g ++ part_leaves ps
