-- Document 01, "Stamps": a grouping's join. Demand 3, second half.
use mathlib.Core.Path.{◌≡◌, sym, ◌∙◌}
use mathlib.Core.Bool.{true, false}
use mathlib.Core.List.Memᴰ
use mathlib.Core.List.{List, [], ◌∷◌, ◌++◌}
use mathlib.Core.Logic.{◌↔◌}
use Prim.Native.Nat.{ℕ, ◌≤◌, ◌<◌}
use native.Mathlib.Omega.{arith}
use lib.Dec.{leb}
use borrow.Author.Tests.{leb-true}
use Rattle.sequences.specs.Members.{◌is_in◌, SameMembers}
use Rattle.sequences.specs.Select.{each_passes}
use Rattle.sequences.proofs.Booleans.{and_left, and_right}
use Rattle.sequences.proofs.Select.{all_of}
use Rattle.timestamps.specs.declared.Timestamp.{Timestamp}
use Rattle.timestamps.specs.Composite.{members}
use Rattle.timestamps.specs.Join.{join_of, Grouping, Parts, stamp, group, last, more, group_join, part_joins, leaves, part_leaves}
use Rattle.timestamps.specs.Maxima.{maxima}
use Rattle.timestamps.specs.Order.{Clocks, before, clocks_of, largest_tick, valid, valid_ratio}
use Rattle.timestamps.proofs.Join.{Placeable, join_of_covered, join_of_covers, join_of_one, join_of-same, members-join_of}
use Rattle.timestamps.proofs.Maxima.{Covers, covers_append, covers_trans, maxima_of, maxima_in}
use Rattle.timestamps.proofs.Stamps.{before_strict}

-- a valid stamp has one of the eight places, and a tick that is not too large
pub valid-place : (s : Timestamp) → valid s ≡ true → s.logger < 8
unfolding valid
valid-place s v = let h : s.logger ≤ 7 = leb-true s.logger 7 (and_left _ _ v) in omega arith

pub valid-tick : (s : Timestamp) → valid s ≡ true → s.tick.0 ≤ largest_tick
unfolding valid
valid-tick s v = leb-true s.tick.0 largest_tick (and_right (leb s.logger 7) (leb s.tick.0 largest_tick) v)

pub valid_placeable : (l : List Timestamp) → each_passes valid l ≡ true → Placeable l
valid_placeable l v s m = valid-place s (all_of valid l v m)

first_part : (l m : List Timestamp) → Placeable (l ++ m) → Placeable l
first_part l m h s i = h s (Memᴰ.append_left m i)

second_part : (l m : List Timestamp) → Placeable (l ++ m) → Placeable m
second_part l m h s i = h s (Memᴰ.append_right l i)

-- ---- the stamps of a grouping's join cover its leaves
mutual
  unfolding group_join leaves

  pub grouping_covers : (clocks : Clocks) (g : Grouping) → Placeable (leaves g) → Covers (before clocks) (members (group_join clocks g)) (leaves g)
  grouping_covers clocks (stamp s) h = rw (← join_of_one clocks s) (join_of_covers clocks (s ∷ []) h)
  grouping_covers clocks (group ps) h =
      covers_trans (before clocks) (before_strict clocks) (members (join_of clocks (part_joins clocks ps))) (part_joins clocks ps) (part_leaves ps)
      (join_of_covers clocks (part_joins clocks ps) (λ s m. h s ((parts_cover clocks ps h).within s m))) (parts_cover clocks ps h)

  pub parts_cover : (clocks : Clocks) (ps : Parts) → Placeable (part_leaves ps) → Covers (before clocks) (part_joins clocks ps) (part_leaves ps)
  parts_cover clocks (last g) h = grouping_covers clocks g h
  parts_cover clocks (more g ps) h =
      covers_append (before clocks) (members (group_join clocks g)) (leaves g) (part_joins clocks ps) (part_leaves ps)
      (grouping_covers clocks g (first_part (leaves g) (part_leaves ps) h)) (parts_cover clocks ps (second_part (leaves g) (part_leaves ps) h))

-- ---- a grouping's join is the join of its leaves
pub grouping_join : (clocks : Clocks) (g : Grouping) → Placeable (leaves g) → group_join clocks g ≡ join_of clocks (leaves g)
unfolding group_join leaves
grouping_join clocks (stamp s) h = sym (join_of_one clocks s)
grouping_join clocks (group ps) h = join_of_covered clocks (part_joins clocks ps) (part_leaves ps) (parts_cover clocks ps h)

-- ---- the theorem: for one valid ratio and any grouping of valid stamps, of any size and depth, the stamps of the join are exactly those of
-- the grouping that are before none of it
pub grouping_latest : (ratio : ℕ) (g : Grouping) → valid_ratio ratio ≡ true → each_passes valid (leaves g) ≡ true
    → (s : Timestamp) → (s is_in members (group_join (clocks_of ratio) g)) ↔ ((s is_in leaves g) × ((t : Timestamp) → t is_in leaves g → before (clocks_of ratio) s t ≡ false))
grouping_latest ratio g r v s =
    let h : Placeable (leaves g) = valid_placeable (leaves g) v in
    let w : SameMembers (members (join_of (clocks_of ratio) (leaves g))) (maxima (before (clocks_of ratio)) (leaves g)) = members-join_of (clocks_of ratio) (leaves g) h in
    rw (grouping_join (clocks_of ratio) g h)
    (λ m. maxima_of (before (clocks_of ratio)) (leaves g) s (w.0 s m), λ p. w.1 s (maxima_in (before (clocks_of ratio)) (leaves g) s p.0 p.1))

-- in whichever order and however often each stamp is repeated
pub grouping_same : (ratio : ℕ) (g h : Grouping) → valid_ratio ratio ≡ true → each_passes valid (leaves g) ≡ true → each_passes valid (leaves h) ≡ true
    → SameMembers (leaves g) (leaves h) → group_join (clocks_of ratio) g ≡ group_join (clocks_of ratio) h
grouping_same ratio g h r v w same =
    grouping_join (clocks_of ratio) g (valid_placeable (leaves g) v) ∙ join_of-same (clocks_of ratio) (leaves g) (leaves h) same ∙ sym (grouping_join (clocks_of ratio) h (valid_placeable (leaves h) w))
