-- The join: of every list it is the list's greatest timestamps, however the list is put together.
use mathlib.Core.Path.{◌≡◌, sym, ap, ◌∙◌}
use mathlib.Core.List.Memᴰ
use mathlib.Core.List.{List, [], ◌∷◌, ◌++◌}
use Prim.Native.Nat.{◌≤◌, ◌<◌}
use native.Mathlib.Omega.{arith}
use borrow.Author.Tests.{ltb-false}
use Rattle.sequences.specs.Members.{◌is_in◌, SameMembers}
use Rattle.timestamps.specs.declared.Timestamp.{Timestamp}
use Rattle.timestamps.specs.declared.CompositeTimestamp.{CompositeTimestamp}
use Rattle.timestamps.specs.Composite.{members, composite_of}
use Rattle.timestamps.specs.Join.{join_of}
use Rattle.timestamps.specs.Maxima.{maxima}
use Rattle.timestamps.specs.Order.{Clocks, before}
use Rattle.timestamps.proofs.Composite.{OnePerLogger, same-stamp, members_of, members-composite_of, composite_of-same, composite_of_canonical, Canonical}
use Rattle.timestamps.proofs.Maxima.{maxima_of, maxima_in, Covers, covers_same, covers_append, covers_trans, maxima_covered, maxima_covers}
use Rattle.timestamps.proofs.Stamps.{before_one, before_irrefl, before_strict}

-- every stamp of the list has one of the eight logger places
abbrev pub Placeable : List Timestamp → Type 0
Placeable l = (s : Timestamp) → s is_in l → s.logger < 8

module _ (clocks : Clocks) where
  -- ---- the greatest timestamps have at most one of each logger
  pub maxima_one : (l : List Timestamp) → OnePerLogger (maxima (before clocks) l)
  maxima_one l s t m n e =
      let (i, h) = maxima_of (before clocks) l s m in
      let (j, k) = maxima_of (before clocks) l t n in
      let a : t.tick.0 ≤ s.tick.0 = ltb-false _ _ (sym (before_one clocks s t e) ∙ h t j) in
      let b : s.tick.0 ≤ t.tick.0 = ltb-false _ _ (sym (before_one clocks t s (sym e)) ∙ k s i) in
      same-stamp s t e (omega arith)

  -- ---- the members of a join are the greatest timestamps: exactly those that are before none
  pub members-join_of : (l : List Timestamp) → Placeable l → SameMembers (members (join_of clocks l)) (maxima (before clocks) l)
  unfolding join_of
  members-join_of l small = members-composite_of (maxima (before clocks) l) (λ s m. small s (maxima_of (before clocks) l s m).0) (maxima_one l)

  -- what covers a list has its join
  pub join_of_covered : (k l : List Timestamp) → Covers (before clocks) k l → join_of clocks k ≡ join_of clocks l
  unfolding join_of
  join_of_covered k l p = composite_of-same (maxima (before clocks) k) (maxima (before clocks) l) (maxima_covered (before clocks) (before_strict clocks) k l p) (maxima_one k)

  -- order and repetition do not matter
  pub join_of-same : (k l : List Timestamp) → SameMembers k l → join_of clocks k ≡ join_of clocks l
  join_of-same k l w = join_of_covered k l (covers_same (before clocks) w)

  pub join_of_canonical : (l : List Timestamp) → Canonical (join_of clocks l)
  unfolding join_of
  join_of_canonical l = composite_of_canonical (maxima (before clocks) l)

  -- the members of a join cover its list
  pub join_of_covers : (l : List Timestamp) → Placeable l → Covers (before clocks) (members (join_of clocks l)) l
  join_of_covers l small =
      covers_trans (before clocks) (before_strict clocks) (members (join_of clocks l)) (maxima (before clocks) l) l
      (covers_same (before clocks) (members-join_of l small)) (maxima_covers (before clocks) (before_strict clocks) l)

  -- the join of joins is the join of the whole
  pub join_of-++ : (l m : List Timestamp) → Placeable l → Placeable m → join_of clocks (members (join_of clocks l) ++ members (join_of clocks m)) ≡ join_of clocks (l ++ m)
  join_of-++ l m p q = join_of_covered _ (l ++ m) (covers_append (before clocks) _ l _ m (join_of_covers l p) (join_of_covers m q))

  -- one timestamp is its own join
  pub join_of_one : (s : Timestamp) → join_of clocks (s ∷ []) ≡ composite_of (s ∷ [])
  unfolding join_of
  join_of_one s = composite_of-same (maxima (before clocks) (s ∷ [])) (s ∷ []) (down, up) (maxima_one (s ∷ []))
    where
      down : (t : Timestamp) → t is_in maxima (before clocks) (s ∷ []) → t is_in (s ∷ [])
      down t m = (maxima_of (before clocks) (s ∷ []) t m).0

      up : (t : Timestamp) → t is_in (s ∷ []) → t is_in maxima (before clocks) (s ∷ [])
      up t m = maxima_in (before clocks) (s ∷ []) t m (λ u n.
          let e : t ≡ s = Memᴰ.eq_of_singleton m in
          let f : u ≡ s = Memᴰ.eq_of_singleton n in
          ap (λ x. before clocks x u) e ∙ ap (before clocks s) f ∙ before_irrefl clocks s)

pub members_placeable : (c : CompositeTimestamp) → Placeable (members c)
members_placeable c s m = (members_of c s m).place
