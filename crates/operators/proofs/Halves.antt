-- The two parts of a node's lists, as an arrival lends them: its own side and the other, also after one of them came back.
use mathlib.Core.Bool.{not}
use mathlib.Core.List.{List}
use mathlib.Core.Path.{◌≡◌, refl, sym, subst, ◌∙◌}
use Prim.Native.Nat.{ℕ, ◌-◌, ◌≤◌}
use native.Mathlib.Omega.{arith}
use lib.Dec.{eqb}
use lib.ListN.{drop, length, take, length-drop}
use lib.Seq.{length-take-le}
use Rattle.sequences.proofs.Parts.{back, length_back}
use Rattle.occurrences.specs.declared.Occurrence.{Occurrence}
use Rattle.occurrences.specs.Packed.{Notes}
use Rattle.waiting_lists.specs.Lists.{Waits}
use Rattle.operators.specs.declared.Part.{Part}
use Rattle.operators.specs.declared.Turn.{Turn}
use Rattle.operators.specs.Turns.{Turned, sides_of}
use Rattle.operators.specs.Views.{Half, Halves, HoldsTurned, own_part}
use Rattle.operators.proofs.Sides.{Held, half_is, held_of, other_back, other_part, own_back}
use Rattle.emissions.specs.declared.Limit.{Limit}
use Rattle.emissions.specs.declared.Made.{Made}
use Rattle.std.specs.Prelude.{Option}

abbrev pub lent : Part → List (List ℕ) → List (List ℕ)
lent p l = take (p.to - p.from) (drop p.from l)

module _ (turn : Turn) (end : ℕ) (own other : Part) (halves : Halves turn end own other) (inside : turn.split ≤ end) (l : List (List ℕ)) (long : length l ≡ end) where
  abbrev input : ℕ
  input = turn.input

  abbrev split : ℕ
  split = turn.split

  pub own_part_lem : lent own l ≡ own_part input split l
  own_part_lem = half_is _ _ l own (omega arith) (subst (λ (n : ℕ). Half (eqb input 0) split n own) (sym long) halves.0)

  other_part_lem : lent other l ≡ other_part input split l
  other_part_lem = half_is _ _ l other (omega arith) (subst (λ (n : ℕ). Half (not (eqb input 0)) split n other) (sym long) halves.1)

  pub own-long : length (lent own l) ≡ own.to - own.from
  own-long = length-take-le (own.to - own.from) (drop own.from l) (omega (arith, length-drop own.from l, halves.0.up, halves.0.within))

  other-long : length (lent other l) ≡ other.to - other.from
  other-long = length-take-le (other.to - other.from) (drop other.from l) (omega (arith, length-drop other.from l, halves.1.up, halves.1.within))

  -- one that comes back is as long as it was, and so are all of them
  module _ (w : List (List ℕ)) where
    pub own-kept : length w ≡ length (lent own l) → length (back own.from own.to l w) ≡ end
    own-kept many = length_back _ _ l w halves.0.up (omega (arith, halves.0.within)) (many ∙ own-long) ∙ long

    pub other-kept : length w ≡ length (lent other l) → length (back other.from other.to l w) ≡ end
    other-kept many = length_back _ _ l w halves.1.up (omega (arith, halves.1.within)) (many ∙ other-long) ∙ long

  -- ---- who waits there
  module _ {ticks globals : List ℕ} (t : Notes ticks globals) (mine others : List Occurrence) (h : Held t input split l mine others) where
    pub own_wait : Waits t (lent own l) mine
    own_wait = subst (λ (k : List (List ℕ)). Waits t k mine) (sym own_part_lem) h.own-waits

    pub other_wait : Waits t (lent other l) others
    other_wait = subst (λ (k : List (List ℕ)). Waits t k others) (sym other_part_lem) h.other-waits

    -- and after one comes back
    module _ (w : List (List ℕ)) (those : List Occurrence) (q : Waits t w those) where
      pub own-then : length w ≡ length (lent own l) → Held t input split (back own.from own.to l w) those others
      own-then many = own_back t input split l w mine others h _ _ (many ∙ own-long) halves.0.from (rw long halves.0.to) those q

      pub other-then : length w ≡ length (lent other l) → Held t input split (back other.from other.to l w) mine those
      other-then many = other_back t input split l w mine others h _ _ (many ∙ other-long) halves.1.from (rw long halves.1.to) those q

-- ---- an arrival's two sides, as they are lent
module _ (turn : Turn) (own other : Part) {ticks globals : List ℕ} (t : Notes ticks globals) {met : Option Limit} {lists : List (List ℕ)} {made : Made} {out : List ℕ}
    (x : Turned) (h : HoldsTurned t met turn.split lists made out x) (halves : Halves turn (length lists) own other) where
  abbrev pub mine : List Occurrence
  mine = (sides_of turn.input x).own

  abbrev pub others : List Occurrence
  others = (sides_of turn.input x).other

  pub held : Held t turn.input turn.split lists mine others
  held = held_of t turn.input turn.split x h

  pub mine-wait : Waits t (lent own lists) mine
  mine-wait = own_wait turn _ own other halves h.waits.inside lists refl t mine others held

  pub others-wait : Waits t (lent other lists) others
  others-wait = other_wait turn _ own other halves h.waits.inside lists refl t mine others held

  -- the others come back, fewer
  module _ (w : List (List ℕ)) (many : length w ≡ length (lent other lists)) where
    abbrev pub then : List (List ℕ)
    then = back other.from other.to lists w

    pub then-long : length then ≡ length lists
    then-long = other-kept turn _ own other halves h.waits.inside lists refl w many

    module _ (those : List Occurrence) (q : Waits t w those) where
      pub then-held : Held t turn.input turn.split then mine those
      then-held = other-then turn _ own other halves h.waits.inside lists refl t mine others held w those q many

      pub mine-still : Waits t (lent own then) mine
      mine-still = own_wait turn _ own other halves h.waits.inside then then-long t mine those then-held
