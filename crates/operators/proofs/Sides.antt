-- A node's two lists in one, as an arrival by an input sees them: its own side and the other; and what changes when one of them comes back.
use mathlib.Core.Bool.{Bool, true, false, not}
use mathlib.Core.List.{List, [], ◌∷◌, ◌++◌, append-nil}
use mathlib.Core.Path.{◌≡◌, refl, sym, ap, ◌∙◌}
use Prim.Native.Nat.{ℕ, ◌-◌, ◌≤◌}
use native.Mathlib.Omega.{arith}
use lib.Dec.{eqb}
use lib.ListN.{drop, length, take, length-drop}
use lib.Seq.{drop_at, length-take-le, take_all, take_at}
use Rattle.sequences.specs.Choice.{pick}
use Rattle.sequences.proofs.Parts.{back, length_back}
use Rattle.occurrences.specs.declared.Occurrence.{Occurrence}
use Rattle.occurrences.specs.Packed.{Notes}
use Rattle.waiting_lists.specs.Lists.{Waits}
use Rattle.waiting_lists.specs.Waiting.{appended_to, is_full}
use Rattle.emissions.specs.declared.Limit.{Limit}
use Rattle.emissions.specs.declared.Limit.TheVariants.{ListFull}
use Rattle.emissions.specs.declared.Made.{Made}
use Rattle.std.specs.Prelude.{Option, None, Some}
use Rattle.emissions.specs.Emissions.{Emits, Emitting, ended}
use Rattle.emissions.proofs.Emitting.{emits_as, emits_ended}
use Rattle.arrivals.specs.Meetings.{appended, full_limit, sides}
use Rattle.operators.specs.Turns.{Turned, sides_of, turned_of}
use Rattle.operators.specs.declared.Part.{Part}
use Rattle.operators.specs.Views.{Half, HoldsTurned, NodeWaits, own_part}

-- the list on the other side
abbrev pub other_part : {A : Type 0} → (input split : ℕ) → List A → List A
other_part input split lists = pick (not (eqb input 0)) (take split lists) (drop split lists)

-- ---- a half, as a part that is lent
half_by : (b : Bool) (m : ℕ) (l : List (List ℕ)) (from to : ℕ) → m ≤ length l → from ≡ pick b 0 m → to ≡ pick b m (length l) → take (to - from) (drop from l) ≡ pick b (take m l) (drop m l)
half_by true m l from to h f g = let z : m - 0 ≡ m = omega arith in rw (f, g, z)
half_by false m l from to h f g = rw (f, g) (take_all (length l - m) (drop m l) (omega (arith, length-drop m l)))

pub half_is : (b : Bool) (m : ℕ) (l : List (List ℕ)) (p : Part) → m ≤ length l → Half b m (length l) p → take (p.to - p.from) (drop p.from l) ≡ pick b (take m l) (drop m l)
half_is b m l p h k = half_by b m l p.from p.to h k.from k.to

-- ---- one half comes back
module _ {A : Type 0} (m : ℕ) (l w : List A) (inside : m ≤ length l) where
  drop_all : (n : ℕ) (k : List A) → length k ≤ n → drop n k ≡ []
  drop_all n k h = empty (drop n k) (omega (arith, length-drop n k))
    where
      empty : (k : List A) → length k ≤ 0 → k ≡ []
      empty [] z = refl
      empty (a ∷ k) z = absurd (omega arith)

  left_back : length w ≡ m → (take m (back 0 m l w) ≡ w) × (drop m (back 0 m l w) ≡ drop m l)
  left_back many =
      let z : m - 0 ≡ m = omega arith in
      (take_at w (drop (m - 0) (drop 0 l)) m many, drop_at w (drop (m - 0) (drop 0 l)) m many ∙ ap (λ n. drop n l) z)

  middle_back : (e : ℕ) → e ≡ length l → length w ≡ e - m → (take m (back m e l w) ≡ take m l) × (drop m (back m e l w) ≡ w)
  middle_back e end many =
      let none : drop (e - m) (drop m l) ≡ [] = drop_all (e - m) (drop m l) (omega (arith, length-drop m l, end)) in
      (take_at (take m l) (w ++ drop (e - m) (drop m l)) m (length-take-le m l inside), drop_at (take m l) (w ++ drop (e - m) (drop m l)) m (length-take-le m l inside) ∙ ap (λ k. w ++ k) none ∙ append-nil w)

-- the lists on both sides
pub record Held {ticks globals : List ℕ} (t : Notes ticks globals) (input split : ℕ) (lists : List (List ℕ)) (own other : List Occurrence) : Type 0 where
  pub inside : split ≤ length lists
  pub own-waits : Waits t (own_part input split lists) own
  pub other-waits : Waits t (other_part input split lists) other

module _ {ticks globals : List ℕ} (t : Notes ticks globals) (input split : ℕ) where
  -- from the node's two lists, and back to them
  held_by : (b : Bool) → eqb input 0 ≡ b → (lists : List (List ℕ)) (x : Turned) → NodeWaits t split lists x.left x.middle
      → Held t input split lists (sides_of input x).own (sides_of input x).other
  unfolding sides_of
  held_by true e lists x w = record { inside = w.inside; own-waits = rw e w.left-waits; other-waits = rw e w.middle-waits }
  held_by false e lists x w = record { inside = w.inside; own-waits = rw e w.middle-waits; other-waits = rw e w.left-waits }

  pub held_of : {met : Option Limit} {lists : List (List ℕ)} {made : Made} {out : List ℕ} (x : Turned) → HoldsTurned t met split lists made out x
      → Held t input split lists (sides_of input x).own (sides_of input x).other
  held_of {lists = lists} x h = held_by (eqb input 0) refl lists x h.waits

  turned_by : (b : Bool) → eqb input 0 ≡ b → {met : Option Limit} {lists : List (List ℕ)} {made : Made} {out : List ℕ} (own other : List Occurrence) (e : Emitting)
      → Held t input split lists own other → Emits t met made out e → HoldsTurned t met split lists made out (turned_of input (sides own other e))
  unfolding turned_of
  turned_by true q own other e h m = rw q (record { waits = record { inside = h.inside; left-waits = rw q at h.own-waits; middle-waits = rw q at h.other-waits }; emit = m })
  turned_by false q own other e h m = rw q (record { waits = record { inside = h.inside; left-waits = rw q at h.other-waits; middle-waits = rw q at h.own-waits }; emit = m })

  pub turned_of_lem : {met : Option Limit} {lists : List (List ℕ)} {made : Made} {out : List ℕ} (own other : List Occurrence) (e : Emitting)
      → Held t input split lists own other → Emits t met made out e → HoldsTurned t met split lists made out (turned_of input (sides own other e))
  turned_of_lem own other e h m = turned_by (eqb input 0) refl own other e h m

  -- one side comes back
  module _ (lists w : List (List ℕ)) (own other : List Occurrence) (h : Held t input split lists own other) (from to : ℕ) (many : length w ≡ to - from) where
    abbrev then : List (List ℕ)
    then = back from to lists w

    -- its own side, by whether that is the left
    own_by : (b : Bool) → eqb input 0 ≡ b → from ≡ pick b 0 split → to ≡ pick b split (length lists) → (own' : List Occurrence) → Waits t w own' → Held t input split then own' other
    own_by true e f g own' k =
        let halves = left_back split lists w h.inside (omega (arith, many, f, g)) in
        rw (f, g) (record {
          inside = omega (arith, length_back 0 split lists w (omega arith) h.inside (omega (arith, many, f, g)), h.inside);
          own-waits = rw (e, halves.0) k;
          other-waits = rw (e, halves.1) (rw e at h.other-waits);
        })
    own_by false e f g own' k =
        let halves = middle_back split lists w h.inside (length lists) refl (omega (arith, many, f, g)) in
        rw (f, g) (record {
          inside = omega (arith, length_back split (length lists) lists w h.inside (omega arith) (omega (arith, many, f, g)), h.inside);
          own-waits = rw (e, halves.1) k;
          other-waits = rw (e, halves.0) (rw e at h.other-waits);
        })

    pub own_back : from ≡ pick (eqb input 0) 0 split → to ≡ pick (eqb input 0) split (length lists) → (own' : List Occurrence) → Waits t w own' → Held t input split then own' other
    own_back f g own' k = own_by (eqb input 0) refl f g own' k

    -- the other
    other_by : (b : Bool) → eqb input 0 ≡ b → from ≡ pick (not b) 0 split → to ≡ pick (not b) split (length lists) → (other' : List Occurrence) → Waits t w other' → Held t input split then own other'
    other_by false e f g other' k =
        let halves = left_back split lists w h.inside (omega (arith, many, f, g)) in
        rw (f, g) (record {
          inside = omega (arith, length_back 0 split lists w (omega arith) h.inside (omega (arith, many, f, g)), h.inside);
          own-waits = rw (e, halves.1) (rw e at h.own-waits);
          other-waits = rw (e, halves.0) k;
        })
    other_by true e f g other' k =
        let halves = middle_back split lists w h.inside (length lists) refl (omega (arith, many, f, g)) in
        rw (f, g) (record {
          inside = omega (arith, length_back split (length lists) lists w h.inside (omega arith) (omega (arith, many, f, g)), h.inside);
          own-waits = rw (e, halves.0) (rw e at h.own-waits);
          other-waits = rw (e, halves.1) k;
        })

    pub other_back : from ≡ pick (not (eqb input 0)) 0 split → to ≡ pick (not (eqb input 0)) split (length lists) → (other' : List Occurrence) → Waits t w other'
        → Held t input split then own other'
    other_back f g other' k = other_by (eqb input 0) refl f g other' k

pub holds_as : {ticks globals : List ℕ} (t : Notes ticks globals) {met : Option Limit} {split : ℕ} {lists : List (List ℕ)} {made : Made} {out : List ℕ} {x : Turned}
    → HoldsTurned t met split lists made out x → (l : Option Limit) → met ≡ l → HoldsTurned t l split lists made out x
holds_as t h l e = record { waits = h.waits; emit = emits_as t h.emit l e }

-- ---- the append: what was made stays, and 31 where the list is full
appended_by : {ticks globals : List ℕ} (t : Notes ticks globals) {made : Made} {out : List ℕ} (e : Emitting) (b : Bool) → Emits t None made out e
    → Emits t (pick b (Some ListFull) None) made out (pick b (ended e ListFull) e)
appended_by t e true h = emits_ended t h ListFull
appended_by t e false h = h

pub appended_emits : {ticks globals : List ℕ} (t : Notes ticks globals) {made : Made} {out : List ℕ} (e : Emitting) (l : List Occurrence) (r : Option Limit)
    → Emits t None made out e → r ≡ full_limit l → Emits t r made out (pick (is_full l) (ended e ListFull) e)
appended_emits t e l r h k = emits_as t (appended_by t e (is_full l) h) r (sym k)

pub appended-is : (own other : List Occurrence) (e : Emitting) (o : Occurrence) → sides (appended_to own o) other (pick (is_full own) (ended e ListFull) e) ≡ appended own other e o
unfolding appended
appended-is own other e o = refl
