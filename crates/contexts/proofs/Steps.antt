-- What each function's steps come to.
use Rattle.std.proofs.Common.{◌≡◌, ℕ, zero, suc, ◌+◌, ◌<◌, ◌≤◌, Bool, true, false, not, ◌&&◌, eqb, List, [], ◌∷◌, map, length, get_or, take, drop, set, replicate, sym, refl, ap, ◌∙◌, subst, arith, get_or-set_other, get_or-set_same, eq-eqb, ne_eqb}
use mathlib.Core.Bool.{and-false}
use mathlib.Core.List.{zip_with}
use denote.Enum.Bare.{sameb}
use native.Mathlib.Decide.{ℕ_discrete}
use lib.Bits.{bit_and, bit_xor}
use lib.ListN.{length-map}
use Rattle.sequences.specs.Choice.{pick}
use Rattle.sequences.specs.Loops.{fold}
use Rattle.sequences.specs.Marks.{marked, padded}
use Rattle.sequences.specs.Select.{some_passes}
use Rattle.sequences.proofs.Arrays.{get_or_zip, length_zip}
use Rattle.sequences.proofs.Parts.{get_or_map}
use Rattle.sequences.proofs.Marks.{any_marked_no, any_marked_yes, fold-marked, padded-start}
use Rattle.sequences.proofs.Select.{any_none}
use Rattle.timestamps.specs.declared.Note.{Note}
use Rattle.timestamps.specs.declared.GlobalTick.{GlobalTick}
use Rattle.timestamps.specs.declared.Order.{Order}
use Rattle.timestamps.specs.declared.Order.TheVariants.{Incomparable, Before, After, Concurrent}
use Rattle.timestamps.specs.contracts.Order.{the_type}
use Rattle.timestamps.specs.Comparison.{order_number, same_order}
use Rattle.timestamps.specs.Composite.{IsComposite, members}
use Rattle.timestamps.specs.Order.{Clocks}
use Rattle.occurrences.specs.declared.Occurrence.{Occurrence}
use Rattle.occurrences.specs.Occurrences.{is_before, no_occurrence, occurrence_order}
use Rattle.occurrences.specs.Steps.{LowestOf}
use Rattle.occurrences.proofs.Orders.{after_turned, not_before_itself}
use Rattle.occurrences.proofs.Steps.{next_place}
use Rattle.waiting_lists.specs.declared.WaitingList.{WaitingList}
use Rattle.waiting_lists.specs.Lists.{list_of, place_in}
use Rattle.waiting_lists.specs.Marks.{marks_of}
use Rattle.waiting_lists.proofs.Marks.{length_marks, marks_and, marks_less, marks_turn, padded-next}
use Rattle.contexts.specs.Choice.{and_candidates, removed_of, removes, taken_of, takes}
use Rattle.contexts.specs.Steps.{Lows, bars_by, bars_of, no_tick}
use Rattle.contexts.specs.Table.{Taken, latest, earliest, every, untaken, taken, all}

-- ---- one candidate against another
-- a test of one that is marked, and of one that is not
pub marked_on : (b x r : Bool) → b ≡ true → r ≡ x → r ≡ (b && x)
marked_on b x r e f = rw e f

pub unmarked_off : (b x r : Bool) → b ≡ false → r ≡ b → r ≡ (b && x)
unmarked_off b x r e f = f ∙ rw e

-- words are compared by `==` in the code, and by their numbers in the definitions
pub is-before : (word : Order) → sameb the_type word Before ≡ same_order word Before
unfolding same_order order_number
is-before Incomparable = refl
is-before Before = refl
is-before After = refl
is-before Concurrent = refl

pub is-after : (word : Order) → sameb the_type word After ≡ same_order word After
unfolding same_order order_number
is-after Incomparable = refl
is-after Before = refl
is-after After = refl
is-after Concurrent = refl

-- so the word of a to b tells whether a is before b
pub before_told : (clocks : Clocks) (a b : Occurrence) (word : Order) (r : Bool) → r ≡ sameb the_type word Before → word ≡ occurrence_order clocks a b → r ≡ is_before clocks a b
unfolding is_before
before_told clocks a b word r e is = e ∙ is-before word ∙ ap (λ v. same_order v Before) is

-- the word of w to c tells whether c keeps w from being taken
pub word_tells : (t : Taken) (clocks : Clocks) (w c : Occurrence) → IsComposite clocks (members w.latest) → bars_by t (occurrence_order clocks w c) ≡ bars_of t clocks w c
unfolding bars_by bars_of is_before
word_tells latest clocks w c h = refl
word_tells earliest clocks w c h = after_turned clocks w c h
word_tells every clocks w c h = refl

-- the lowest of one more
pub lows_turn : (notes : List Note) (w : List (List ℕ)) (lows : List GlobalTick) (list : WaitingList) (i place : ℕ) (v : GlobalTick) → list ≡ list_of w → place ≡ place_in list.order i + 1 → i < length lows
    → LowestOf notes (get_or w place []) v.0 → Lows notes w i lows → Lows notes w (i + 1) (set lows i v)
lows_turn notes w lows list i place v is p h e l =
    let q : place ≡ place_in (list_of w).order i + 1 = p ∙ ap (λ (x : WaitingList). place_in x.order i + 1) is in
    next_place (λ j. LowestOf notes (get_or w (place_in (list_of w).order j + 1) []) (get_or (set lows i v) j no_tick).0) i
    (λ j m. rw (get_or-set_other lows i j v no_tick (λ d. omega (arith, d, m))) (l j m))
    (rw (get_or-set_same lows i v no_tick h, ← q) e)

-- what is kept of one that the code reads
pub lows_at : (notes : List Note) (w : List (List ℕ)) (lows : List GlobalTick) (list : WaitingList) (n i place : ℕ) → list ≡ list_of w → place ≡ place_in list.order i + 1 → i < n → Lows notes w n lows
    → LowestOf notes (get_or w place []) (get_or lows i no_tick).0
lows_at notes w lows list n i place is p h l =
    let q : place ≡ place_in (list_of w).order i + 1 = p ∙ ap (λ (x : WaitingList). place_in x.order i + 1) is in
    subst (λ (m : ℕ). LowestOf notes (get_or w m []) (get_or lows i no_tick).0) (sym q) (l i h)

-- a candidate is taken where no candidate bars it
pub takes_unbarred : (t : Taken) (clocks : Clocks) (candidates : List Occurrence) (w : Occurrence) → not (some_passes (bars_of t clocks w) candidates) ≡ takes t clocks candidates w
unfolding bars_of takes
takes_unbarred latest clocks candidates w = refl
takes_unbarred earliest clocks candidates w = refl
takes_unbarred every clocks candidates w = rw (any_none (λ c. false) candidates (λ c m. refl))

-- ---- marks that a loop fills, for 16 places
module _ (l : List Occurrence) (m : List Bool) (i : ℕ) (in_list : i < length l) (few : length l ≤ 16) where
  -- a test of each
  pub tested_turn : (p : Occurrence → Bool) (r : List Bool) (v : Bool) → m ≡ padded 16 (take i (map p l)) → v ≡ p (get_or l i no_occurrence) → r ≡ pick v (set m i true) m
      → r ≡ padded 16 (take (i + 1) (map p l))
  tested_turn p r v e f g = marks_turn (map p l) m r i v (omega (arith, length-map l p)) (omega (arith, length-map l p)) e (f ∙ sym (get_or_map p l i no_occurrence false in_list)) g

  -- a test of each with its mark
  pub zipped_turn : (f : Occurrence → Bool → Bool) (marks r : List Bool) (mark v : Bool) → length marks ≡ 16 → m ≡ padded 16 (take i (zip_with f l marks))
      → mark ≡ get_or marks i false → v ≡ f (get_or l i no_occurrence) mark → r ≡ pick v (set m i true) m → r ≡ padded 16 (take (i + 1) (zip_with f l marks))
  zipped_turn f marks r mark v h e is g t =
      let k : length (zip_with f l marks) ≡ length l = length_zip f l marks (omega arith) in
      marks_turn (zip_with f l marks) m r i v (omega arith) (omega arith) e (g ∙ ap (f (get_or l i no_occurrence)) is ∙ sym (get_or_zip f l marks i no_occurrence false false in_list (omega arith))) t

-- ---- a loop over the places of a list
module _ (l : List Occurrence) (m : List Bool) (i : ℕ) (in_l : i < length l) (in-m : i < length m) where
  module _ (p : Occurrence → Bool) (r : Bool) (told : (get_or m i false && p (get_or l i no_occurrence)) ≡ r) where
    pub found_here : r ≡ true → some_passes p (marked (drop i l) (drop i m)) ≡ true
    found_here e = any_marked_yes l m i no_occurrence in_l in-m p (told ∙ e)

    pub not-here : r ≡ false → some_passes p (marked (drop i l) (drop i m)) ≡ some_passes p (marked (drop (i + 1) l) (drop (i + 1) m))
    not-here e = any_marked_no l m i no_occurrence in_l in-m p (told ∙ e)

  module _ {S : Type 0} (f : S → Occurrence → S) (s : S) where
    pub combined_yes : (r : S) → get_or m i false ≡ true → r ≡ f s (get_or l i no_occurrence)
        → fold f (marked (drop (i + 1) l) (drop (i + 1) m)) r ≡ fold f (marked (drop i l) (drop i m)) s
    combined_yes r y e = ap (fold f (marked (drop (i + 1) l) (drop (i + 1) m))) (rw y e) ∙ fold-marked l m i no_occurrence in_l in-m f s

    pub combined_no : get_or m i false ≡ false
        → fold f (marked (drop (i + 1) l) (drop (i + 1) m)) s ≡ fold f (marked (drop i l) (drop i m)) s
    combined_no n = ap (fold f (marked (drop (i + 1) l) (drop (i + 1) m))) (rw n) ∙ fold-marked l m i no_occurrence in_l in-m f s

-- ---- one candidate against itself: with a stamp it does not keep itself from being taken
pub bars_itself : (t : Taken) (clocks : Clocks) (w : Occurrence) → IsComposite clocks (members w.latest) → bars_of t clocks w w ≡ false
unfolding bars_of
bars_itself latest clocks w c = not_before_itself clocks w c.some.1
bars_itself earliest clocks w c = not_before_itself clocks w c.some.1
bars_itself every clocks w c = refl

-- so the others decide
pub others_tell : (p : Occurrence → Bool) (l : List Occurrence) (i j : ℕ) (mark is r : Bool) → p (get_or l i no_occurrence) ≡ false → is ≡ (not (eqb i j) && mark) → r ≡ (is && p (get_or l j no_occurrence))
    → (mark && p (get_or l j no_occurrence)) ≡ r
others_tell p l i j mark is r own e f = elim (ℕ_discrete i j) [
  | yes q ↦ (let z : p (get_or l j no_occurrence) ≡ false = ap (λ k. p (get_or l k no_occurrence)) (sym q) ∙ own in
      let y : is ≡ false = e ∙ rw (eq-eqb i j q) in rw (z, and-false mark) (sym (rw (y) at f)))
  | no n ↦ (let y : is ≡ mark = e ∙ rw (ne_eqb i j n) in rw (← y) (sym f))
]

-- as many marks as wait
pub all_marks : (n : ℕ) (waiting : List Occurrence) → n ≡ length waiting → padded 16 (replicate n true) ≡ and_candidates waiting
unfolding and_candidates
all_marks n waiting e = rw e (ap (padded 16) (each_true waiting))
  where
    each_true : (l : List Occurrence) → replicate (length l) true ≡ map (λ w. true) l
    each_true [] = refl
    each_true (w ∷ l) = ap (λ m. true ∷ m) (each_true l)

-- every candidate that waits is taken
none-taken : (k : ℕ) (m : List Bool) → length m ≡ k → zip_with ◌&&◌ m (replicate k false) ≡ replicate k false
unfolding zip_with
none-taken zero [] h = refl
none-taken zero (b ∷ m) h = absurd (omega arith)
none-taken (suc k) [] h = absurd (omega arith)
none-taken (suc k) (b ∷ m) h = rw (and-false b) (ap (λ r. false ∷ r) (none-taken k m (omega arith)))

pub all_taken : {A : Type 0} (n : ℕ) (l : List A) (m : List Bool) → length m ≡ n → length l ≤ n
    → zip_with ◌&&◌ m (padded n (map (λ w. true) l)) ≡ padded n (zip_with (λ w c. c && true) l m)
unfolding zip_with
all_taken n [] m h k = ap (zip_with ◌&&◌ m) (sym (padded-start n)) ∙ none-taken n m h ∙ padded-start n
all_taken n (a ∷ l) [] h k = absurd (omega arith)
all_taken zero (a ∷ l) (b ∷ m) h k = absurd (omega arith)
all_taken (suc n) (a ∷ l) (b ∷ m) h k =
    ap (zip_with ◌&&◌ (b ∷ m)) (padded-next n true (map (λ w. true) l))
    ∙ ap (λ r. (b && true) ∷ r) (all_taken n l m (omega arith) (omega arith))
    ∙ sym (padded-next n (b && true) (zip_with (λ w c. c && true) l m))

pub every_taken : (clocks : Clocks) (waiting : List Occurrence) (c r : ℕ) → length waiting ≤ 16 → marks_of r ≡ and_candidates waiting
    → marks_of (bit_and c r) ≡ taken_of every clocks waiting (marks_of c)
unfolding and_candidates taken_of takes
every_taken clocks waiting c r few e = marks_and c r ∙ ap (zip_with ◌&&◌ (marks_of c)) e ∙ all_taken 16 waiting (marks_of c) (length_marks c) few

-- ---- the choice
-- one of two rows of marks
zip_left : (a b : List Bool) → length a ≡ length b → zip_with (λ x y. x) a b ≡ a
unfolding zip_with
zip_left [] b e = refl
zip_left (x ∷ a) [] e = absurd (omega arith)
zip_left (x ∷ a) (y ∷ b) e = ap (λ r. x ∷ r) (zip_left a b (omega arith))

zip_right : (a b : List Bool) → length a ≡ length b → zip_with (λ x y. y) a b ≡ b
unfolding zip_with
zip_right [] [] e = refl
zip_right [] (y ∷ b) e = absurd (omega arith)
zip_right (x ∷ a) [] e = absurd (omega arith)
zip_right (x ∷ a) (y ∷ b) e = ap (λ r. y ∷ r) (zip_right a b (omega arith))

module _ (c t : ℕ) where
  as_long : length (marks_of c) ≡ length (marks_of t)
  as_long = length_marks c ∙ sym (length_marks t)

  pub removed_untaken : marks_of (bit_xor c (bit_and c t)) ≡ removed_of untaken (marks_of c) (marks_of t)
  unfolding removed_of removes
  removed_untaken = marks_less c t

  pub removed-taken : marks_of t ≡ removed_of taken (marks_of c) (marks_of t)
  unfolding removed_of removes
  removed-taken = sym (zip_right (marks_of c) (marks_of t) as_long)

  pub removed_all : marks_of c ≡ removed_of all (marks_of c) (marks_of t)
  unfolding removed_of removes
  removed_all = sym (zip_left (marks_of c) (marks_of t) as_long)
