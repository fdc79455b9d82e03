-- The reader's sections and its whole: what each place of the code needs.
use mathlib.Core.Path.{◌≡◌, refl, sym, ap, ◌∙◌}
use mathlib.Core.Bool.{Bool, ◌&&◌, and-true, and-false, and_assoc}
use mathlib.Core.List.Memᴰ
use mathlib.Core.List.{List, [], ◌∷◌, ◌++◌}
use mathlib.Core.Logic.{⊎_elim, inl, inr}
use Prim.Native.Nat.{ℕ, ◌+◌, ◌-◌, ◌≤◌, ◌<◌}
use native.Mathlib.Numerals.{add-one}
use native.Mathlib.Omega.{arith}
use lib.ListN.{length}
use lib.Dec.{leb, ltb, leb-zero}
use borrow.Author.Tests.{lt-ltb, le-leb, ltb-true, leb-true}
use Rattle.sequences.specs.Members.{◌is_in◌}
use Rattle.sequences.specs.Select.{each_passes}
use Rattle.sequences.proofs.Booleans.{either_way, same_test}
use Rattle.sequences.proofs.Rising.{rising_snoc, rising-same}
use Rattle.sequences.proofs.Select.{all_of}
use Rattle.event_sets.specs.declared.EventSet.{EventSet}
use Rattle.event_sets.specs.Sets.{no_events, marked_with, elements}
use Rattle.event_sets.proofs.Members.{elements-none, elements-marked, elements-rising}
use Rattle.forms.specs.Bytes.{value_at}
use Rattle.forms.specs.Forms.{number}
use Rattle.forms.specs.Sections.{outside, Read, got, bad, piece, entries, section}
use Rattle.forms.specs.Views.{number_read, read_of, seen}
use Rattle.forms.specs.declared.NumberFault.{NumberFault}
use Rattle.forms.specs.declared.NumberFault.TheVariants.{CutShort, Outside}
use Rattle.std.specs.Prelude.{Ok, Err}
use Rattle.forms.proofs.Pieces.{piece-same, piece-got, piece_short, piece_is, seen_right, outside-none, number-piece}
use Rattle.forms.proofs.Sections.{entries_go, entries_stop, entries_end}
use Rattle.detections.specs.declared.Stamp.{Stamp}
use Rattle.detections.specs.Findings.{stamp}
use Rattle.readings.specs.Reader.{stamp_section, event_section, finding_at, found, not_found, read_finding}

-- ---- a number, as `forms` reads it
module _ (b : List ℕ) (at low high : ℕ) where
  pub number-got : (v : ℕ) → Ok v ≡ number_read 2 low high b at → got v (at + 2) ≡ piece (number 2) 1 (outside low high 1) b at
  number-got v e = ap (read_of 1 1 2 at) e ∙ number-piece 2 low high b at 1 1 (omega arith)

  pub number-bad : (f : NumberFault) → Err f ≡ number_read 2 low high b at → bad 1 at ≡ piece (number 2) 1 (outside low high 1) b at
  number-bad CutShort e = ap (read_of 1 1 2 at) e ∙ number-piece 2 low high b at 1 1 (omega arith)
  number-bad Outside e = ap (read_of 1 1 2 at) e ∙ number-piece 2 low high b at 1 1 (omega arith)

-- ---- stamps
pub stamp-value : (b : List ℕ) (at l t : ℕ) → l ≡ value_at 2 b at → t ≡ value_at 8 b (at + 2) → record { logger = l; tick = record { 0 = t } } ≡ stamp.value b at
stamp-value b at l t e f = λ i. record { logger = e i; tick = record { 0 = f i } }

-- one that is complete
pub stamp-read : (b : List ℕ) (at : ℕ) (v : Stamp) → at + 10 ≤ length b → v ≡ stamp.value b at → seen 0 v (at + 10) ≡ piece stamp 1 (λ s. 0) b at
stamp-read b at v h e = seen_right stamp 1 (λ s. 0) b at v h e refl

-- ---- events
-- a number above all elements comes after them
elements-more : (s : EventSet) (n : ℕ) → n < 128 → ((j : ℕ) → j is_in elements s → j < n) → elements (marked_with s n) ≡ elements s ++ (n ∷ [])
elements-more s n h k =
    rising-same (elements (marked_with s n)) (elements s ++ (n ∷ [])) (elements-rising (marked_with s n)) (rising_snoc (elements s) n (elements-rising s) k) (
      (λ j m. ⊎_elim (λ e. Memᴰ.append_right (elements s) (Memᴰ.head e)) (λ i. Memᴰ.append_left (n ∷ []) i) ((elements-marked s n j h).0 m)),
      (λ j m. (elements-marked s n j h).1 (⊎_elim (λ i. inr i) (λ i. inl (Memᴰ.eq_of_singleton i)) (Memᴰ.append_cases (elements s) m))),
    )

-- the next number: `least` is the least that is above those of l
abbrev pub Least : List ℕ → ℕ → Type 0
Least l least = (v : ℕ) → each_passes (λ m. ltb m v) l ≡ leb least v

all_snoc : (p : ℕ → Bool) (l : List ℕ) (n : ℕ) → each_passes p (l ++ (n ∷ [])) ≡ (each_passes p l && p n)
unfolding each_passes
all_snoc p [] n = and-true (p n)
all_snoc p (a ∷ l) n = rw (all_snoc p l n) (sym (and_assoc (p a) (each_passes p l) (p n)))

least_more : (l : List ℕ) (least n : ℕ) → Least l least → least ≤ n → Least (l ++ (n ∷ [])) (n + 1)
least_more l least n h k v =
    all_snoc (λ m. ltb m v) l n
    ∙ rw (h v, add-one)
    (⊎_elim
    (λ y. rw (y, le-leb least v (omega (arith, ltb-true n v y))))
    (λ z. rw z (and-false (leb least v)))
    (either_way (ltb n v)))

event-piece : (b l : List ℕ) (at least : ℕ) → Least l least → piece (number 2) 1 (outside least 127 1) b at ≡ piece (number 2) 1 (event_section.entry_fault l) b at
event-piece b l at least h =
    piece-same (number 2) 1 (outside least 127 1) (event_section.entry_fault l) b at
    (λ r. rw (
      h (value_at 2 b at),
      same_test (leb (value_at 2 b at) 127) (ltb (value_at 2 b at) 128)
          (λ e. lt-ltb (value_at 2 b at) 128 (omega (arith, leb-true (value_at 2 b at) 127 e)))
          (λ e. le-leb (value_at 2 b at) 127 (omega (arith, ltb-true (value_at 2 b at) 128 e))),
    ))

-- what is known once it was read
pub record NextEvent (b : List ℕ) (s : EventSet) (at v next : ℕ) : Type 0 where
  pub is : piece (number 2) 1 (event_section.entry_fault (elements s)) b at ≡ got v next
  pub more : elements (marked_with s v) ≡ elements s ++ (v ∷ [])
  pub least : Least (elements (marked_with s v)) (v + 1)

module _ (b : List ℕ) (s : EventSet) (least at : ℕ) (h : Least (elements s) least) where
  pub event-read : (v next : ℕ) → got v next ≡ piece (number 2) 1 (outside least 127 1) b at → NextEvent b s at v next
  event-read v next g =
      let r = outside-none least 127 v 1 (omega arith) (piece-got (number 2) 1 (outside least 127 1) b at v next (sym g)).right in
      let m = elements-more s v (omega (arith, r.1)) (λ j i. ltb-true j v (all_of (λ m. ltb m v) (elements s) (h v ∙ le-leb least v r.0) i)) in
      record {
        is = sym (event-piece b (elements s) at least h) ∙ sym g;
        more = m;
        least = rw m (least_more (elements s) least v h r.0);
      }

  -- of n events i are read, and the next one is not
  pub events_stop : (place n i : ℕ) (r : Read (List ℕ)) → bad 1 place ≡ piece (number 2) 1 (outside least 127 1) b at
      → i < n → entries event_section (n - i) (elements s) b at ≡ r → bad 1 place ≡ r
  events_stop place n i r e k inv =
      sym (entries_stop event_section b n i (elements s) at 1 place k (sym (event-piece b (elements s) at least h) ∙ sym e)) ∙ inv

-- ---- a loop that marks the events in a set: of n, i are read
pub events-none : (s : EventSet) → s ≡ no_events → (elements s ≡ []) × Least (elements s) 0
unfolding each_passes
events-none s e =
    let n : elements s ≡ [] = ap elements e ∙ elements-none in
    (n, λ v. rw n (sym (leb-zero v)))

module _ (b : List ℕ) (n i : ℕ) (s : EventSet) (at : ℕ) (r : Read (List ℕ)) (inv : entries event_section (n - i) (elements s) b at ≡ r) where
  pub events_go : (s' : EventSet) (v next : ℕ) → i < n → NextEvent b s at v next → s' ≡ marked_with s v
      → Least (elements s') (v + 1) × (entries event_section (n - (i + 1)) (elements s') b next ≡ r)
  events_go s' v next h N e = (
    rw e N.least,
    rw (e, N.more) (sym (entries_go event_section b n i (elements s) at v next h N.is) ∙ inv),
  )

  pub events_done : n ≤ i → got (elements s) at ≡ r
  events_done h = sym (entries_end event_section b n i (elements s) at h) ∙ inv

-- ---- the whole
module _ (b : List ℕ) (at : ℕ) where
  pub node-cut : length b < at + 2 → not_found at ≡ read_finding b at
  unfolding read_finding finding_at
  node-cut h = rw (piece_short (number 2) 1 (λ node. 0) b at h)

  module _ (node : ℕ) (h : at + 2 ≤ length b) (e : node ≡ value_at 2 b at) where
    node-got : piece (number 2) 1 (λ node. 0) b at ≡ got node (at + 2)
    node-got = piece_is (number 2) 1 (λ node. 0) b at node h (sym e) refl

    pub bad-stamps : (place : ℕ) → bad 1 place ≡ section stamp_section b (at + 2) → not_found place ≡ read_finding b at
    unfolding read_finding finding_at
    bad-stamps place s = rw (node-got, sym s)

    module _ (ss : List Stamp) (at₂ : ℕ) (s : got ss at₂ ≡ section stamp_section b (at + 2)) where
      pub bad-events : (place : ℕ) → bad 1 place ≡ section event_section b at₂ → not_found place ≡ read_finding b at
      unfolding read_finding finding_at
      bad-events place t = rw (node-got, sym s, sym t)

      pub whole-finding : (es : List ℕ) (at₃ : ℕ) → got es at₃ ≡ section event_section b at₂ → found (record { node = node; stamps = ss; events = es }) at₃ ≡ read_finding b at
      unfolding read_finding finding_at
      whole-finding es at₃ t = rw (node-got, sym s, sym t)
