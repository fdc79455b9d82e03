-- Writing and reading: what was written is read back, and what is read is a finding that stands there. The findings that the code
-- writes are within the reader's limits.
use mathlib.Core.Path.{◌≡◌, refl, sym, ap, subst, subst₂, ◌∙◌}
use mathlib.Core.Bool.{true, true≢false}
use mathlib.Core.List.Memᴰ
use mathlib.Core.List.{List, [], ◌∷◌, ◌++◌, append_assoc}
use mathlib.Core.Logic.{⊎_elim}
use Prim.Native.Nat.{ℕ, ◌+◌, ◌≤◌, ◌<◌}
use native.Mathlib.Omega.{arith}
use lib.ListN.{length, take, drop, length-append, length-map}
use lib.Seq.{take-add}
use lib.Dec.{ltb}
use borrow.Author.Tests.{lt-ltb, ltb-true}
use Rattle.sequences.specs.Members.{◌is_in◌}
use Rattle.sequences.specs.Select.{each_passes}
use Rattle.sequences.proofs.Booleans.{and_left, and_right, and_both}
use Rattle.sequences.proofs.Members.{map_of}
use Rattle.sequences.proofs.Select.{all_in, all_of}
use Rattle.timestamps.specs.declared.Timestamp.{Timestamp}
use Rattle.timestamps.specs.declared.CompositeTimestamp.{CompositeTimestamp}
use Rattle.timestamps.specs.Composite.{members}
use Rattle.event_sets.specs.declared.EventSet.{EventSet}
use Rattle.event_sets.specs.Sets.{size_of}
use Rattle.sequences.specs.Range.{Rising}
use Rattle.event_sets.proofs.Members.{elements-below, elements-rising, size-most}
use Rattle.forms.specs.Bytes.{big_endian, Bytes}
use Rattle.forms.specs.Forms.{number, section_bytes}
use Rattle.forms.specs.Sections.{Read, got, bad, then, piece, section}
use Rattle.forms.proofs.Forms.{number_laws}
use Rattle.forms.proofs.Pieces.{piece-got, piece_is, unless-none}
use Rattle.forms.proofs.Layouts.{Fine, then-got, section-laid, section-read, rest, room}
use Rattle.detections.specs.declared.Stamp.{Stamp}
use Rattle.detections.specs.Findings.{Finding, StampFits, FindingFits, stamp, finding_bytes}
use Rattle.readings.specs.Reader.{WithinLimits, stamp_section, is_next, event_section, finding_at, FindingAnswer, found, answered, read_finding}
use Rattle.detections.specs.Views.{written, finding_of}
use Rattle.detections.specs.Writing.{Wrote}
use Rattle.detections.proofs.Sizes.{stamp_laws, length_two}
use Rattle.detections.proofs.Stamps.{members-most}
use Rattle.detections.proofs.Writing.{wrote_there, wrote_length}

-- ---- the limits
pub within-fits : (f : Finding) → WithinLimits f → FindingFits f
within-fits f w =
    record {
      node = w.node;
      stamp-count = omega (arith, w.stamp-count);
      stamps = w.stamps;
      event-count = omega (arith, w.event-count);
      events = λ n m. omega (arith, w.events n m);
    }

-- a finding of the code's values keeps them, where the node and the numbers of the loggers fit two bytes
pub finding-within : (loggers : List ℕ) (node : ℕ) (c : CompositeTimestamp) (s : EventSet) → node < 65536
    → ((t : Timestamp) → t is_in members c → StampFits (written loggers t)) → WithinLimits (finding_of loggers node c s)
unfolding finding_of size_of
finding-within loggers node c s h k =
    record {
      node = h;
      stamp-count = omega (arith, members-most c, length-map (members c) (written loggers));
      stamps = λ t m. let (u, i, e) = map_of (written loggers) (members c) m in subst StampFits (sym e) (k u i);
      event-count = size-most s;
      events = elements-below s;
      rising = elements-rising s;
    }

-- ---- the limits, as the sections have them
stamps_fine : (p l : List Stamp) → ((s : Stamp) → s is_in l → StampFits s) → Fine stamp_section p l
unfolding Fine
stamps_fine p [] h = tt
stamps_fine p (a ∷ l) h =
    let f = h a (Memᴰ.head refl) in
    ((f.logger, f.tick), refl, stamps_fine (p ++ (a ∷ [])) l (λ s m. h s (Memᴰ.tail m)))

fine_stamps : (p l : List Stamp) → Fine stamp_section p l → (s : Stamp) → s is_in l → StampFits s
unfolding Fine
fine_stamps p [] h s m = absurd (Memᴰ.not-nil m)
fine_stamps p (a ∷ l) h s m =
    ⊎_elim
    (λ e. subst StampFits (sym e) (record { logger = h.0.0; tick = h.0.1 }))
    (λ i. fine_stamps (p ++ (a ∷ [])) l h.2 s i)
    (Memᴰ.cases_cons m)

-- what follows those of p
record Follow (p l : List ℕ) : Type 0 where
  after : (m n : ℕ) → m is_in p → n is_in l → m < n
  small : (n : ℕ) → n is_in l → n < 128
  rising : Rising l

events_fine : (p l : List ℕ) → Follow p l → Fine event_section p l
unfolding Fine Rising
events_fine p [] h = tt
events_fine p (a ∷ l) h =
    let small = h.small a (Memᴰ.head refl) in
    let next : is_next p a ≡ true = and_both _ _ (all_in (λ m. ltb m a) p (λ m i. lt-ltb m a (h.after m a i (Memᴰ.head refl)))) (lt-ltb a 128 small) in (
      omega (arith, small),
      rw next,
      events_fine (p ++ (a ∷ [])) l (record {
        after = λ m n i j. ⊎_elim (λ x. h.after m n x (Memᴰ.tail j)) (λ y. subst (λ b. b < n) (sym (Memᴰ.eq_of_singleton y)) (h.rising.0 n j)) (Memᴰ.append_cases p i);
        small = λ n j. h.small n (Memᴰ.tail j);
        rising = h.rising.1;
      }),
    )

fine_events : (p l : List ℕ) → Fine event_section p l → Follow p l
unfolding Fine Rising
fine_events p [] h = record { after = λ m n i j. absurd (Memᴰ.not-nil j); small = λ n j. absurd (Memᴰ.not-nil j); rising = tt }
fine_events p (a ∷ l) h =
    let next : is_next p a ≡ true = (unless-none (is_next p a) 1 0 (omega arith) h.1).0 in
    let t = fine_events (p ++ (a ∷ [])) l h.2 in
    record {
      after = λ m n i j. ⊎_elim
          (λ e. subst (λ b. m < b) (sym e) (ltb-true m a (all_of (λ m. ltb m a) p (and_left (each_passes (λ m. ltb m a) p) (ltb a 128) next) i)))
          (λ k. t.after m n (Memᴰ.append_left (a ∷ []) i) k)
          (Memᴰ.cases_cons j);
      small = λ n j. ⊎_elim (λ e. subst (λ b. b < 128) (sym e) (ltb-true a 128 (and_right (each_passes (λ m. ltb m a) p) (ltb a 128) next))) (λ k. t.small n k) (Memᴰ.cases_cons j);
      rising = ((λ n j. t.after a n (Memᴰ.append_right p (Memᴰ.head refl)) j), t.rising);
    }

-- ---- what is laid out is read, whatever follows
pub laid_out_is_read : (f : Finding) (b y : List ℕ) (at : ℕ) → WithinLimits f → at ≤ length b → drop at b ≡ finding_bytes f ++ y
    → read_finding b at ≡ found f (at + length (finding_bytes f))
unfolding read_finding finding_at finding_bytes
laid_out_is_read f b y at w h e =
    let N : List ℕ = big_endian 2 f.node in
    let S : List ℕ = section_bytes stamp f.stamps in
    let E : List ℕ = section_bytes (number 2) f.events in
    let e₁ : drop at b ≡ N ++ (S ++ (E ++ y)) = simp append_assoc at e in
    let n₁ : at + length N ≤ length b = room b N (S ++ (E ++ y)) at h e₁ in
    let two = length_two f.node in
    let r₁ : piece (number 2) 1 (λ node. 0) b at ≡ got f.node (at + 2) =
    piece_is (number 2) 1 (λ node. 0) b at f.node (omega arith) ((number_laws 2).back f.node b (S ++ (E ++ y)) at w.node e₁) refl in
    let e₂ : drop (at + 2) b ≡ S ++ (E ++ y) = rw two at (rest b N (S ++ (E ++ y)) at e₁) in
    let n₂ : at + 2 ≤ length b = omega arith in
    let r₂ = section-read stamp_section stamp_laws b (at + 2) f.stamps (E ++ y) n₂ (omega arith)
    (record { least = omega arith; most = w.stamp-count; fine = stamps_fine [] f.stamps w.stamps }) e₂ in
    let e₃ : drop (at + 2 + length S) b ≡ E ++ y = rest b S (E ++ y) (at + 2) e₂ in
    let n₃ : at + 2 + length S ≤ length b = room b S (E ++ y) (at + 2) n₂ e₂ in
    let follow : Follow [] f.events = record { after = λ m n i j. absurd (Memᴰ.not-nil i); small = w.events; rising = w.rising } in
    let r₃ = section-read event_section (number_laws 2) b (at + 2 + length S) f.events y n₃ (omega arith)
    (record { least = omega arith; most = w.event-count; fine = events_fine [] f.events follow }) e₃ in
    let n : at + 2 + length S + length E ≡ at + length (N ++ S ++ E) = omega (arith, length-append (N ++ S) E, length-append N S) in
    rw (r₁, r₂, r₃, n)

-- reading what was written gives the finding and the place after it
pub written-is-read : (f : Finding) (l l' : List ℕ) (at r : ℕ) → WithinLimits f → at + length (finding_bytes f) ≤ length l → Wrote l at (finding_bytes f) r l'
    → read_finding l' at ≡ found f r
written-is-read f l l' at r w h v =
    let n = wrote_length h v in
    laid_out_is_read f l' (drop r l) at w (omega arith) (wrote_there (omega arith) v) ∙ ap (found f) (sym v.next)

pub detection_is_read : (loggers : List ℕ) (node : ℕ) (c : CompositeTimestamp) (s : EventSet) (l l' : List ℕ) (at r : ℕ) → node < 65536
    → ((t : Timestamp) → t is_in members c → StampFits (written loggers t))
    → at + length (finding_bytes (finding_of loggers node c s)) ≤ length l → Wrote l at (finding_bytes (finding_of loggers node c s)) r l'
    → read_finding l' at ≡ found (finding_of loggers node c s) r
detection_is_read loggers node c s l l' at r h k fit w = written-is-read (finding_of loggers node c s) l l' at r (finding-within loggers node c s h k) fit w

-- ---- what is read is laid out
read-got : (b : List ℕ) (at : ℕ) (f : Finding) (next : ℕ) → read_finding b at ≡ found f next → finding_at b at ≡ got f next
unfolding read_finding
read-got b at f next h = go (finding_at b at) h
  where
    go : (r : Read Finding) → answered r ≡ found f next → r ≡ got f next
    go (got g m) h =
        let i : g ≡ f = ap (λ (a : FindingAnswer). a.finding) h in
        let j : m ≡ next = ap (λ (a : FindingAnswer). a.next) h in
        rw (i, j)
    go (bad k m) h = absurd (true≢false (sym (ap (λ (a : FindingAnswer). a.whole) h)))

module _ (b : List ℕ) (at : ℕ) where
  abbrev Laid : Finding → ℕ → Type 0
  Laid f next = (take next b ≡ take at b ++ finding_bytes f) × WithinLimits f

  module _ (B : Bytes b) (node at₁ : ℕ) (ss : List Stamp) (at₂ : ℕ) (es : List ℕ) (at₃ : ℕ) (n : piece (number 2) 1 (λ node. 0) b at ≡ got node at₁)
      (s : section stamp_section b at₁ ≡ got ss at₂) (t : section event_section b at₂ ≡ got es at₃) where
    parts_laid : Laid (record { node = node; stamps = ss; events = es }) at₃
    unfolding finding_bytes
    parts_laid =
        let p = piece-got (number 2) 1 (λ node. 0) b at node at₁ n in
        let x₁ : take at₁ b ≡ take at b ++ big_endian 2 node =
        ap (λ k. take k b) (sym p.after) ∙ take-add at 2 b ∙ ap (λ l. take at b ++ l) (sym ((number_laws 2).forth b at B p.room) ∙ ap (big_endian 2) p.is) in
        let x₂ = section-laid b B stamp_section stamp_laws at₁ ss at₂ (take at b ++ big_endian 2 node) (omega arith) x₁ s in
        let x₃ = section-laid b B event_section (number_laws 2) at₂ es at₃ (take at b ++ big_endian 2 node ++ section_bytes stamp ss) (omega arith) x₂.0 t in
        let follow = fine_events [] es x₃.1.fine in (
          simp append_assoc (simp append_assoc at x₃.0),
          record {
            node = subst (λ k. k < 65536) p.is ((number_laws 2).fit b at B p.room);
            stamp-count = x₂.1.most;
            stamps = fine_stamps [] ss x₂.1.fine;
            event-count = x₃.1.most;
            events = follow.small;
            rising = follow.rising;
          },
        )

  after_stamps : ℕ → List Stamp → ℕ → Read Finding
  after_stamps node ss at₂ = then (section event_section b at₂) (λ es at₃. got (record { node = node; stamps = ss; events = es }) at₃)

  after_node : ℕ → ℕ → Read Finding
  after_node node at₁ = then (section stamp_section b at₁) (after_stamps node)

  pub read_is_laid_out : (f : Finding) (next : ℕ) → Bytes b → read_finding b at ≡ found f next → (take next b ≡ take at b ++ finding_bytes f) × WithinLimits f
  unfolding finding_at after_stamps after_node
  read_is_laid_out f next B h =
      let (node, at₁, n, k) = then-got (piece (number 2) 1 (λ node. 0) b at) after_node f next (read-got b at f next h) in
      let (ss, at₂, s, m) = then-got (section stamp_section b at₁) (after_stamps node) f next k in
      let (es, at₃, t, o) = then-got (section event_section b at₂) (λ es at₃. got (record { node = node; stamps = ss; events = es }) at₃) f next m in
      let g : Finding = record { node = node; stamps = ss; events = es } in
      let e : g ≡ f = cc in
      let q : at₃ ≡ next = cc in
      subst₂ Laid {x = g} e q (parts_laid B node at₁ ss at₂ es at₃ n s t)
