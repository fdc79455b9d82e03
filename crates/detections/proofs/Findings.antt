-- The finding of an occurrence: its size, and its parts as they are written.
use mathlib.Core.Path.{◌≡◌, refl, sym, ◌∙◌}
use mathlib.Core.List.{List, ◌++◌, map, append_assoc}
use Prim.Native.Nat.{ℕ, ◌+◌, ◌-◌, ◌*◌, ◌≤◌}
use native.Mathlib.Omega.{arith}
use lib.ListN.{length, length-append, length-map}
use Rattle.timestamps.specs.Composite.{members}
use Rattle.occurrences.specs.declared.Occurrence.{Occurrence}
use Rattle.event_sets.specs.Sets.{elements, size_of}
use Rattle.event_sets.proofs.Members.{size-most}
use Rattle.forms.specs.Bytes.{big_endian}
use Rattle.forms.specs.Forms.{Form, number, each, section_bytes}
use Rattle.forms.proofs.Forms.{Laws, length-each}
use Rattle.detections.specs.Findings.{Finding, stamp, finding_bytes}
use Rattle.detections.specs.Views.{written, finding_of}
use Rattle.detections.specs.Writing.{Wrote}
use Rattle.detections.proofs.Sizes.{length-finding, length_two}
use Rattle.detections.proofs.Stamps.{members-most}
use Rattle.detections.proofs.Writing.{Writes, writes_start, writes_room, writes_turn, wrote_front, wrote_length}

-- ---- a section at a place of an output: the entries first, and then their count in front of them
module _ {A : Type 0} (f : Form A) (L : Laws f) (l : List A) (out : List ℕ) (at : ℕ) (fit : at + length (section_bytes f l) ≤ length out) where
  entries-length : length (section_bytes f l) ≡ 2 + length (each f l)
  unfolding section_bytes
  entries-length = length-append (big_endian 2 (length l)) (each f l) ∙ omega (arith, length_two (length l))

  pub entries-room : at + 2 + length (each f l) ≤ length out
  entries-room = omega (arith, fit, entries-length)

  module _ {to : ℕ} {out₁ : List ℕ} (w : Wrote out (at + 2) (each f l) to out₁) where
    pub entries_from : at + 2 ≤ to
    entries_from = omega (arith, w.next)

    pub count_room : at + 2 ≤ length out₁
    count_room = omega (arith, entries-room, wrote_length entries-room w)

    -- as many as their bytes say
    pub entries-counted : to - (at + 2) ≡ f.width * length l
    entries-counted = omega (arith, w.next, length-each f L l)

    pub section_done : {n r : ℕ} {out₂ : List ℕ} → n ≡ length l → Wrote out₁ at (big_endian 2 n) r out₂ → Wrote out at (section_bytes f l) to out₂
    unfolding section_bytes
    section_done {n} {r} e v = wrote_front {bs = big_endian 2 (length l)} {r₂ = r} (omega (arith, length_two (length l))) (omega (arith, entries-room)) w (rw (sym e) v)

-- ---- how many bytes the finding of an occurrence takes
module _ (loggers : List ℕ) (node : ℕ) (o : Occurrence) where
  -- as many stamps and events
  stamps-counted : length (finding_of loggers node o.latest o.events).stamps ≡ length (members o.latest)
  unfolding finding_of
  stamps-counted = length-map (members o.latest) (written loggers)

  events-counted : length (finding_of loggers node o.latest o.events).events ≡ size_of o.events
  unfolding finding_of size_of
  events-counted = refl

  -- what is the size of every finding with so many is that of this one
  pub finding-size : {n e r : ℕ} → n ≡ length (members o.latest) → e ≡ size_of o.events
      → ((f : Finding) → length f.stamps ≡ n → length f.events ≡ e → r ≡ length (finding_bytes f)) → r ≡ length (finding_bytes (finding_of loggers node o.latest o.events))
  finding-size h k size = size (finding_of loggers node o.latest o.events) (stamps-counted ∙ sym h) (events-counted ∙ sym k)

  pub finding-most : length (finding_bytes (finding_of loggers node o.latest o.events)) ≤ 342
  finding-most = omega (arith, length-finding (finding_of loggers node o.latest o.events), stamps-counted, events-counted, members-most o.latest, size-most o.events)

  -- ---- its parts, one after the other, where all of it fits: each part has room, and after the last all is written
  abbrev whole : List ℕ
  whole = finding_bytes (finding_of loggers node o.latest o.events)

  abbrev stamp_section : List ℕ
  stamp_section = section_bytes stamp (map (written loggers) (members o.latest))

  abbrev event_section : List ℕ
  event_section = section_bytes (number 2) (elements o.events)

  parts : whole ≡ big_endian 2 node ++ (stamp_section ++ event_section)
  unfolding finding_bytes finding_of
  parts = append_assoc (big_endian 2 node) stamp_section event_section

  module _ (l : List ℕ) (at : ℕ) (fit : at + length whole ≤ length l) where
    pub node-room : at + 2 ≤ length l
    node-room = omega (arith, length_two node, writes_room (writes_start l whole at fit) (big_endian 2 node) _ parts)

    module _ {a : ℕ} {l₁ : List ℕ} (w₁ : Wrote l at (big_endian 2 node) a l₁) where
      node_done : Writes l at whole l₁ a (stamp_section ++ event_section)
      node_done = writes_turn (writes_start l whole at fit) parts w₁

      pub stamps-room : a + length stamp_section ≤ length l₁
      stamps-room = writes_room node_done stamp_section event_section refl

      module _ {b : ℕ} {l₂ : List ℕ} (w₂ : Wrote l₁ a stamp_section b l₂) where
        stamps_done : Writes l at whole l₂ b event_section
        stamps_done = writes_turn node_done refl w₂

        pub events-room : b + length event_section ≤ length l₂
        events-room = stamps_done.room

        pub all_done : {r : ℕ} {l₃ : List ℕ} → Wrote l₂ b event_section r l₃ → Wrote l at whole r l₃
        all_done w₃ = stamps_done.onward _ _ w₃
