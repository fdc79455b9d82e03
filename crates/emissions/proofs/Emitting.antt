-- One finding: which way it goes.
use mathlib.Core.Bool.{Bool, true, false, not}
use mathlib.Core.List.{List}
use mathlib.Core.Path.{◌≡◌, refl, sym, ap, ap₂, ◌∙◌}
use Prim.Native.Nat.{ℕ, min, ◌+◌, ◌-◌, ◌≤◌, ◌<◌}
use native.Mathlib.Omega.{arith}
use Rattle.std.specs.Prelude.{Option, None, Some}
use lib.Dec.{leb}
use lib.ListN.{length, length-take, set, take}
use lib.Seq.{length-take-le}
use borrow.Author.Tests.{le-leb, leb-false, leb-true, lt-leb, lt-ltb, le-ltb, not-false, not-true}
use Rattle.sequences.proofs.Arrays.{append-room}
use Rattle.detections.specs.Views.{written_bytes}
use Rattle.detections.specs.Writing.{Wrote}
use Rattle.detections.proofs.Writing.{wrote_prefix}
use Rattle.occurrences.specs.declared.Occurrence.{Occurrence}
use Rattle.occurrences.specs.Packed.{Notes, Stands}
use Rattle.occurrences.proofs.Packed.{stand-length, stand-more}
use Rattle.emissions.specs.declared.Limit.{Limit}
use Rattle.emissions.specs.declared.Limit.TheVariants.{NodeFull, OutputFull}
use Rattle.emissions.specs.declared.Made.{Made}
use Rattle.emissions.specs.Emissions.{Emits, Emitting, bytes_of, emitted, ended}

-- ---- what the test for room says
module _ (size at room : ℕ) (within : at ≤ room) {r : Bool} (told : r ≡ leb size (room - at)) where
  pub no_room : not r ≡ true → room < at + size
  no_room h = omega (arith, leb-false size (room - at) (sym told ∙ not-true r h))

  pub has_room : not r ≡ false → at + size ≤ room
  has_room h = omega (arith, leb-true size (room - at) (sym told ∙ not-false r h))

-- ---- under a limit
pub emits_ended : {ticks globals : List ℕ} (t : Notes ticks globals) {met : Option Limit} {m : Made} {out : List ℕ} {s : Emitting} → Emits t met m out s
    → (l : Limit) → Emits t (Some l) m out (ended s l)
emits_ended t h l = record { made = h.made; findings = h.findings; bytes = h.bytes; limit = refl }

pub emits_as : {ticks globals : List ℕ} (t : Notes ticks globals) {met : Option Limit} {m : Made} {out : List ℕ} {s : Emitting} → Emits t met m out s
    → (l : Option Limit) → met ≡ l → Emits t l m out s
emits_as t h l e = record { made = h.made; findings = h.findings; bytes = h.bytes; limit = h.limit ∙ e }

-- ---- one of three ways
module _ {ticks globals : List ℕ} (t : Notes ticks globals) (loggers : List ℕ) (place : ℕ) {m : Made} {out p : List ℕ}
    {s : Emitting} {x : Occurrence} (h : Emits t None m out s) (o : Stands t p x) (eight : length m.row ≡ 8) where
  abbrev next : Emitting
  next = emitted (length out) loggers place s x

  made_so_far : length s.made ≡ min m.count 8
  made_so_far = sym (stand-length t (take m.count m.row) s.made h.made) ∙ length-take m.count m.row ∙ ap (min m.count) eight

  pub emits_ninth : 8 ≤ m.count → Emits t (Some NodeFull) m out next
  unfolding emitted
  emits_ninth k = rw (h.limit, le-leb 8 (length s.made) (omega (arith, made_so_far))) (emits_ended t h NodeFull)

  module _ (few : m.count < 8) (within : m.bytes ≤ length out) where
    fewer : leb 8 (length s.made) ≡ false
    fewer = lt-leb 8 (length s.made) (omega (arith, made_so_far))

    abbrev size : ℕ
    size = length (written_bytes ticks loggers place p)

    same_bytes : written_bytes ticks loggers place p ≡ bytes_of loggers place x
    same_bytes = ap (bytes_of loggers place) o.same

    bytes-then : length s.bytes + length (bytes_of loggers place x) ≡ m.bytes + size
    bytes-then = ap₂ (λ m n. m + n) (ap length h.bytes ∙ length-take-le m.bytes out within) (sym (ap length same_bytes))

    pub emits_no_room : length out < m.bytes + size → Emits t (Some OutputFull) m out next
    unfolding emitted
    emits_no_room l = rw (h.limit, fewer, bytes-then, lt-ltb (length out) (m.bytes + size) l) (emits_ended t h OutputFull)

    pub emits_go : {at' : ℕ} {out' : List ℕ} → m.bytes + size ≤ length out → Wrote out m.bytes (written_bytes ticks loggers place p) at' out'
        → Emits t None (record { row = set m.row m.count p; count = m.count + 1; findings = m.findings + 1; bytes = at' }) out' next
    unfolding emitted
    emits_go l w =
        rw (h.limit, fewer, bytes-then, le-ltb (length out) (m.bytes + size) l)
        (record {
          made = rw (append-room 8 m.row m.count eight p few) (stand-more t h.made o);
          findings = ap (λ m. m + 1) h.findings;
          bytes = rw (h.bytes, ← same_bytes) (sym (wrote_prefix within w));
          limit = refl;
        })
