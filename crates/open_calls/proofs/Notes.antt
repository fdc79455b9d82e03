-- What notes say of the composite that they are of.
use mathlib.Core.Path.{◌≡◌, refl, sym, ap, ◌∙◌}
use mathlib.Core.Bool.{true, false}
use mathlib.Core.List.Memᴰ
use mathlib.Core.Logic.{⊎_elim}
use Prim.Native.Nat.{ℕ, ◌+◌, ◌-◌, ◌≤◌, ◌<◌}
use native.Mathlib.Decide.{dec_lt}
use native.Mathlib.Omega.{arith}
use lib.Dec.{lit<}
use borrow.Author.Tests.{le-ltb, lt-ltb}
use Rattle.sequences.specs.Members.{◌is_in◌}
use Rattle.sequences.proofs.Booleans.{either_way, never_both}
use Rattle.timestamps.specs.declared.CompositeTimestamp.{CompositeTimestamp}
use Rattle.timestamps.specs.declared.GlobalTick.{GlobalTick}
use Rattle.timestamps.specs.declared.LocalTick.{LocalTick}
use Rattle.timestamps.specs.declared.Timestamp.{Timestamp}
use Rattle.timestamps.specs.Composite.{members, present_at, stamp_at}
use Rattle.timestamps.specs.Order.{Clocks, clearly_earlier, clocks_of, global_of, largest_tick, quotient, valid}
use Rattle.timestamps.proofs.Composite.{Holds, each-place, members_of, same-stamp, stamp_in}
use Rattle.timestamps.proofs.Groupings.{valid-tick}
use Rattle.timestamps.proofs.Stamps.{global-small}
use Rattle.open_calls.specs.Answers.{shown, shown_at}
use Rattle.open_calls.specs.declared.JoinNotes.{JoinNotes}
use Rattle.open_calls.specs.Notes.{HighestNote, NotedJoin, Sized, clear_note, global_note, local_note, note_at, shown_from, shown_note}

-- ---- a note has room
pub note_room : (s : Timestamp) → valid s ≡ true → local_note s < 18446744073709551615
note_room s v = let t : s.tick.0 ≤ largest_tick = valid-tick s v in let b : largest_tick + 1 < 18446744073709551615 = lit< tt in omega arith

-- as the code tells it
pub global_told : (ratio : ℕ) (s : Timestamp) (g : GlobalTick) → g ≡ quotient ratio s.tick → g.0 + 1 ≡ global_note (clocks_of ratio) s
unfolding global_of
global_told ratio s g e = rw e

pub global-room : (ratio : ℕ) (s : Timestamp) (g : GlobalTick) → valid s ≡ true → g ≡ quotient ratio s.tick → g.0 + 1 < 18446744073709551615
global-room ratio s g v e =
    let r : local_note s < 18446744073709551615 = note_room s v in
    let q : (global_of (clocks_of ratio) s).0 ≤ s.tick.0 = global-small (clocks_of ratio) s in
    let f : g.0 + 1 ≡ global_note (clocks_of ratio) s = global_told ratio s g e in
    omega arith

-- two notes compare as their two ticks do
pub clear_notes : (a b : ℕ) → clear_note (a + 1) (b + 1) ≡ clear_note a b
unfolding clearly_earlier
clear_notes a b = elim (dec_lt (a + 1) b) [
  | yes h ↦ lt-ltb (a + 1 + 1) (b + 1) (omega arith) ∙ sym (lt-ltb (a + 1) b h)
  | no h ↦ le-ltb (a + 1 + 1) (b + 1) (omega arith) ∙ sym (le-ltb (a + 1) b (omega arith))
]

-- ---- the timestamps of notes
abbrev stamped : ℕ → ℕ → Timestamp
stamped k note = record { logger = k; tick = record { 0 = note - 1 } }

module _ (clocks : Clocks) (c : CompositeTimestamp) (notes : JoinNotes) (n : NotedJoin clocks c notes) where
  -- no note, no timestamp
  pub none-at : (k : ℕ) → k < 8 → note_at notes.ticks k ≡ 0 → present_at c k ≡ false
  none-at k h z = ⊎_elim (λ y. absurd (let e : note_at notes.ticks k ≡ local_note (stamp_at c k) = rw y at (n.local k h) in omega arith)) (λ y. y) (either_way (present_at c k))

  pub some_at : (k : ℕ) → k < 8 → 0 < note_at notes.ticks k → present_at c k ≡ true
  some_at k h p = ⊎_elim (λ y. y) (λ y. absurd (let e : note_at notes.ticks k ≡ 0 = rw y at (n.local k h) in omega arith)) (either_way (present_at c k))

  pub member_local : (s : Timestamp) → s is_in members c → note_at notes.ticks s.logger ≡ local_note s
  member_local s m =
      let h : Holds c s = members_of c s m in
      let e : note_at notes.ticks s.logger ≡ local_note (stamp_at c s.logger) = rw h.there at (n.local s.logger h.place) in
      e ∙ ap (λ (x : LocalTick). x.0 + 1) h.tick

  pub member_global : (s : Timestamp) → s is_in members c → note_at notes.globals s.logger ≡ global_note clocks s
  member_global s m =
      let h : Holds c s = members_of c s m in
      let e : note_at notes.globals s.logger ≡ global_note clocks (stamp_at c s.logger) = rw h.there at (n.global s.logger h.place) in
      e ∙ ap (global_note clocks) (same-stamp (stamp_at c s.logger) s refl (ap (λ (x : LocalTick). x.0) h.tick))

  pub local_member : (s : Timestamp) → s.logger < 8 → note_at notes.ticks s.logger ≡ local_note s → s is_in members c
  local_member s h e =
      let y : present_at c s.logger ≡ true = some_at s.logger h (omega arith) in
      let f : note_at notes.ticks s.logger ≡ local_note (stamp_at c s.logger) = rw y at (n.local s.logger h) in
      Memᴰ.cast (same-stamp s (stamp_at c s.logger) refl (omega arith)) (stamp_in c s.logger h y)

  pub shown-is : shown_from notes ≡ shown c
  unfolding shown_from shown shown_note
  shown-is = each-place _ _ (λ k h. ⊎_elim (there k h) (none k h) (either_way (present_at c k)))
    where
      there : (k : ℕ) → k < 8 → present_at c k ≡ true → shown_note (note_at notes.ticks k) k ≡ shown_at c k
      there k h y = rw (n.local k h, y, lt-ltb 0 (local_note (stamp_at c k)) (omega arith)) (same-stamp _ (stamp_at c k) refl (omega arith))

      none : (k : ℕ) → k < 8 → present_at c k ≡ false → shown_note (note_at notes.ticks k) k ≡ shown_at c k
      none k h y = rw (n.local k h, y)

-- notes that are right of each timestamp
module _ (clocks : Clocks) (c : CompositeTimestamp) (notes : JoinNotes)
    (in_it : (s : Timestamp) → s.logger < 8 → note_at notes.ticks s.logger ≡ local_note s → s is_in members c)
    (of_it : (s : Timestamp) → s is_in members c → (note_at notes.ticks s.logger ≡ local_note s) × (note_at notes.globals s.logger ≡ global_note clocks s))
    (none : (k : ℕ) → k < 8 → note_at notes.ticks k ≡ 0 → note_at notes.globals k ≡ 0) where
  zero_at : (k : ℕ) → k < 8 → present_at c k ≡ false → note_at notes.ticks k ≡ 0
  zero_at k h z = elim (dec_lt 0 (note_at notes.ticks k)) [
    | yes p ↦ absurd (never_both (members_of c (stamped k (note_at notes.ticks k)) (in_it (stamped k (note_at notes.ticks k)) h (omega arith))).there z)
    | no p ↦ omega arith
  ]

  pub noted_by : Sized notes → HighestNote clocks c notes.highest → NotedJoin clocks c notes
  noted_by sized top = record {
    sized = sized;
    local = λ k h. ⊎_elim (λ y. rw y (of_it (stamp_at c k) (stamp_in c k h y)).0) (λ z. rw z (zero_at k h z)) (either_way (present_at c k));
    global = λ k h. ⊎_elim (λ y. rw y (of_it (stamp_at c k) (stamp_in c k h y)).1) (λ z. rw z (none k h (zero_at k h z))) (either_way (present_at c k));
    highest = top;
  }
