-- Those clearly earlier leave, place by place.
use mathlib.Core.Path.{◌≡◌, refl, sym, ap, ◌∙◌}
use mathlib.Core.Bool.{true, false, ◌&&◌}
use mathlib.Core.List.{List}
use mathlib.Core.Logic.{⊎_elim}
use Prim.Native.Nat.{ℕ, ◌+◌, ◌≤◌, ◌<◌}
use native.Mathlib.Decide.{ℕ_discrete, dec_lt}
use native.Mathlib.Omega.{arith}
use lib.Dec.{ltb}
use lib.ListN.{length, length-set, set}
use lib.Seq.{get_or-set_other, get_or-set_same}
use borrow.Author.Tests.{le-ltb, lt-ltb, ltb-false, ltb-true}
use Rattle.sequences.specs.Choice.{pick}
use Rattle.sequences.proofs.Booleans.{either_way}
use Rattle.open_calls.specs.declared.JoinNotes.{JoinNotes}
use Rattle.open_calls.specs.Notes.{Raised, RoomFor, Sized, clear_at, clear_note, left_by, note_at}

-- the places before n have been cleared
pub record ClearedTo (notes : JoinNotes) (note n : ℕ) (after : JoinNotes) : Type 0 where
  pub sized : Sized after
  pub local : (k : ℕ) → k < 8 → note_at after.ticks k ≡ pick (ltb k n && clear_at notes k note) 0 (note_at notes.ticks k)
  pub global : (k : ℕ) → k < 8 → note_at after.globals k ≡ pick (ltb k n && clear_at notes k note) 0 (note_at notes.globals k)

module _ (notes : JoinNotes) (note : ℕ) where
  pub cleared-start : Sized notes → ClearedTo notes note 0 notes
  cleared-start e = record { sized = e; local = λ k h. rw (le-ltb k 0 (omega arith)); global = λ k h. rw (le-ltb k 0 (omega arith)) }

  module _ (n : ℕ) (after : JoinNotes) (h : n < 8) (t : ClearedTo notes note n after) where
    untouched : note_at after.globals n ≡ note_at notes.globals n
    untouched = rw (le-ltb n n (omega arith)) at (t.global n h)

    same_clear : clear_at after n note ≡ clear_at notes n note
    same_clear = ap (λ x. clear_note x note) untouched

    others : (k : ℕ) → (k ≡ n → ⊥) → ltb k n ≡ ltb k (n + 1)
    others k d = elim (dec_lt k n) [
      | yes l ↦ lt-ltb k n l ∙ sym (lt-ltb k (n + 1) (omega arith))
      | no l ↦ le-ltb k n (omega arith) ∙ sym (le-ltb k (n + 1) (omega (arith, d)))
    ]

    -- its place holds 0
    abbrev gone : JoinNotes
    gone = record { ticks = set after.ticks n 0; globals = set after.globals n 0; highest = after.highest }

    zero : (l : List ℕ) → length l ≡ 8 → (k : ℕ) → k ≡ n → note_at (set l n 0) k ≡ 0
    zero l e k q = rw q (get_or-set_same l n 0 0 (omega (arith, e)))

    pub cleared_turn : (next : JoinNotes) → next ≡ left_by after n note → ClearedTo notes note (n + 1) next
    unfolding left_by
    cleared_turn next e = rw (e, same_clear) (⊎_elim leaves stays (either_way (clear_at notes n note)))
      where
        leaves : clear_at notes n note ≡ true → ClearedTo notes note (n + 1) (pick (clear_at notes n note) gone after)
        leaves y = rw y (record {
          sized = record { ticks = length-set after.ticks n 0 ∙ t.sized.ticks; globals = length-set after.globals n 0 ∙ t.sized.globals };
          local = λ k l. elim (ℕ_discrete k n) [
            | yes e ↦ zero after.ticks t.sized.ticks k e ∙ rw (e, lt-ltb n (n + 1) (omega arith), y)
            | no d ↦ get_or-set_other after.ticks n k 0 0 d ∙ rw (← others k d) (t.local k l)
          ];
          global = λ k l. elim (ℕ_discrete k n) [
            | yes e ↦ zero after.globals t.sized.globals k e ∙ rw (e, lt-ltb n (n + 1) (omega arith), y)
            | no d ↦ get_or-set_other after.globals n k 0 0 d ∙ rw (← others k d) (t.global k l)
          ];
        })

        stays : clear_at notes n note ≡ false → ClearedTo notes note (n + 1) (pick (clear_at notes n note) gone after)
        stays z = rw z (record {
          sized = t.sized;
          local = λ k l. elim (ℕ_discrete k n) [
            | yes e ↦ rw (e, lt-ltb n (n + 1) (omega arith), z) (rw (le-ltb n n (omega arith)) at (t.local n h))
            | no d ↦ rw (← others k d) (t.local k l)
          ];
          global = λ k l. elim (ℕ_discrete k n) [
            | yes e ↦ rw (e, lt-ltb n (n + 1) (omega arith), z) untouched
            | no d ↦ rw (← others k d) (t.global k l)
          ];
        })

  -- all of them, and the new highest
  pub cleared_end : (n : ℕ) (after : JoinNotes) → 8 ≤ n → ClearedTo notes note n after → Raised notes note (record { ticks = after.ticks; globals = after.globals; highest = note })
  cleared_end n after h t = record {
    sized = record { ticks = t.sized.ticks; globals = t.sized.globals };
    local = λ k l. rw (lt-ltb k n (omega arith)) at (t.local k l);
    global = λ k l. rw (lt-ltb k n (omega arith)) at (t.global k l);
    highest = refl;
  }

  -- only where it is a new highest
  pub room-raised : (after : JoinNotes) → ltb notes.highest note ≡ true → Raised notes note after → RoomFor notes note after
  room-raised after b r = record { raised = λ h. r; same = λ h. absurd (let l : notes.highest < note = ltb-true _ _ b in omega arith) }

  pub room-same : ltb notes.highest note ≡ false → RoomFor notes note notes
  room-same b = record { raised = λ h. absurd (let l : note ≤ notes.highest = ltb-false _ _ b in omega arith); same = λ h. refl }
