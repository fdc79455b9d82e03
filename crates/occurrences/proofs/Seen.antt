-- The stamps of a packed occurrence by the notes at its logger places.
use Rattle.std.proofs.Common.{◌≡◌, ℕ, ◌+◌, ◌<◌, ◌≤◌, List, length, get_or, sym, refl, ap, ◌∙◌, subst, inl, inr, ⊎_elim, arith}
use native.Mathlib.Decide.{ℕ_discrete}
use Rattle.sequences.specs.Members.{◌is_in◌, SameMembers}
use Rattle.timestamps.specs.declared.Note.{Note}
use Rattle.timestamps.specs.declared.Timestamp.{Timestamp}
use Rattle.timestamps.specs.Composite.{IsComposite, members}
use Rattle.timestamps.specs.Order.{Clocks, blank}
use Rattle.timestamps.proofs.Composite.{same-stamp}
use Rattle.timestamps.proofs.Stamps.{global}
use Rattle.occurrences.specs.declared.Occurrence.{Occurrence}
use Rattle.occurrences.specs.Packed.{Names, Notes, NotesOf, Sound, Stands, Within, byte_at}
use Rattle.occurrences.specs.Steps.{Lowest, note_at}
use Rattle.timestamps.proofs.Notes.{length_ticks}
use Rattle.occurrences.proofs.Views.{latest_in, stamp, stamps_in_lem, stamps_of_lem, stamps_in}

-- ---- local notes v and global notes g by logger place, and the stamps l that they tell
pub record Seen (clocks : Clocks) (v g : ℕ → ℕ) (l : List Timestamp) : Type 0 where
  pub place : (s : Timestamp) → s is_in l → s.logger < 8
  pub local : (s : Timestamp) → s is_in l → v s.logger ≡ s.tick.0 + 1
  pub whole : (s : Timestamp) → s is_in l → g s.logger ≡ global clocks s + 1
  pub member : (s : Timestamp) → s.logger < 8 → v s.logger ≡ s.tick.0 + 1 → s is_in l
  pub none : (k : ℕ) → k < 8 → v k ≡ 0 → g k ≡ 0

-- the same stamps in whatever order
pub seen_same : (clocks : Clocks) (v g : ℕ → ℕ) (l m : List Timestamp) → SameMembers m l → Seen clocks v g l → Seen clocks v g m
seen_same clocks v g l m e h = record {
  place = λ s i. h.place s (e.0 s i);
  local = λ s i. h.local s (e.0 s i);
  whole = λ s i. h.whole s (e.0 s i);
  member = λ s n t. e.1 s (h.member s n t);
  none = h.none;
}

module _ {ticks globals : List ℕ} (t : Notes ticks globals) where
  -- the notes of a named event agree
  module _ (k n : ℕ) where
    name_none : Names t.stamps k n → get_or ticks n 0 ≡ 0 → get_or globals n 0 ≡ 0
    name_none (inl e) h = rw e t.no_global
    name_none (inr (e, x, l, y)) h = absurd (let p : get_or ticks n 0 ≡ (get_or t.stamps e blank).tick.0 + 1 = rw x (t.tick e l) in omega arith)

    name_some : (s : Timestamp) → s.logger ≡ k → Names t.stamps k n → get_or ticks n 0 ≡ s.tick.0 + 1 → get_or globals n 0 ≡ global t.clocks s + 1
    name_some s f (inl e) h = absurd (let z : get_or ticks n 0 ≡ 0 = rw e t.no_tick in omega arith)
    name_some s f (inr (e, x, l, y)) h =
        let p : get_or ticks n 0 ≡ (get_or t.stamps e blank).tick.0 + 1 = rw x (t.tick e l) in
        let q : get_or t.stamps e blank ≡ s = same-stamp _ s (y ∙ sym f) (omega arith) in
        ap (λ m. get_or globals m 0) x ∙ t.global e l ∙ ap (λ u. global t.clocks u + 1) q

  pub seen-sound : (w : ℕ) → ((k : ℕ) → k < 8 → Names t.stamps k (byte_at w k)) → Seen t.clocks (note_at ticks w) (note_at globals w) (stamps_in ticks w)
  seen-sound w names = record {
    place = λ s i. (stamps_of_lem ticks w s i).0;
    local = λ s i. (stamps_of_lem ticks w s i).1;
    whole = λ s i. let (l, e) = stamps_of_lem ticks w s i in name_some s.logger (byte_at w s.logger) s refl (names s.logger l) e;
    member = stamps_in_lem ticks w;
    none = λ k l. name_none k (byte_at w k) (names k l);
  }

  module _ (p : List ℕ) (o : Occurrence) (h : Stands t p o) where
    pub stands-stamps : stamps_in ticks (get_or p 2 0) ≡ members o.latest
    stands-stamps = ap members (sym (latest_in ticks p) ∙ ap (λ (x : Occurrence). x.latest) h.same)

    pub stands-composite : IsComposite t.clocks (members o.latest)
    stands-composite = subst (λ (x : Occurrence). IsComposite t.clocks (members x.latest)) h.same h.sound.composite

    pub seen-stands : Seen t.clocks (note_at ticks (get_or p 2 0)) (note_at globals (get_or p 2 0)) (members o.latest)
    seen-stands = subst (Seen t.clocks (note_at ticks (get_or p 2 0)) (note_at globals (get_or p 2 0))) stands-stamps (seen-sound (get_or p 2 0) h.sound.names)

-- what a sound byte names is noted
pub sound-within : (notes : List Note) (t : NotesOf notes) (p : List ℕ) → Sound t p → Within notes p
sound-within notes t p s k l = go (s.names k l)
  where
    go : Names t.stamps k (byte_at (get_or p 2 0) k) → byte_at (get_or p 2 0) k < length notes
    go (inl e) = omega (arith, t.tick-room, e, length_ticks notes)
    go (inr (e, x, m, y)) = omega (arith, t.tick-room, x, m, length_ticks notes)

-- ---- the stamp at a place that has one, and the lowest
module _ (clocks : Clocks) (v g : ℕ → ℕ) (l : List Timestamp) (seen : Seen clocks v g l) where
  pub stamp-at : (k : ℕ) → k < 8 → 0 < v k → stamp k (v k) is_in l
  stamp-at k h p = seen.member (stamp k (v k)) h (omega arith)

  pub note_both : (k : ℕ) → k < 8 → 0 < g k → 0 < v k
  note_both k h p = elim (ℕ_discrete (v k) 0) [
    | yes e ↦ absurd (let z : g k ≡ 0 = seen.none k h e in omega arith)
    | no n ↦ omega arith
  ]

  pub note_global : (k : ℕ) → k < 8 → 0 < v k → 0 < g k
  note_global k h p = let e : g k ≡ global clocks (stamp k (v k)) + 1 = seen.whole (stamp k (v k)) (stamp-at k h p) in omega arith

  -- also where it is there by its global note
  pub stamp_told : (k : ℕ) → k < 8 → 0 < g k → (s : Timestamp) × (s is_in l) × (s.logger ≡ k) × (global clocks s + 1 ≡ g k)
  stamp_told k h p =
      let i : stamp k (v k) is_in l = stamp-at k h (note_both k h p) in
      (stamp k (v k), i, refl, sym (seen.whole (stamp k (v k)) i))

  module _ (low : ℕ) (least : Lowest 8 g low) where
    pub lowest_le : (s : Timestamp) → s is_in l → low ≤ global clocks s
    lowest_le s i =
        let e : g s.logger ≡ global clocks s + 1 = seen.whole s i in
        let h : low < g s.logger = least.least s.logger (seen.place s i) (omega arith) in
        omega arith

    pub lowest-is : (s : Timestamp) → s is_in l → (t : Timestamp) × (t is_in l) × (global clocks t ≡ low)
    lowest-is s i = ⊎_elim
        (λ (z, d). absurd (let e : g s.logger ≡ global clocks s + 1 = seen.whole s i in let y : g s.logger ≡ 0 = z s.logger (seen.place s i) in omega arith))
        (λ (k, h, e). let (t, j, a, b) = stamp_told k h (omega arith) in (t, j, omega arith))
        least.some
