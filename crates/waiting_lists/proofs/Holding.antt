-- What a list stands for after an append and a removal.
use mathlib.Core.Bool.{Bool}
use mathlib.Core.List.{List, [], ◌∷◌}
use mathlib.Core.Logic.{◌⊎◌, inl, inr, ⊎_elim}
use mathlib.Core.Path.{◌≡◌, sym, ap, ap₂, subst, ◌∙◌}
use Prim.Native.Nat.{ℕ, ◌+◌, ◌-◌, ◌<◌}
use native.Mathlib.Omega.{arith}
use lib.ListN.{length, length-set, set}
use Rattle.std.specs.Prelude.{Some, None}
use Rattle.sequences.specs.Marks.{unmarked}
use Rattle.sequences.proofs.Marks.{map-unmarked}
use Rattle.occurrences.specs.declared.Occurrence.{Occurrence}
use Rattle.occurrences.specs.Packed.{Notes, Sound, Stand, Stands, occurrence_of}
use Rattle.waiting_lists.specs.declared.WaitingList.{WaitingList}
use Rattle.waiting_lists.specs.Lists.{Appends, Placed, Removes, Roomy, Waits, list_of, waiters_of}
use Rattle.waiting_lists.specs.Waiting.{appended_to}
use Rattle.waiting_lists.proofs.Lists.{waits_kept}
use Rattle.waiting_lists.proofs.Views.{appended_of, map-appended, unmarked_of}
use Rattle.waiting_lists.proofs.Waits.{waits-length}

module _ {ticks globals : List ℕ} (t : Notes ticks globals) where
  pub stand-appended : (ps : List (List ℕ)) (l : List Occurrence) (p : List ℕ) (o : Occurrence) → Stand t ps l → Stands t p o → Stand t (appended_to ps p) (appended_to l o)
  stand-appended ps l p o h s = record {
    same = map-appended (occurrence_of ticks) ps p ∙ ap₂ appended_to h.same s.same;
    sound = λ q m. ⊎_elim (h.sound q) (λ e. subst (Sound t) (sym e) s.sound) (appended_of ps p q m);
  }

  pub stand-unmarked : (ps : List (List ℕ)) (l : List Occurrence) (gone : List Bool) → Stand t ps l → Stand t (unmarked ps gone) (unmarked l gone)
  stand-unmarked ps l gone h = record {
    same = map-unmarked (occurrence_of ticks) ps gone ∙ ap (λ k. unmarked k gone) h.same;
    sound = λ q i. h.sound q (unmarked_of ps gone i);
  }

  -- ---- what the code leaves
  module _ (w : List (List ℕ)) (l : List Occurrence) (h : Waits t w l) where
    pub waits-appended : (place : ℕ) (more : WaitingList) (p : List ℕ) (o : Occurrence) → Appends (list_of w) (Some place) more → Roomy w l 1 → Stands t p o
        → Waits t (set (set w place p) 0 (more.order ∷ more.len ∷ 0 ∷ [])) (appended_to l o)
    waits-appended place more p o a room s =
        let many : length (set w place p) ≡ length w = length-set w place p in
        let some = h.some in
        let places : length (set w place p) - 1 ≡ length w - 1 = ap (λ n. n - 1) many in
        let n = waits-length t w l h in
        let one : ((list_of w).len + 1 < length w) ⊎ (length w ≡ 17) = rw n room in
        let two : ((list_of w).len < length w - 1) ⊎ (length w - 1 ≡ 16) = ⊎_elim (λ r. inl (omega arith)) (λ r. inr (omega arith)) one in
        waits_kept (set w place p) more (omega arith) (subst (Placed more) (sym places) (a.placed (length w - 1) h.placed two)) t (appended_to l o)
        (subst (λ ps. Stand t ps (appended_to l o)) (sym (a.waits w p h.placed one)) (stand-appended (waiters_of (list_of w) w) l p o h.stand s))

    -- where there is no place the list is full, and nothing changes
    pub waits_full : (p : List ℕ) (o : Occurrence) → Appends (list_of w) None (list_of w) → Roomy w l 1 → Stands t p o → Waits t w (appended_to l o)
    waits_full p o a room s =
        let n = waits-length t w l h in
        let one : ((list_of w).len + 1 < length w) ⊎ (length w ≡ 17) = rw n room in
        record {
          some = h.some;
          placed = h.placed;
          stand = subst (λ ps. Stand t ps (appended_to l o)) (sym (a.waits w p h.placed one)) (stand-appended (waiters_of (list_of w) w) l p o h.stand s);
        }

    pub waits-unmarked : (rest : WaitingList) (gone : List Bool) → Removes (list_of w) gone rest → Waits t (set w 0 (rest.order ∷ rest.len ∷ 0 ∷ [])) (unmarked l gone)
    waits-unmarked rest gone r =
        waits_kept w rest h.some (r.placed (length w - 1) h.placed) t (unmarked l gone)
        (subst (λ ps. Stand t ps (unmarked l gone)) (sym (r.waits w (length w - 1) h.placed)) (stand-unmarked (waiters_of (list_of w) w) l gone h.stand))
