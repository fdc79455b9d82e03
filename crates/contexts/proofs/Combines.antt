-- The loop that combines an arrival with those taken: what is left to combine, with what there is, is the whole.
use Rattle.std.proofs.Common.{◌≡◌, ℕ, ◌+◌, ◌<◌, ◌≤◌, Bool, true, false, List, [], length, get_or, drop, sym, refl, ap, ◌∙◌, subst, arith}
use Rattle.sequences.specs.Loops.{fold}
use Rattle.sequences.specs.Marks.{marked}
use Rattle.sequences.proofs.Loops.{fold-none}
use Rattle.sequences.proofs.Marks.{marked_end}
use Rattle.occurrences.specs.declared.Occurrence.{Occurrence}
use Rattle.occurrences.specs.Combination.{combined_of}
use Rattle.occurrences.specs.Occurrences.{no_occurrence}
use Rattle.occurrences.specs.Packed.{Notes, Stands}
use Rattle.waiting_lists.specs.declared.WaitingList.{WaitingList}
use Rattle.waiting_lists.specs.Lists.{Waits, list_of, place_in}
use Rattle.waiting_lists.proofs.Waits.{read_at, read_length}
use Rattle.contexts.proofs.Steps.{combined_no, combined_yes}

-- c stands for what is combined so far
pub record Left {ticks globals : List ℕ} (t : Notes ticks globals) (l : List Occurrence) (m : List Bool) (x : Occurrence) (c : List ℕ) (i : ℕ) : Type 0 where
  pub so_far : Occurrence
  pub stands : Stands t c so_far
  pub same : fold (combined_of t.clocks) (marked (drop i l) (drop i m)) so_far ≡ fold (combined_of t.clocks) (marked l m) x

abbrev pub Combines : (ticks globals : List ℕ) (w : List (List ℕ)) (m : List Bool) (o c : List ℕ) (i : ℕ) → Type 0
Combines ticks globals w m o c i = (t : Notes ticks globals) (l : List Occurrence) (x : Occurrence) → Waits t w l → Stands t o x → Left t l m x c i

module _ (ticks globals : List ℕ) (w : List (List ℕ)) (m : List Bool) (o : List ℕ) where
  module _ (list : WaitingList) (is : list ≡ list_of w) (c : List ℕ) (i : ℕ) where
    module _ (waits : i < list.len) (in-m : i < length m) where
      in_l : (t : Notes ticks globals) (l : List Occurrence) → Waits t w l → i < length l
      in_l t l h = omega (arith, read_length t w l h list is, waits)

      pub combines_yes : (place : ℕ) (d : List ℕ) → place ≡ place_in list.order i + 1 → get_or m i false ≡ true
          → ((t : Notes ticks globals) (x y : Occurrence) → Stands t c x → Stands t (get_or w place []) y → Stands t d (combined_of t.clocks x y))
          → Combines ticks globals w m o c i → Combines ticks globals w m o d (i + 1)
      combines_yes place d at e f g t l x h p =
          let r = g t l x h p in
          record {
            so_far = combined_of t.clocks r.so_far (get_or l i no_occurrence);
            stands = f t r.so_far (get_or l i no_occurrence) r.stands (read_at t w l h list is i place at waits);
            same = combined_yes l m i (in_l t l h) in-m (combined_of t.clocks) r.so_far _ e refl ∙ r.same;
          }

      pub combines_no : get_or m i false ≡ false → Combines ticks globals w m o c i → Combines ticks globals w m o c (i + 1)
      combines_no e g t l x h p =
          let r = g t l x h p in
          record { so_far = r.so_far; stands = r.stands; same = combined_no l m i (in_l t l h) in-m (combined_of t.clocks) r.so_far e ∙ r.same }

    pub combines_end : list.len ≤ i → Combines ticks globals w m o c i
        → (t : Notes ticks globals) (l : List Occurrence) (x : Occurrence) → Waits t w l → Stands t o x → Stands t c (fold (combined_of t.clocks) (marked l m) x)
    combines_end past g t l x h p =
        let r = g t l x h p in
        let e = marked_end l m i (omega (arith, read_length t w l h list is, past)) in
        subst (Stands t c) (sym (ap (λ k. fold (combined_of t.clocks) k r.so_far) e ∙ fold-none (combined_of t.clocks) r.so_far) ∙ r.same) r.stands
