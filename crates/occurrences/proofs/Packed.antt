-- Lists of packed occurrences and what they stand for.
use Rattle.std.proofs.Common.{◌≡◌, ℕ, ◌<◌, List, [], ◌∷◌, ◌++◌, length, get_or, sym, refl, ap, ◌∙◌, subst, ap₂, ⊎_elim}
use mathlib.Core.List.Memᴰ
use mathlib.Core.List.{map-append}
use lib.ListN.{length-map}
use Rattle.sequences.proofs.Members.{get_or_in}
use Rattle.sequences.proofs.Parts.{get_or_map}
use Rattle.timestamps.specs.declared.Note.{Note}
use Rattle.occurrences.specs.declared.Occurrence.{Occurrence}
use Rattle.occurrences.specs.Occurrences.{no_occurrence}
use Rattle.occurrences.specs.Packed.{Notes, NotesOf, Sound, Stand, Stands, Within, occurrence_of}
use Rattle.occurrences.proofs.Seen.{sound-within}

module _ {ticks globals : List ℕ} (t : Notes ticks globals) where
  pub stand-none : Stand t [] []
  stand-none = record { same = refl; sound = λ p m. absurd (Memᴰ.not-nil m) }

  pub stand-length : (ps : List (List ℕ)) (l : List Occurrence) → Stand t ps l → length ps ≡ length l
  stand-length ps l h = sym (length-map ps (occurrence_of ticks)) ∙ ap length h.same

  -- one more
  pub stand-more : {ps : List (List ℕ)} {l : List Occurrence} {p : List ℕ} {o : Occurrence} → Stand t ps l → Stands t p o → Stand t (ps ++ (p ∷ [])) (l ++ (o ∷ []))
  stand-more {ps} {p = p} h s = record {
    same = map-append (occurrence_of ticks) ps (p ∷ []) ∙ ap₂ (λ m x. m ++ (x ∷ [])) h.same s.same;
    sound = λ q m. ⊎_elim (h.sound q) (λ i. subst (Sound t) (sym (Memᴰ.eq_of_singleton i)) s.sound) (Memᴰ.append_cases ps m);
  }

  -- what stands at a place
  pub stand-at : (ps : List (List ℕ)) (l : List Occurrence) (i : ℕ) → Stand t ps l → i < length ps → Stands t (get_or ps i []) (get_or l i no_occurrence)
  stand-at ps l i h k = record {
    same = sym (get_or_map (occurrence_of ticks) ps i [] no_occurrence k) ∙ ap (λ m. get_or m i no_occurrence) h.same;
    sound = h.sound (get_or ps i []) (get_or_in ps i [] k);
  }

-- what it names is noted
pub stands-within : (notes : List Note) (t : NotesOf notes) (p : List ℕ) (o : Occurrence) → Stands t p o → Within notes p
stands-within notes t p o h = sound-within notes t p h.sound
