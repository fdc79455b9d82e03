-- The stamps of packed numbers: what the notes at the logger places say, and the composite that they are.
use Rattle.std.proofs.Common.{◌≡◌, ℕ, ◌+◌, ◌-◌, ◌<◌, ◌≤◌, true, ltb, List, [], ◌∷◌, get_or, sym, refl, ap, ◌∙◌, ⊎_elim, arith, ltb-false, ltb-true, lt-ltb, eq-eqb, eqb-true}
use Rattle.sequences.specs.Members.{◌is_in◌}
use Rattle.sequences.specs.Select.{some_passes}
use Rattle.sequences.proofs.Booleans.{either_way, same_test}
use Rattle.sequences.proofs.Select.{any_in, any_of}
use Rattle.timestamps.specs.declared.CompositeTimestamp.{CompositeTimestamp}
use Rattle.timestamps.specs.declared.Timestamp.{Timestamp}
use Rattle.timestamps.specs.Composite.{composite_of, members, of_logger, tick_of}
use Rattle.timestamps.proofs.Composite.{OnePerLogger, same-stamp, tick_of_in, tick_of-none}
use Rattle.occurrences.specs.Packed.{from_words, occurrence_of, words_of}
use Rattle.occurrences.specs.Steps.{note_at}
use Rattle.occurrences.proofs.Bytes.{length_words, word_of}
use Rattle.occurrences.proofs.Words.{latest_places, member_word, word_member}

-- the stamp of a logger place by its note
abbrev pub stamp : ℕ → ℕ → Timestamp
stamp k v = record { logger = k; tick = record { 0 = v - 1 } }

-- the composite that the bytes of w name, and its stamps
abbrev pub composite_in : List ℕ → ℕ → CompositeTimestamp
composite_in ticks w = (occurrence_of ticks (0 ∷ 0 ∷ w ∷ [])).latest

abbrev pub stamps_in : List ℕ → ℕ → List Timestamp
stamps_in ticks w = members (composite_in ticks w)

-- the first two numbers say nothing of it
pub latest_in : (ticks p : List ℕ) → (occurrence_of ticks p).latest ≡ composite_in ticks (get_or p 2 0)
unfolding from_words words_of
latest_in ticks p = refl

module _ (ticks : List ℕ) (w : ℕ) where
  abbrev words : List ℕ
  words = words_of ticks (0 ∷ 0 ∷ w ∷ [])

  pub stamps_of_lem : (s : Timestamp) → s is_in stamps_in ticks w → (s.logger < 8) × (note_at ticks w s.logger ≡ s.tick.0 + 1)
  stamps_of_lem s m = let (l, e) = member_word words s m in (l, sym (word_of ticks (0 ∷ 0 ∷ w ∷ []) s.logger l) ∙ e)

  pub stamps_in_lem : (s : Timestamp) → s.logger < 8 → note_at ticks w s.logger ≡ s.tick.0 + 1 → s is_in stamps_in ticks w
  stamps_in_lem s l e = word_member words s l (word_of ticks (0 ∷ 0 ∷ w ∷ []) s.logger l ∙ e)

  -- ---- at most one of each logger; the composite of these stamps is the one that is named
  pub stamps_one : OnePerLogger (stamps_in ticks w)
  stamps_one s t i j e =
      let (l, x) = stamps_of_lem s i in
      let (m, y) = stamps_of_lem t j in
      let z : note_at ticks w s.logger ≡ note_at ticks w t.logger = ap (note_at ticks w) e in
      same-stamp s t e (omega arith)

  here : (k : ℕ) → k < 8 → ltb 0 (note_at ticks w k) ≡ true → stamp k (note_at ticks w k) is_in stamps_in ticks w
  here k h e = let p : 0 < note_at ticks w k = ltb-true 0 (note_at ticks w k) e in stamps_in_lem (stamp k (note_at ticks w k)) h (omega arith)

  present : (k : ℕ) → k < 8 → some_passes (of_logger k) (stamps_in ticks w) ≡ ltb 0 (note_at ticks w k)
  present k h = same_test _ _
      (λ e. let (s, i, y) = any_of (of_logger k) (stamps_in ticks w) e in
      let (l, x) = stamps_of_lem s i in
      let z : note_at ticks w k ≡ s.tick.0 + 1 = ap (note_at ticks w) (sym (eqb-true s.logger k y)) ∙ x in
      lt-ltb 0 (note_at ticks w k) (omega arith))
      (λ e. any_in (of_logger k) (stamps_in ticks w) (here k h e) (eq-eqb k k refl))

  told : (k : ℕ) → k < 8 → tick_of (stamps_in ticks w) k ≡ record { 0 = note_at ticks w k - 1 }
  told k h = ⊎_elim
      (λ y. tick_of_in (stamps_in ticks w) (stamp k (note_at ticks w k)) (here k h y) stamps_one)
      (λ z. let p : note_at ticks w k ≤ 0 = ltb-false 0 (note_at ticks w k) z in
      let q : 0 ≡ note_at ticks w k - 1 = omega arith in
      tick_of-none (stamps_in ticks w) k (present k h ∙ z) ∙ (λ i. record { 0 = q i }))
      (either_way (ltb 0 (note_at ticks w k)))

  pub view_is : composite_in ticks w ≡ composite_of (stamps_in ticks w)
  unfolding composite_of
  view_is = latest_places words (λ k. some_passes (of_logger k) (stamps_in ticks w)) (tick_of (stamps_in ticks w)) (length_words ticks (0 ∷ 0 ∷ w ∷ []))
      (λ k l. ap (ltb 0) (word_of ticks (0 ∷ 0 ∷ w ∷ []) k l) ∙ sym (present k l))
      (λ k l. (let e = word_of ticks (0 ∷ 0 ∷ w ∷ []) k l in λ i. record { 0 = e i - 1 }) ∙ sym (told k l))
