-- What a caller may rely on, of every answer of the comparison call.
use Rattle.std.proofs.Common.{◌≡◌, ℕ, suc, true, false, not, ◌↔◌, List, [], ◌∷◌, ◌++◌, length, sym, refl, ap, ◌∙◌, ⊎_elim, append-nil, arith}
use Rattle.std.specs.Prelude.{Ok, Err}
use mathlib.Core.List.Memᴰ
use lib.Seq.{append_snoc}
use Rattle.sequences.specs.Members.{◌is_in◌}
use Rattle.sequences.proofs.Booleans.{either_way, never_both}
use Rattle.sequences.proofs.Select.{any_in}
use Rattle.timestamps.specs.declared.Order.{Order}
use Rattle.timestamps.specs.declared.Order.TheVariants.{Before, After, Concurrent}
use Rattle.timestamps.specs.declared.Timestamp.{Timestamp}
use Rattle.timestamps.specs.Comparison.{order_number, relation_of, says}
use Rattle.timestamps.specs.Composite.{IsComposite}
use Rattle.timestamps.specs.Order.{clocks_of, concurrent, valid, valid_ratio}
use Rattle.timestamps.proofs.Composites.{concurrent-is, concurrent-not, concurrent-turned}
use Rattle.timestamps.proofs.Stamps.{before_irrefl}
use Rattle.timestamps.proofs.Words.{after_excludes, before_gives, concurrent_gives, number_tells, word_holds, word_only}
use Rattle.open_calls.specs.declared.Refusal.{Refusal}
use Rattle.open_calls.specs.declared.Refusal.TheVariants.{BadRatio, BadLength, BadEntry, NotConcurrent}
use Rattle.open_calls.specs.Answers.{Judgement, number_of, valid_length}
use Rattle.comparisons.specs.Answers.{compare_answer, judged, judged_list, refused_comparison, related}
use Rattle.comparisons.specs.Notes.{clashes}
use Rattle.comparisons.proofs.Comparisons.{some_in}

-- ---- a list that is not turned back is a composite: not empty, and pairwise concurrent
module _ (ratio : ℕ) where
  abbrev Pairwise : List Timestamp → Type 0
  Pairwise l = (s t : Timestamp) → s is_in l → t is_in l → concurrent (clocks_of ratio) s t ≡ true

  turned : (s t : Timestamp) → concurrent (clocks_of ratio) s t ≡ true → concurrent (clocks_of ratio) t s ≡ true
  turned s t e = concurrent-is (clocks_of ratio) t s (concurrent-turned (clocks_of ratio) s t e) (concurrent-not (clocks_of ratio) s t e)

  -- one entry more that is concurrent with all before it
  more_pairwise : (earlier : List Timestamp) (s : Timestamp) → clashes (clocks_of ratio) earlier s ≡ false → Pairwise earlier → Pairwise (earlier ++ (s ∷ []))
  more_pairwise earlier s h p t u i j = ⊎_elim
      (λ a. ⊎_elim (λ b. p t u a b) (λ b. let q : u ≡ s = Memᴰ.eq_of_singleton b in rw q (near t a)) (Memᴰ.append_cases earlier j))
      (λ a. ⊎_elim
      (λ b. let q : t ≡ s = Memᴰ.eq_of_singleton a in rw q (turned u s (near u b)))
      (λ b. let q : t ≡ s = Memᴰ.eq_of_singleton a in let v : u ≡ s = Memᴰ.eq_of_singleton b in rw (q, v) (concurrent-is (clocks_of ratio) s s (before_irrefl (clocks_of ratio) s) (before_irrefl (clocks_of ratio) s)))
      (Memᴰ.append_cases earlier j))
      (Memᴰ.append_cases earlier i)
    where
      near : (t : Timestamp) → t is_in earlier → concurrent (clocks_of ratio) t s ≡ true
      near t a = ⊎_elim (λ y. y) (λ n. absurd (never_both (any_in (λ e. not (concurrent (clocks_of ratio) e s)) earlier a (ap not n)) h)) (either_way (concurrent (clocks_of ratio) t s))

  judged_pairwise : (l earlier : List Timestamp) (place : ℕ) → Pairwise earlier → ◌≡◌ {A = Judgement} (Ok tt) (judged ratio earlier place l) → Pairwise (earlier ++ l)
  unfolding judged
  judged_pairwise [] earlier place p e = rw (append-nil earlier) p
  judged_pairwise (s ∷ l) earlier place p e = ⊎_elim
      (λ (v : valid s ≡ true). ⊎_elim
      (λ (c : clashes (clocks_of ratio) earlier s ≡ true). absurd (let f = rw (v, c) at e in cc))
      (λ (c : clashes (clocks_of ratio) earlier s ≡ false).
      rw (← append_snoc earlier s l) (judged_pairwise l (earlier ++ (s ∷ [])) (suc place) (more_pairwise earlier s c p) (rw (v, c) at e)))
      (either_way (clashes (clocks_of ratio) earlier s)))
      (λ (v : valid s ≡ false). absurd (let f = rw v at e in cc))
      (either_way (valid s))

list-composite : (ratio place : ℕ) (l : List Timestamp) → ◌≡◌ {A = Judgement} (Ok tt) (judged_list ratio place l) → IsComposite (clocks_of ratio) l
unfolding judged_list
list-composite ratio place l e = ⊎_elim
    (λ (n : valid_length (length l) ≡ true). record {
      some = some_in l n;
      pairwise = judged_pairwise ratio l [] place (λ s t i j. absurd (Memᴰ.not-nil i)) (rw n at e);
    })
    (λ (n : valid_length (length l) ≡ false). absurd (let f = rw n at e in cc))
    (either_way (valid_length (length l)))

module _ (ratio : ℕ) (a b : List Timestamp) where
  -- turned back, or two composites compared
  data Outcome : Type 0 where
    refused : (why : Refusal) (place : ℕ) → compare_answer ratio a b ≡ refused_comparison why place → Outcome
    compared : IsComposite (clocks_of ratio) a → IsComposite (clocks_of ratio) b → compare_answer ratio a b ≡ related (relation_of (clocks_of ratio) a b) → Outcome

  ratio-refused : valid_ratio ratio ≡ false → Outcome
  unfolding compare_answer
  ratio-refused r = refused BadRatio 0 (rw r)

  lists-judged : valid_ratio ratio ≡ true → (j k : Judgement) → j ≡ judged_list ratio 0 a → k ≡ judged_list ratio (length a) b → Outcome
  unfolding compare_answer
  lists-judged r (Err x) k e f = refused x.why x.place (rw (r, ← e))
  lists-judged r (Ok y) (Err x) e f = refused x.why x.place (rw (r, ← e, ← f))
  lists-judged r (Ok y) (Ok z) e f = compared (list-composite ratio 0 a e) (list-composite ratio (length a) b f) (rw (r, ← e, ← f))

  outcome : Outcome
  outcome = ⊎_elim (λ r. lists-judged r _ _ refl refl) ratio-refused (either_way (valid_ratio ratio))

  not_zero : (why : Refusal) → number_of why ≡ 0 → ⊥
  unfolding number_of
  not_zero BadRatio e = omega (arith, e)
  not_zero BadLength e = omega (arith, e)
  not_zero BadEntry e = omega (arith, e)
  not_zero NotConcurrent e = omega (arith, e)

  -- ---- number 0: two composites were compared, and the word answered is the one that holds
  composites_of : Outcome → (compare_answer ratio a b).number ≡ 0 → IsComposite (clocks_of ratio) a × IsComposite (clocks_of ratio) b
  unfolding refused_comparison
  composites_of (refused why place f) e = absurd (not_zero why (sym (ap (λ c. c.number) f) ∙ e))
  composites_of (compared c d f) e = (c, d)

  pub compared_composites : (compare_answer ratio a b).number ≡ 0 → IsComposite (clocks_of ratio) a × IsComposite (clocks_of ratio) b
  compared_composites = composites_of outcome

  word_of : Outcome → (compare_answer ratio a b).number ≡ 0 → (w : Order) → (says w (clocks_of ratio) a b ≡ true) ↔ ((compare_answer ratio a b).order ≡ order_number w)
  unfolding refused_comparison relation_of
  word_of (refused why place f) e w = absurd (not_zero why (sym (ap (λ c. c.number) f) ∙ e))
  word_of (compared c d f) e w = (
    λ h. ap (λ x. x.order) f ∙ ap order_number (sym (word_only (clocks_of ratio) a b c d w h)),
    λ h. ap (λ v. says v (clocks_of ratio) a b) (number_tells w _ (sym h ∙ ap (λ x. x.order) f)) ∙ word_holds (clocks_of ratio) a b,
  )

  pub one_word : (compare_answer ratio a b).number ≡ 0 → (w : Order) → (says w (clocks_of ratio) a b ≡ true) ↔ ((compare_answer ratio a b).order ≡ order_number w)
  one_word = word_of outcome

  -- ---- what the word says of weakly before; after 34 to 37 it is none of these three
  told : Outcome → (w : Order) → (order_number w ≡ 0 → ⊥) → (compare_answer ratio a b).order ≡ order_number w
      → IsComposite (clocks_of ratio) a × ((relation_of (clocks_of ratio) a b).order ≡ w) × ((compare_answer ratio a b).weakly_before ≡ (relation_of (clocks_of ratio) a b).weakly_before)
  unfolding refused_comparison order_number
  told (refused why place f) w n e = absurd (n (sym e ∙ ap (λ x. x.order) f))
  told (compared c d f) w n e = (c, number_tells _ w (sym (ap (λ x. x.order) f) ∙ e), ap (λ x. x.weakly_before) f)

  pub before-is-weakly : (compare_answer ratio a b).order ≡ order_number Before → (compare_answer ratio a b).weakly_before ≡ true
  unfolding order_number
  before-is-weakly e = let (c, w, y) = told outcome Before (λ z. omega (arith, z)) e in y ∙ before_gives (clocks_of ratio) a b c w

  pub concurrent-is-weakly : (compare_answer ratio a b).order ≡ order_number Concurrent → (compare_answer ratio a b).weakly_before ≡ true
  unfolding order_number
  concurrent-is-weakly e = let (c, w, y) = told outcome Concurrent (λ z. omega (arith, z)) e in y ∙ concurrent_gives (clocks_of ratio) a b w

  pub after_is_not_weakly : (compare_answer ratio a b).order ≡ order_number After → (compare_answer ratio a b).weakly_before ≡ false
  unfolding order_number
  after_is_not_weakly e = let (c, w, y) = told outcome After (λ z. omega (arith, z)) e in y ∙ after_excludes (clocks_of ratio) a b c w
