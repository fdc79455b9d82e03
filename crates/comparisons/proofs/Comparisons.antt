-- The comparison call's steps give its answer.
use Rattle.std.proofs.Common.{◌≡◌, ℕ, ◌≤◌, true, false, leb, List, [], ◌∷◌, length, refl, ap, ◌∙◌, ⊎_elim, leb-true}
use Rattle.std.specs.Prelude.{Result, Ok, Err}
use mathlib.Core.List.Memᴰ
use Rattle.sequences.specs.Members.{◌is_in◌}
use Rattle.sequences.proofs.Booleans.{and_right, either_way, never_both}
use Rattle.timestamps.specs.declared.Relation.{Relation}
use Rattle.timestamps.specs.declared.Timestamp.{Timestamp}
use Rattle.timestamps.specs.Comparison.{relation_of}
use Rattle.timestamps.specs.Order.{clocks_of, valid_ratio}
use Rattle.open_calls.specs.declared.Refusal.TheVariants.{BadLength}
use Rattle.open_calls.specs.declared.Refused.{Refused}
use Rattle.open_calls.specs.Answers.{Judgement, valid_length}
use Rattle.open_calls.specs.Steps.{and_then, call_judged}
use Rattle.comparisons.specs.declared.Comparison.{Comparison}
use Rattle.comparisons.specs.Answers.{compare_answer, judged, judged_list, refused_comparison, related, unless_refused}
use Rattle.comparisons.specs.Notes.{lists_related}

-- ---- step by step
module _ {A : Type 0} (j : Judgement) (next : Result A Refused) where
  pub goes_on : ◌≡◌ {A = Judgement} (Ok tt) j → next ≡ and_then j next
  goes_on e = ap (λ d. and_then d next) e

  pub stops : (refused : Refused) → ◌≡◌ {A = Judgement} (Err refused) j → ◌≡◌ {A = Result A Refused} (Err refused) (and_then j next)
  stops refused e = ap (λ d. and_then d next) e

-- ---- a list of a valid length
pub length_judged : (ratio n : ℕ) → ◌≡◌ {A = Judgement} (Ok tt) (call_judged ratio n) → valid_length n ≡ true
unfolding call_judged
length_judged ratio n e = ⊎_elim
    (λ (r : valid_ratio ratio ≡ true). ⊎_elim (λ y. y) (λ (z : valid_length n ≡ false). absurd (let f = rw (r, z) at e in cc)) (either_way (valid_length n)))
    (λ (r : valid_ratio ratio ≡ false). absurd (let f = rw r at e in cc))
    (either_way (valid_ratio ratio))

pub length_most : (n : ℕ) → valid_length n ≡ true → n ≤ 128
unfolding valid_length
length_most n h = leb-true n 128 (and_right (leb 1 n) (leb n 128) h)

-- it has a timestamp
pub some_in : (l : List Timestamp) → valid_length (length l) ≡ true → (s : Timestamp) × (s is_in l)
unfolding valid_length
some_in [] h = absurd (never_both h refl)
some_in (s ∷ l) h = (s, Memᴰ.head refl)

module _ (ratio place : ℕ) (l : List Timestamp) where
  pub length-bad : valid_length (length l) ≡ false → ◌≡◌ {A = Judgement} (Err (record { why = BadLength; place = place })) (judged_list ratio place l)
  unfolding judged_list
  length-bad z = rw z

  pub length-good : valid_length (length l) ≡ true → judged ratio [] place l ≡ judged_list ratio place l
  unfolding judged_list
  length-good y = rw y

-- ---- list by list, as the code tells it
module _ (ratio : ℕ) (a b : List Timestamp) where
  pub call_stops : (refused : Refused) → ◌≡◌ {A = Judgement} (Err refused) (call_judged ratio (length a)) → ◌≡◌ {A = Result Relation Refused} (Err refused) (lists_related ratio a b)
  unfolding lists_related
  call_stops refused e = stops _ _ refused e

  module _ (call : ◌≡◌ {A = Judgement} (Ok tt) (call_judged ratio (length a))) where
    pub first_stops : (refused : Refused) → ◌≡◌ {A = Judgement} (Err refused) (judged ratio [] 0 a) → ◌≡◌ {A = Result Relation Refused} (Err refused) (lists_related ratio a b)
    unfolding lists_related
    first_stops refused e = stops _ _ refused e ∙ goes_on _ _ call

    module _ (first : ◌≡◌ {A = Judgement} (Ok tt) (judged ratio [] 0 a)) where
      pub second_stops : (refused : Refused) → ◌≡◌ {A = Judgement} (Err refused) (judged_list ratio (length a) b)
          → ◌≡◌ {A = Result Relation Refused} (Err refused) (lists_related ratio a b)
      unfolding lists_related
      second_stops refused e = stops _ _ refused e ∙ goes_on _ _ first ∙ goes_on _ _ call

      pub both_go : (relation : Relation) → ◌≡◌ {A = Judgement} (Ok tt) (judged_list ratio (length a) b) → relation ≡ relation_of (clocks_of ratio) a b
          → ◌≡◌ {A = Result Relation Refused} (Ok relation) (lists_related ratio a b)
      unfolding lists_related
      both_go relation e f = rw f (goes_on _ _ e) ∙ goes_on _ _ first ∙ goes_on _ _ call

-- ---- the answer
abbrev answer_by : Result Relation Refused → Comparison
answer_by (Err refused) = refused_comparison refused.why refused.place
answer_by (Ok relation) = related relation

answer_then : (j : Judgement) (next : Result Relation Refused) → answer_by (and_then j next) ≡ unless_refused j (answer_by next)
answer_then (Ok x) next = refl
answer_then (Err refused) next = refl

module _ (ratio : ℕ) (a b : List Timestamp) where
  answer_is : answer_by (lists_related ratio a b) ≡ compare_answer ratio a b
  unfolding lists_related call_judged compare_answer judged_list
  answer_is = ⊎_elim
      (λ (r : valid_ratio ratio ≡ true). ⊎_elim
      (λ (n : valid_length (length a) ≡ true). rw (r, n) (answer_then (judged ratio [] 0 a) _ ∙ ap (unless_refused (judged ratio [] 0 a)) (answer_then (judged_list ratio (length a) b) _)))
      (λ (n : valid_length (length a) ≡ false). rw (r, n))
      (either_way (valid_length (length a))))
      (λ (r : valid_ratio ratio ≡ false). rw r)
      (either_way (valid_ratio ratio))

  pub answer-refused : (refused : Refused) → ◌≡◌ {A = Result Relation Refused} (Err refused) (lists_related ratio a b)
      → refused_comparison refused.why refused.place ≡ compare_answer ratio a b
  answer-refused refused e = ap answer_by e ∙ answer_is

  pub answer-related : (relation : Relation) → ◌≡◌ {A = Result Relation Refused} (Ok relation) (lists_related ratio a b) → related relation ≡ compare_answer ratio a b
  answer-related relation e = ap answer_by e ∙ answer_is
