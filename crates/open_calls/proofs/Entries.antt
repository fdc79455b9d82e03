-- The entries of a list, judged and joined one by one, and the answer.
use Rattle.std.proofs.Common.{◌≡◌, ℕ, zero, suc, ◌+◌, ◌<◌, ◌≤◌, true, false, ◌&&◌, List, [], ◌∷◌, ◌++◌, length, get_or, take, refl, ap, ◌∙◌, ⊎_elim, arith, add-one}
use Rattle.std.specs.Prelude.{Ok, Err}
use mathlib.Core.Bool.{and-true}
use mathlib.Core.List.Memᴰ
use lib.ListN.{get_or-replicate}
use lib.Seq.{take_all, take-suc}
use Rattle.sequences.specs.Members.{◌is_in◌}
use Rattle.sequences.specs.Select.{each_passes}
use Rattle.sequences.proofs.Booleans.{and_left, and_right, either_way}
use Rattle.timestamps.specs.declared.Timestamp.{Timestamp}
use Rattle.timestamps.specs.Composite.{members}
use Rattle.timestamps.specs.Join.{join_of}
use Rattle.timestamps.specs.Order.{Clocks, before, clocks_of, valid, valid_ratio}
use Rattle.timestamps.proofs.Join.{members-join_of}
use Rattle.timestamps.proofs.Maxima.{maxima_of}
use Rattle.open_calls.specs.declared.JoinAnswer.{JoinAnswer}
use Rattle.open_calls.specs.declared.JoinNotes.{JoinNotes}
use Rattle.open_calls.specs.declared.Refusal.TheVariants.{BadEntry}
use Rattle.open_calls.specs.declared.Refused.{Refused}
use Rattle.open_calls.specs.Answers.{Judgement, first_invalid, join_answer, refused_join, shown, valid_length}
use Rattle.open_calls.specs.Notes.{Joined, no_notes, note_at, shown_from}
use Rattle.open_calls.specs.Steps.{call_judged, entries_judged, list_judged}
use Rattle.open_calls.proofs.Notes.{noted_by, shown-is}

-- ---- nothing yet
pub joined_none : (clocks : Clocks) → Joined clocks [] no_notes
joined_none clocks = noted_by clocks (join_of clocks []) no_notes
    (λ s h e. absurd (let z : note_at no_notes.ticks s.logger ≡ 0 = get_or-replicate 8 s.logger 0 0 (omega arith) in omega arith))
    (λ s m. absurd (nobody s m))
    (λ k h e. get_or-replicate 8 k 0 0 (omega arith))
    (record { ticks = refl; globals = refl })
    (record { most = λ s m. absurd (nobody s m); some = λ h. absurd (omega (arith, h)) })
  where
    nobody : (s : Timestamp) → s is_in members (join_of clocks []) → ⊥
    nobody s m = Memᴰ.not-nil (maxima_of (before clocks) [] s ((members-join_of clocks [] (λ t i. absurd (Memᴰ.not-nil i))).0 s m)).0

-- ---- the first i entries are good
pub good_next : (xs : List Timestamp) (i : ℕ) (z : Timestamp) → i < length xs → each_passes valid (take i xs) ≡ true → valid (get_or xs i z) ≡ true
    → each_passes valid (take (i + 1) xs) ≡ true
unfolding each_passes
good_next xs i z h y v = rw (add-one, take-suc xs i z h) (all_more (take i xs) ∙ rw (y, v))
  where
    all_more : (l : List Timestamp) → each_passes valid (l ++ (get_or xs i z ∷ [])) ≡ (each_passes valid l && valid (get_or xs i z))
    all_more [] = and-true (valid (get_or xs i z))
    all_more (t ∷ l) = ⊎_elim (λ y. rw y (all_more l)) (λ n. rw n) (either_way (valid t))

pub joined_next : (clocks : Clocks) (xs : List Timestamp) (i : ℕ) (z : Timestamp) (notes : JoinNotes) → i < length xs
    → Joined clocks (take i xs ++ (get_or xs i z ∷ [])) notes → Joined clocks (take (i + 1) xs) notes
joined_next clocks xs i z notes h j = rw (add-one, take-suc xs i z h) j

-- and the next is bad
pub bad_here : (xs : List Timestamp) (i : ℕ) (z : Timestamp) → i < length xs → each_passes valid (take i xs) ≡ true → valid (get_or xs i z) ≡ false
    → ◌≡◌ {A = Judgement} (Err (record { why = BadEntry; place = i })) (entries_judged xs)
unfolding entries_judged each_passes first_invalid
bad_here xs i z h y v = let (b, f) = first xs i h y v in rw (b, f)
  where
    first : (l : List Timestamp) (k : ℕ) → k < length l → each_passes valid (take k l) ≡ true → valid (get_or l k z) ≡ false
        → (each_passes valid l ≡ false) × (first_invalid l ≡ k)
    first [] k h y v = absurd (omega arith)
    first (t ∷ l) zero h y v = (rw v, rw v)
    first (t ∷ l) (suc k) h y v =
        let (b, f) = first l k (omega arith) (and_right (valid t) (each_passes valid (take k l)) y) v in
        rw (and_left (valid t) (each_passes valid (take k l)) y) (b, ap suc f)

-- all are good
pub good_all : (xs : List Timestamp) (i : ℕ) → length xs ≤ i → each_passes valid (take i xs) ≡ true → ◌≡◌ {A = Judgement} (Ok tt) (entries_judged xs)
unfolding entries_judged
good_all xs i h y = rw (rw (take_all i xs h) at y)

pub joined_all : (clocks : Clocks) (xs : List Timestamp) (i : ℕ) (notes : JoinNotes) → length xs ≤ i → Joined clocks (take i xs) notes → Joined clocks xs notes
joined_all clocks xs i notes h j = rw (take_all i xs h) at j

-- ---- the answer
-- as it is judged, with the timestamps of the join
abbrev answer_by : Judgement → List Timestamp → JoinAnswer
answer_by (Err refused) l = refused_join refused.why refused.place
answer_by (Ok _) l = record { number = 0; place = 0; timestamps = l }

module _ (ratio : ℕ) (l : List Timestamp) where
  abbrev joined : List Timestamp
  joined = shown (join_of (clocks_of ratio) l)

  answer_is : answer_by (list_judged ratio l) joined ≡ join_answer ratio l
  unfolding list_judged call_judged entries_judged join_answer
  answer_is = ⊎_elim
      (λ (r : valid_ratio ratio ≡ true). ⊎_elim
      (λ (n : valid_length (length l) ≡ true). ⊎_elim (λ (y : each_passes valid l ≡ true). rw (r, n, y)) (λ (z : each_passes valid l ≡ false). rw (r, n, z)) (either_way (each_passes valid l)))
      (λ (n : valid_length (length l) ≡ false). rw (r, n))
      (either_way (valid_length (length l))))
      (λ (r : valid_ratio ratio ≡ false). rw r)
      (either_way (valid_ratio ratio))

  pub answer-refused : (refused : Refused) → ◌≡◌ {A = Judgement} (Err refused) (list_judged ratio l) → refused_join refused.why refused.place ≡ join_answer ratio l
  answer-refused refused e = ap (λ d. answer_by d joined) e ∙ answer_is

  pub answer-joined : (notes : JoinNotes) → ◌≡◌ {A = Judgement} (Ok tt) (list_judged ratio l) → Joined (clocks_of ratio) l notes
      → ◌≡◌ {A = JoinAnswer} (record { number = 0; place = 0; timestamps = shown_from notes }) (join_answer ratio l)
  answer-joined notes e j = rw (shown-is (clocks_of ratio) (join_of (clocks_of ratio) l) notes j) (ap (λ d. answer_by d joined) e ∙ answer_is)
