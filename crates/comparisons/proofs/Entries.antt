-- The entries of a list, judged and gathered one by one.
use Rattle.std.proofs.Common.{◌≡◌, ℕ, suc, ◌+◌, ◌<◌, ◌≤◌, true, false, List, [], ◌∷◌, ◌++◌, length, get_or, set, take, drop, sym, ap, ◌∙◌, ⊎_elim, arith, add-one, drop-cons, drop_of_length-le, ltb-true, ltb-false}
use Rattle.std.specs.Prelude.{Result, Ok, Err}
use mathlib.Core.List.Memᴰ
use lib.Seq.{take_all, take-suc}
use Rattle.sequences.proofs.Booleans.{either_way}
use Rattle.timestamps.specs.declared.GlobalTick.{GlobalTick}
use Rattle.timestamps.specs.declared.Timestamp.{Timestamp}
use Rattle.timestamps.specs.Order.{Clocks, clearly_earlier, clocks_of, global_of, quotient, valid}
use Rattle.open_calls.specs.declared.Refusal.{Refusal}
use Rattle.open_calls.specs.declared.Refusal.TheVariants.{BadEntry, NotConcurrent}
use Rattle.open_calls.specs.Answers.{Judgement}
use Rattle.open_calls.specs.Notes.{local_note, note_at}
use Rattle.comparisons.specs.declared.Gathering.{Gathering}
use Rattle.comparisons.specs.declared.Span.{Span}
use Rattle.comparisons.specs.Answers.{judged}
use Rattle.comparisons.specs.Notes.{NotedList, clashes, entry_judged, widened_by}
use Rattle.comparisons.proofs.Notes.{again_in, first_clash, first_fits, noted_first, noted_same}

-- ---- one entry, after those of l
module _ (clocks : Clocks) (l : List Timestamp) (s : Timestamp) where
  pub judged_bad : valid s ≡ false → ◌≡◌ {A = Result (Unit {0}) Refusal} (Err BadEntry) (entry_judged clocks l s)
  unfolding entry_judged
  judged_bad v = rw v

  module _ (v : valid s ≡ true) where
    pub judged_clash : clashes clocks l s ≡ true → ◌≡◌ {A = Result (Unit {0}) Refusal} (Err NotConcurrent) (entry_judged clocks l s)
    unfolding entry_judged
    judged_clash h = rw (v, h)

    pub judged_good : clashes clocks l s ≡ false → ◌≡◌ {A = Result (Unit {0}) Refusal} (Ok tt) (entry_judged clocks l s)
    unfolding entry_judged
    judged_good h = rw (v, h)

    module _ (a : Gathering) (n : NotedList clocks l a) where
      -- the same again
      pub again-noted : note_at a.notes s.logger ≡ local_note s → NotedList clocks (l ++ (s ∷ [])) a
      again-noted e =
          noted_same clocks l (l ++ (s ∷ [])) a (
            λ t j. Memᴰ.append_left (s ∷ []) j,
            λ t j. ⊎_elim (λ x. x) (λ x. Memᴰ.cast (Memᴰ.eq_of_singleton x) (again_in clocks l a n s v e)) (Memᴰ.append_cases l j),
          ) n

      -- the first of its logger, as the code tells it
      module _ (z : note_at a.notes s.logger ≡ 0) (g : GlobalTick) (wide : Span) (e : g ≡ global_of clocks s) (f : wide ≡ widened_by a.span g) where
        pub first-torn : clearly_earlier wide.lowest wide.highest ≡ true → clashes clocks l s ≡ true
        unfolding clearly_earlier widened_by
        first-torn h = first_clash clocks l a n s v z (ltb-true _ _ (rw (f, e) at h))

        pub first-good : clearly_earlier wide.lowest wide.highest ≡ false → clashes clocks l s ≡ false
        unfolding clearly_earlier widened_by
        first-good h = first_fits clocks l a n s v z (ltb-false _ _ (rw (f, e) at h))

        pub first-noted : (note : ℕ) → note ≡ local_note s → clearly_earlier wide.lowest wide.highest ≡ false
            → NotedList clocks (l ++ (s ∷ [])) (record { span = wide; notes = set a.notes s.logger note; globals = set a.globals s.logger g })
        unfolding clearly_earlier widened_by
        first-noted note m h = rw (m, f, e) (noted_first clocks l a n s v z (ltb-false _ _ (rw (f, e) at h)))

pub global_told : (ratio : ℕ) (s : Timestamp) (g : GlobalTick) → g ≡ quotient ratio s.tick → g ≡ global_of (clocks_of ratio) s
unfolding global_of
global_told ratio s g e = e

-- ---- the entries from i on
module _ (ratio from : ℕ) (xs : List Timestamp) (i : ℕ) where
  abbrev left : ℕ → Judgement
  left k = judged ratio (take k xs) (from + k) (drop k xs)

  module _ (z : Timestamp) (h : i < length xs) where
    abbrev s : Timestamp
    s = get_or xs i z

    -- this one, and those after it
    abbrev placed : Result (Unit {0}) Refusal → Judgement
    placed (Err why) = Err (record { why = why; place = from + i })
    placed (Ok _) = left (i + 1)

    rest_is : judged ratio (take i xs ++ (s ∷ [])) (suc (from + i)) (drop (suc i) xs) ≡ left (i + 1)
    rest_is =
        let next : suc (from + i) ≡ from + (i + 1) = omega arith in
        ap (λ p. judged ratio (take i xs ++ (s ∷ [])) p (drop (suc i) xs)) next ∙ rw (add-one, take-suc xs i z h)

    left_is : left i ≡ placed (entry_judged (clocks_of ratio) (take i xs) s)
    unfolding judged entry_judged
    left_is = rw (drop-cons xs i z h) (⊎_elim
        (λ (v : valid s ≡ true). ⊎_elim
        (λ (b : clashes (clocks_of ratio) (take i xs) s ≡ true). rw (v, b))
        (λ (b : clashes (clocks_of ratio) (take i xs) s ≡ false). rw (v, b) rest_is)
        (either_way (clashes (clocks_of ratio) (take i xs) s)))
        (λ (v : valid s ≡ false). rw v)
        (either_way (valid s)))

    pub judged_next : ◌≡◌ {A = Result (Unit {0}) Refusal} (Ok tt) (entry_judged (clocks_of ratio) (take i xs) s) → left (i + 1) ≡ left i
    judged_next e = ap placed e ∙ sym left_is

    pub judged_stop : (why : Refusal) → ◌≡◌ {A = Result (Unit {0}) Refusal} (Err why) (entry_judged (clocks_of ratio) (take i xs) s)
        → ◌≡◌ {A = Judgement} (Err (record { why = why; place = from + i })) (left i)
    judged_stop why e = ap placed e ∙ sym left_is

    pub noted_next : (a : Gathering) → NotedList (clocks_of ratio) (take i xs ++ (s ∷ [])) a → NotedList (clocks_of ratio) (take (i + 1) xs) a
    noted_next a n = rw (add-one, take-suc xs i z h) n

  pub judged_end : length xs ≤ i → ◌≡◌ {A = Judgement} (Ok tt) (left i)
  unfolding judged
  judged_end h = rw (drop_of_length-le xs h)

  pub noted_end : (a : Gathering) → length xs ≤ i → NotedList (clocks_of ratio) (take i xs) a → NotedList (clocks_of ratio) xs a
  noted_end a h n = rw (take_all i xs h) at n
