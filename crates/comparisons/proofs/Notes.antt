-- What the gathering of a list says of its timestamps.
use Rattle.std.proofs.Common.{◌≡◌, ℕ, ◌+◌, ◌-◌, ◌<◌, ◌≤◌, min, max, Bool, true, false, not, ◌&&◌, ◌||◌, ltb, List, [], ◌∷◌, ◌++◌, set, sym, refl, ap, ◌∙◌, subst, ⊎_elim, arith, lit<, length-set, get_or-set_other, get_or-set_same, ltb-true, le-ltb, lt-ltb}
use mathlib.Core.List.Memᴰ
use native.Mathlib.Decide.{ℕ_discrete, dec_lt}
use lib.ListN.{get_or-replicate}
use Rattle.sequences.specs.Members.{◌is_in◌, SameMembers}
use Rattle.sequences.specs.Select.{some_passes}
use Rattle.sequences.proofs.Booleans.{and_both, and_left, and_right, or_cases, or_left, or_right, same_test}
use Rattle.sequences.proofs.Select.{any_in, any_none, any_of}
use Rattle.timestamps.specs.declared.Timestamp.{Timestamp}
use Rattle.timestamps.specs.Order.{Clocks, before, concurrent, global_of, largest_tick, valid}
use Rattle.timestamps.proofs.Composite.{same-stamp}
use Rattle.timestamps.proofs.Groupings.{valid-place, valid-tick}
use Rattle.timestamps.proofs.Stamps.{before_one, before-two, clear_before, global-small}
use Rattle.open_calls.specs.Notes.{local_note, note_at}
use Rattle.comparisons.specs.declared.Gathering.{Gathering}
use Rattle.comparisons.specs.Notes.{NotedList, NotedIn, global_at, global_zero, no_lowest, noted_at, nothing_gathered, widened_by}

pub global-fits : (clocks : Clocks) (s : Timestamp) → valid s ≡ true → (global_of clocks s).0 < no_lowest
global-fits clocks s v =
    let t : s.tick.0 ≤ largest_tick = valid-tick s v in
    let b : largest_tick < no_lowest = lit< tt in
    let d : (global_of clocks s).0 ≤ s.tick.0 = global-small clocks s in
    omega arith

-- ---- a list and its gathering
module _ (clocks : Clocks) where
  pub noted_none : NotedList clocks [] nothing_gathered
  noted_none = record {
    sized = (refl, refl);
    each = λ s m. absurd (Memᴰ.not-nil m);
    held = λ k l h. absurd (let e : note_at nothing_gathered.notes k ≡ 0 = none-at k l in omega arith);
    lowest = λ h. absurd (omega (arith, h));
    highest = λ h. absurd (omega (arith, h));
    near = omega arith;
    fits = lit< tt;
  }
    where
      none-at : (k : ℕ) → k < 8 → note_at nothing_gathered.notes k ≡ 0
      none-at k l = get_or-replicate 8 k 0 0 (omega arith)

  module _ (l : List Timestamp) (a : Gathering) (n : NotedList clocks l a) where
    -- no two are clearly apart
    pub apart : (s t : Timestamp) → s is_in l → t is_in l → before clocks s t ≡ false
    apart s t i j = elim (ℕ_discrete s.logger t.logger) [
      | yes e ↦ before_one clocks s t e ∙ le-ltb s.tick.0 t.tick.0
          (let f : local_note s ≡ local_note t = sym (n.each s i).local ∙ ap (note_at a.notes) e ∙ (n.each t j).local in omega arith)
      | no d ↦ before-two clocks s t d ∙ le-ltb ((global_of clocks s).0 + 1) (global_of clocks t).0
          (let x = (n.each s i).low in let y = (n.each t j).high in let z = n.near in omega (arith, x, y, z))
    ]

    -- ---- a timestamp that the list meets
    module _ (s : Timestamp) (small : (global_of clocks s).0 < no_lowest) (spot : s.logger < 8) where
      abbrev own : ℕ
      own = note_at a.notes s.logger

      abbrev g : ℕ
      g = (global_of clocks s).0

      abbrev noted : Timestamp
      noted = noted_at a.notes s.logger

      -- a test of timestamps: by what `clear` says where the loggers differ, else by what is noted of its logger
      meets : (p : Timestamp → Bool) (clear : Bool) → ((e : Timestamp) → e is_in l → (e.logger ≡ s.logger → ⊥) → p e ≡ true → clear ≡ true)
          → (clear ≡ true → some_passes p l ≡ true) → some_passes p l ≡ (clear || (ltb 0 own && p noted))
      meets p clear there back = same_test (some_passes p l) (clear || (ltb 0 own && p noted))
          (λ h. let (e, i, b) = any_of p l h in elim (ℕ_discrete e.logger s.logger) [
            | yes q ↦ (let o : own ≡ local_note e = ap (note_at a.notes) (sym q) ∙ (n.each e i).local in
                or_right clear _ (and_both (ltb 0 own) (p noted) (lt-ltb 0 own (omega arith)) (ap p (same-stamp noted e (sym q) (omega arith)) ∙ b)))
            | no d ↦ or_left clear _ (there e i d b)
          ])
          (λ h. ⊎_elim back (λ x. any_in p l (n.held s.logger spot (ltb-true 0 own (and_left (ltb 0 own) (p noted) x))) (and_right (ltb 0 own) (p noted) x)) (or_cases clear _ h))

      -- one before it
      pub met_earlier : some_passes (λ e. before clocks e s) l ≡ (ltb (a.span.lowest.0 + 1) g || (ltb 0 own && ltb (own - 1) s.tick.0))
      met_earlier = meets (λ e. before clocks e s) (ltb (a.span.lowest.0 + 1) g)
          (λ e i d b. let x : a.span.lowest.0 ≤ (global_of clocks e).0 = (n.each e i).low in
          let k : (global_of clocks e).0 + 1 < g = ltb-true _ _ (sym (before-two clocks e s d) ∙ b) in lt-ltb (a.span.lowest.0 + 1) g (omega arith))
          (λ h. let c : a.span.lowest.0 + 1 < g = ltb-true _ _ h in
          let (e, i, f) = n.lowest (omega arith) in any_in (λ e. before clocks e s) l i (clear_before clocks e s (omega arith)))
          ∙ rw (before_one clocks noted s refl)

      -- one after it
      pub met_later : some_passes (before clocks s) l ≡ (ltb (g + 1) a.span.highest.0 || (ltb 0 own && ltb s.tick.0 (own - 1)))
      met_later = meets (before clocks s) (ltb (g + 1) a.span.highest.0)
          (λ e i d b. let x : (global_of clocks e).0 ≤ a.span.highest.0 = (n.each e i).high in
          let k : g + 1 < (global_of clocks e).0 = ltb-true _ _ (sym (before-two clocks s e (λ q. d (sym q))) ∙ b) in lt-ltb (g + 1) a.span.highest.0 (omega arith))
          (λ h. let c : g + 1 < a.span.highest.0 = ltb-true _ _ h in
          let (e, i, f) = n.highest (omega arith) in any_in (before clocks s) l i (clear_before clocks s e (omega arith)))
          ∙ rw (before_one clocks s noted refl)

    -- ---- one entry more, and whether it is concurrent with all earlier ones
    module _ (s : Timestamp) (v : valid s ≡ true) where
      abbrev note : ℕ
      note = note_at a.notes s.logger

      abbrev global : ℕ
      global = (global_of clocks s).0

      abbrev clash : Timestamp → Bool
      clash e = not (concurrent clocks e s)

      clash_earlier : (e : Timestamp) → e is_in l → before clocks e s ≡ true → some_passes clash l ≡ true
      unfolding concurrent
      clash_earlier e i b = any_in clash l i (rw b)

      clash_later : (e : Timestamp) → e is_in l → before clocks s e ≡ true → some_passes clash l ≡ true
      unfolding concurrent
      clash_later e i b = any_in clash l i (rw b (and_no (before clocks e s)))
        where
          and_no : (x : Bool) → not (not x && false) ≡ true
          and_no true = refl
          and_no false = refl

      clash_none : ((e : Timestamp) → e is_in l → (before clocks e s ≡ false) × (before clocks s e ≡ false)) → some_passes clash l ≡ false
      unfolding concurrent
      clash_none f = any_none clash l (λ e i. rw ((f e i).0, (f e i).1))

      -- the same again
      pub again_in : note ≡ local_note s → s is_in l
      again_in e = Memᴰ.cast (same-stamp s (noted_at a.notes s.logger) refl (omega arith)) (n.held s.logger (valid-place s v) (omega arith))

      pub again-fits : note ≡ local_note s → some_passes clash l ≡ false
      again-fits e = clash_none (λ x i. (apart x s i (again_in e), apart s x (again_in e) i))

      -- another of its logger
      pub other_clash : (note ≡ local_note s → ⊥) → (note ≡ 0 → ⊥) → some_passes clash l ≡ true
      other_clash d z =
          let i : noted_at a.notes s.logger is_in l = n.held s.logger (valid-place s v) (omega (arith, z)) in
          elim (dec_lt (note - 1) s.tick.0) [
            | yes k ↦ clash_earlier (noted_at a.notes s.logger) i (before_one clocks (noted_at a.notes s.logger) s refl ∙ lt-ltb (note - 1) s.tick.0 k)
            | no k ↦ clash_later (noted_at a.notes s.logger) i (before_one clocks s (noted_at a.notes s.logger) refl ∙ lt-ltb s.tick.0 (note - 1) (omega (arith, k, d, z)))
          ]

      -- the first of its logger
      module _ (z : note ≡ 0) where
        differs : (e : Timestamp) → e is_in l → e.logger ≡ s.logger → ⊥
        differs e i q = let o : note ≡ local_note e = ap (note_at a.notes) (sym q) ∙ (n.each e i).local in omega arith

        pub first_clash : min a.span.lowest.0 global + 1 < max a.span.highest.0 global → some_passes clash l ≡ true
        first_clash h = elim (dec_lt (global + 1) a.span.highest.0) [
          | yes c ↦ (let (e, i, f) = n.highest (omega arith) in clash_later e i (clear_before clocks s e (omega arith)))
          | no c ↦ (let x = n.near in let y = global-fits clocks s v in let (e, i, f) = n.lowest (omega (arith, h, c, x, y)) in
              clash_earlier e i (clear_before clocks e s (omega (arith, h, c, x, f))))
        ]

        pub first_fits : max a.span.highest.0 global ≤ min a.span.lowest.0 global + 1 → some_passes clash l ≡ false
        first_fits h = clash_none (λ e i. (
          before-two clocks e s (differs e i) ∙ le-ltb ((global_of clocks e).0 + 1) global (let x = (n.each e i).low in omega (arith, h, x)),
          before-two clocks s e (λ q. differs e i (sym q)) ∙ le-ltb (global + 1) (global_of clocks e).0 (let x = (n.each e i).high in omega (arith, h, x)),
        ))

        -- with it noted down
        abbrev k : ℕ
        k = s.logger

        abbrev more : Gathering
        more = record { span = widened_by a.span (global_of clocks s); notes = set a.notes k (local_note s); globals = set a.globals k (global_of clocks s) }

        next-own : note_at more.notes k ≡ local_note s
        next-own = get_or-set_same a.notes k (local_note s) 0 (let p : k < 8 = valid-place s v in let c = n.sized.0 in omega (arith, p, c))

        next-global : global_at more.globals k ≡ global_of clocks s
        next-global = get_or-set_same a.globals k (global_of clocks s) global_zero (let p : k < 8 = valid-place s v in let c = n.sized.1 in omega (arith, p, c))

        next_else : (j : ℕ) → (j ≡ k → ⊥) → note_at more.notes j ≡ note_at a.notes j
        next_else j d = get_or-set_other a.notes k j (local_note s) 0 d

        earlier_noted : (e : Timestamp) → e is_in l → NotedIn clocks more e
        unfolding widened_by
        earlier_noted e i =
            let x : NotedIn clocks a e = n.each e i in
            record {
              place = x.place;
              local = next_else e.logger (differs e i) ∙ x.local;
              global = get_or-set_other a.globals k e.logger (global_of clocks s) global_zero (differs e i) ∙ x.global;
              low = omega (arith, x.low);
              high = omega (arith, x.high);
            }

        own_noted : NotedIn clocks more s
        unfolding widened_by
        own_noted = record { place = valid-place s v; local = next-own; global = next-global; low = omega arith; high = omega arith }

        pub noted_first : max a.span.highest.0 global ≤ min a.span.lowest.0 global + 1 → NotedList clocks (l ++ (s ∷ [])) more
        unfolding widened_by
        noted_first h = record {
          sized = (length-set a.notes k (local_note s) ∙ n.sized.0, length-set a.globals k (global_of clocks s) ∙ n.sized.1);
          each = λ e m. ⊎_elim (λ i. earlier_noted e i) (λ i. subst (NotedIn clocks more) (sym (Memᴰ.eq_of_singleton i)) own_noted) (Memᴰ.append_cases l m);
          held = λ j m p. elim (ℕ_discrete j k) [
            | yes e ↦ Memᴰ.append_right l (Memᴰ.head (same-stamp (noted_at more.notes j) s e (let o : note_at more.notes j ≡ local_note s = ap (note_at more.notes) e ∙ next-own in omega arith)))
            | no d ↦ (let o : note_at more.notes j ≡ note_at a.notes j = next_else j d in
                Memᴰ.append_left (s ∷ []) (Memᴰ.cast (same-stamp (noted_at more.notes j) (noted_at a.notes j) refl (omega arith)) (n.held j m (omega arith))))
          ];
          lowest = λ p. elim (dec_lt global a.span.lowest.0) [
            | yes c ↦ (s, Memᴰ.append_right l (Memᴰ.head refl), omega arith)
            | no c ↦ (let (e, i, f) = n.lowest (omega arith) in (e, Memᴰ.append_left (s ∷ []) i, omega arith))
          ];
          highest = λ p. elim (dec_lt a.span.highest.0 global) [
            | yes c ↦ (s, Memᴰ.append_right l (Memᴰ.head refl), omega arith)
            | no c ↦ (let (e, i, f) = n.highest (omega arith) in (e, Memᴰ.append_left (s ∷ []) i, omega arith))
          ];
          near = h;
          fits = let x : a.span.highest.0 < no_lowest = n.fits in let y : global < no_lowest = global-fits clocks s v in omega arith;
        }

  pub noted_same : (l m : List Timestamp) (a : Gathering) → SameMembers l m → NotedList clocks l a → NotedList clocks m a
  noted_same l m a w n = record {
    sized = n.sized;
    each = λ s i. n.each s (w.1 s i);
    held = λ k p h. w.0 (noted_at a.notes k) (n.held k p h);
    lowest = λ h. let (e, i, f) = n.lowest h in (e, w.0 e i, f);
    highest = λ h. let (e, i, f) = n.highest h in (e, w.0 e i, f);
    near = n.near;
    fits = n.fits;
  }
