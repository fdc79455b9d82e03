-- One timestamp more: the join of a list, its members, and its notes.
use mathlib.Core.Path.{◌≡◌, refl, sym, ap, ◌∙◌}
use mathlib.Core.Bool.{true, false}
use mathlib.Core.List.Memᴰ
use mathlib.Core.List.{List, [], ◌∷◌, ◌++◌}
use mathlib.Core.Logic.{◌⊎◌, inl, inr, ⊎_elim}
use Prim.Native.Nat.{ℕ, ◌+◌, ◌≤◌, ◌<◌}
use native.Mathlib.Decide.{ℕ_discrete, dec_lt}
use native.Mathlib.Omega.{arith}
use lib.Dec.{ltb}
use lib.ListN.{length-set, set}
use lib.Seq.{get_or-set_other, get_or-set_same}
use borrow.Author.Tests.{lt-ltb, ltb-false, ltb-true}
use Rattle.sequences.specs.Choice.{pick}
use Rattle.sequences.specs.Members.{◌is_in◌}
use Rattle.sequences.specs.Select.{each_passes}
use Rattle.sequences.proofs.Booleans.{either_way, false_of_not_true, never_both}
use Rattle.sequences.proofs.Members.{same_refl}
use Rattle.timestamps.specs.declared.CompositeTimestamp.{CompositeTimestamp}
use Rattle.timestamps.specs.declared.Timestamp.{Timestamp}
use Rattle.timestamps.specs.Composite.{members, present_at, stamp_at}
use Rattle.timestamps.specs.Join.{join_of}
use Rattle.timestamps.specs.Order.{Clocks, before, clearly_earlier, global_of, valid}
use Rattle.timestamps.proofs.Composite.{members_of, same-stamp, stamp_in}
use Rattle.timestamps.proofs.Groupings.{valid-place, valid_placeable}
use Rattle.timestamps.proofs.Join.{Placeable, join_of_covered, join_of_covers, members-join_of, members_placeable}
use Rattle.timestamps.proofs.Maxima.{covers_append, covers_same, maxima_in, maxima_of}
use Rattle.timestamps.proofs.Stamps.{before_irrefl, before_one, before-other, clear_before, global_le}
use Rattle.open_calls.specs.declared.JoinNotes.{JoinNotes}
use Rattle.open_calls.specs.Notes.{HighestNote, NotedJoin, RoomFor, Sized, clear_at, clear_note, global_note, local_note, note_at}
use Rattle.open_calls.proofs.Notes.{clear_notes, local_member, member_global, member_local, none-at, noted_by, some_at}

module _ (clocks : Clocks) (l : List Timestamp) (v : each_passes valid l ≡ true) (s : Timestamp) (w : valid s ≡ true) where
  -- the join, and the join with s
  abbrev old : CompositeTimestamp
  old = join_of clocks l

  abbrev new : CompositeTimestamp
  new = join_of clocks (l ++ (s ∷ []))

  abbrev both : List Timestamp
  both = members old ++ (s ∷ [])

  -- ---- members
  apart : (t u : Timestamp) → t is_in members old → u is_in members old → before clocks t u ≡ false
  apart t u i j =
      let p = members-join_of clocks l (valid_placeable l v) in
      (maxima_of (before clocks) l t (p.0 t i)).1 u (maxima_of (before clocks) l u (p.0 u j)).0

  join_both : join_of clocks both ≡ new
  join_both = join_of_covered clocks both (l ++ (s ∷ [])) (covers_append (before clocks) (members old) l (s ∷ []) (s ∷ [])
      (join_of_covers clocks l (valid_placeable l v)) (covers_same (before clocks) (same_refl (s ∷ []))))

  placeable : Placeable both
  placeable t m = ⊎_elim (members_placeable old t) (λ i. rw (is_s i) (valid-place s w)) (Memᴰ.append_cases (members old) m)
    where
      is_s : t is_in (s ∷ []) → t ≡ s
      is_s i = Memᴰ.eq_of_singleton i

  -- a member of the new join is one of the old or s, and before none of them
  new_of : (t : Timestamp) → t is_in members new → ((t is_in members old) ⊎ (t ≡ s)) × (before clocks t s ≡ false)
  new_of t m =
      let (i, h) = maxima_of (before clocks) both t ((members-join_of clocks both placeable).0 t (rw join_both m)) in (
        ⊎_elim (λ j. inl j) (λ j. inr (Memᴰ.eq_of_singleton j)) (Memᴰ.append_cases (members old) i),
        h s (Memᴰ.append_right (members old) (Memᴰ.head refl)),
      )

  new_in : (t : Timestamp) → t is_in both → ((u : Timestamp) → u is_in members old → before clocks t u ≡ false) → before clocks t s ≡ false → t is_in members new
  new_in t m h b = rw join_both at ((members-join_of clocks both placeable).1 t (maxima_in (before clocks) both t m (λ u i.
      ⊎_elim (h u) (λ j. ap (before clocks t) (Memᴰ.eq_of_singleton j) ∙ b) (Memᴰ.append_cases (members old) i))))

  stays : (t : Timestamp) → t is_in members old → before clocks t s ≡ false → t is_in members new
  stays t m b = new_in t (Memᴰ.append_left (s ∷ []) m) (λ u i. apart t u m i) b

  -- one that is in the join already, or before one of it, changes nothing
  kept : (s is_in members old) ⊎ ((u : Timestamp) × (u is_in members old) × (before clocks s u ≡ true)) → old ≡ new
  kept r =
      sym (join_of_covered clocks (members old) l (join_of_covers clocks l (valid_placeable l v)))
      ∙ join_of_covered clocks (members old) both (record {
        within = λ t m. Memᴰ.append_left (s ∷ []) m;
        reached = λ t m. ⊎_elim (λ i. inl i) (λ i. let e : t ≡ s = Memᴰ.eq_of_singleton i in rw e r) (Memᴰ.append_cases (members old) m);
      })
      ∙ join_both

  -- ---- notes
  module _ (notes : JoinNotes) (n : NotedJoin clocks old notes) where
    here : s.logger < 8
    here = valid-place s w

    -- no later than what its logger has
    pub added_late : local_note s ≤ note_at notes.ticks s.logger → NotedJoin clocks new notes
    added_late h =
        let y : present_at old s.logger ≡ true = some_at clocks old notes n s.logger here (omega arith) in
        let t : Timestamp = stamp_at old s.logger in
        let m : t is_in members old = stamp_in old s.logger here y in
        let e : note_at notes.ticks s.logger ≡ local_note t = member_local clocks old notes n t m in
        rw (← kept (elim (ℕ_discrete s.tick.0 t.tick.0) [
          | yes q ↦ inl (Memᴰ.cast (same-stamp s t refl q) m)
          | no q ↦ inr (t, m, before_one clocks s t refl ∙ lt-ltb s.tick.0 t.tick.0 (omega arith))
        ])) n

    -- clearly earlier than the highest
    pub added_clear : clear_note (global_note clocks s) notes.highest ≡ true → NotedJoin clocks new notes
    unfolding clearly_earlier
    added_clear c =
        let h : global_note clocks s + 1 < notes.highest = ltb-true _ _ c in
        let (u, m, e) = n.highest.some (omega arith) in
        rw (← kept (inr (u, m, clear_before clocks s u (omega arith)))) n

    -- later than what its logger has, and not clearly earlier than the highest
    module _ (after : JoinNotes) (room : RoomFor notes (global_note clocks s) after) (later : note_at notes.ticks s.logger < local_note s)
        (high : clear_note (global_note clocks s) notes.highest ≡ false) where
      abbrev g : ℕ
      g = global_note clocks s

      clear_is : (t : Timestamp) → t is_in members old → (t.logger ≡ s.logger → ⊥) → clear_at notes t.logger g ≡ before clocks t s
      clear_is t m d =
          ap (λ x. clear_note x g) (member_global clocks old notes n t m)
          ∙ clear_notes (global_of clocks t).0 (global_of clocks s).0
          ∙ sym (before-other clocks t s d)

      -- below the highest nothing is clearly earlier
      none_clear : g ≤ notes.highest → (k : ℕ) → k < 8 → clear_at notes k g ≡ true → present_at old k ≡ false
      unfolding clearly_earlier
      none_clear h k b c = false_of_not_true (present_at old k) (λ y.
          let m : stamp_at old k is_in members old = stamp_in old k b y in
          let e : note_at notes.globals k ≡ global_note clocks (stamp_at old k) = member_global clocks old notes n (stamp_at old k) m in
          let f : note_at notes.globals k + 1 < g = ltb-true _ _ c in
          let (u, i, q) = n.highest.some (omega arith) in
          never_both (clear_before clocks (stamp_at old k) u (omega arith)) (apart (stamp_at old k) u m i))

      -- so in any case those clearly earlier have left
      cleared : (k : ℕ) → k < 8
          → (note_at after.ticks k ≡ pick (clear_at notes k g) 0 (note_at notes.ticks k)) × (note_at after.globals k ≡ pick (clear_at notes k g) 0 (note_at notes.globals k))
      cleared k b = elim (dec_lt notes.highest g) [
        | yes h ↦ ((room.raised h).local k b, (room.raised h).global k b)
        | no h ↦ rw (room.same (omega arith)) (⊎_elim
            (λ c. let z : present_at old k ≡ false = none_clear (omega arith) k b c in (rw c (rw z at (n.local k b)), rw c (rw z at (n.global k b))))
            (λ c. (rw c, rw c))
            (either_way (clear_at notes k g)))
      ]

      sized : Sized after
      sized = elim (dec_lt notes.highest g) [
        | yes h ↦ (room.raised h).sized
        | no h ↦ rw (room.same (omega arith)) n.sized
      ]

      top : (notes.highest ≤ after.highest) × (g ≤ after.highest) × ((after.highest ≡ g) ⊎ ((after.highest ≡ notes.highest) × (g < notes.highest)))
      top = elim (dec_lt notes.highest g) [
        | yes h ↦ (let e : after.highest ≡ g = (room.raised h).highest in (omega arith, omega arith, inl e))
        | no h ↦ rw (room.same (omega arith)) (
          omega arith,
          omega arith,
          elim (dec_lt g notes.highest) [
            | yes q ↦ inr (refl, q)
            | no q ↦ inl (omega arith)
          ],
        )
      ]

      abbrev put : JoinNotes
      put = record { ticks = set after.ticks s.logger (local_note s); globals = set after.globals s.logger g; highest = after.highest }

      put-here : (note_at put.ticks s.logger ≡ local_note s) × (note_at put.globals s.logger ≡ g)
      put-here = (
        get_or-set_same after.ticks s.logger (local_note s) 0 (omega (arith, sized.ticks, here)),
        get_or-set_same after.globals s.logger g 0 (omega (arith, sized.globals, here)),
      )

      put_local : (k : ℕ) → (k ≡ s.logger → ⊥) → note_at put.ticks k ≡ note_at after.ticks k
      put_local k d = get_or-set_other after.ticks s.logger k (local_note s) 0 d

      put-global : (k : ℕ) → (k ≡ s.logger → ⊥) → note_at put.globals k ≡ note_at after.globals k
      put-global k d = get_or-set_other after.globals s.logger k g 0 d

      -- s is before none
      s_later : (u : Timestamp) → u is_in members old → before clocks s u ≡ true → ⊥
      unfolding clearly_earlier
      s_later u m b =
          let e : note_at notes.ticks u.logger ≡ local_note u = member_local clocks old notes n u m in
          elim (ℕ_discrete s.logger u.logger) [
            | yes q ↦ (let l : s.tick.0 < u.tick.0 = ltb-true _ _ (sym (before_one clocks s u q) ∙ b) in
                let f : note_at notes.ticks s.logger ≡ note_at notes.ticks u.logger = ap (note_at notes.ticks) q in omega arith)
            | no q ↦ (let l : (global_of clocks s).0 + 1 < (global_of clocks u).0 = ltb-true _ _ (sym (before-other clocks s u q) ∙ b) in
                let h : global_note clocks u ≤ notes.highest = n.highest.most u m in
                let k : notes.highest ≤ g + 1 = ltb-false _ _ high in omega arith)
          ]

      s_new : s is_in members new
      s_new = new_in s (Memᴰ.append_right (members old) (Memᴰ.head refl)) (λ u m. false_of_not_true (before clocks s u) (s_later u m)) (before_irrefl clocks s)

      -- what its logger had is before s
      s_after : (t : Timestamp) → t is_in members old → t.logger ≡ s.logger → before clocks t s ≡ true
      s_after t m q =
          let e : note_at notes.ticks t.logger ≡ local_note t = member_local clocks old notes n t m in
          let f : note_at notes.ticks t.logger ≡ note_at notes.ticks s.logger = ap (note_at notes.ticks) q in
          before_one clocks t s q ∙ lt-ltb t.tick.0 s.tick.0 (omega arith)

      in_it : (t : Timestamp) → t.logger < 8 → note_at put.ticks t.logger ≡ local_note t → t is_in members new
      in_it t b e = elim (ℕ_discrete t.logger s.logger) [
        | yes q ↦ (let f : local_note s ≡ local_note t = sym put-here.0 ∙ ap (note_at put.ticks) (sym q) ∙ e in Memᴰ.cast (same-stamp t s q (omega arith)) s_new)
        | no d ↦ (let f : note_at after.ticks t.logger ≡ local_note t = sym (put_local t.logger d) ∙ e in ⊎_elim
            (λ c. absurd (let z : note_at after.ticks t.logger ≡ 0 = rw c at (cleared t.logger b).0 in omega arith))
            (λ c. let k : note_at after.ticks t.logger ≡ note_at notes.ticks t.logger = rw c at (cleared t.logger b).0 in
            let m : t is_in members old = local_member clocks old notes n t b (sym k ∙ f) in
            stays t m (sym (clear_is t m d) ∙ c))
            (either_way (clear_at notes t.logger g)))
      ]

      kept_note : (t : Timestamp) → t is_in members old → before clocks t s ≡ false
          → (note_at put.ticks t.logger ≡ local_note t) × (note_at put.globals t.logger ≡ global_note clocks t)
      kept_note t m b =
          let d : t.logger ≡ s.logger → ⊥ = λ q. never_both (s_after t m q) b in
          let h : t.logger < 8 = (members_of old t m).place in
          let c : clear_at notes t.logger g ≡ false = clear_is t m d ∙ b in (
            put_local t.logger d ∙ (rw c at (cleared t.logger h).0) ∙ member_local clocks old notes n t m,
            put-global t.logger d ∙ (rw c at (cleared t.logger h).1) ∙ member_global clocks old notes n t m,
          )

      of_it : (t : Timestamp) → t is_in members new → (note_at put.ticks t.logger ≡ local_note t) × (note_at put.globals t.logger ≡ global_note clocks t)
      of_it t m =
          let (r, b) = new_of t m in
          ⊎_elim (λ i. kept_note t i b) (λ (e : t ≡ s). rw e put-here) r

      none : (k : ℕ) → k < 8 → note_at put.ticks k ≡ 0 → note_at put.globals k ≡ 0
      none k b z = elim (ℕ_discrete k s.logger) [
        | yes q ↦ absurd (let f : local_note s ≡ 0 = sym put-here.0 ∙ ap (note_at put.ticks) (sym q) ∙ z in omega arith)
        | no d ↦ put-global k d ∙ ⊎_elim
            (λ c. rw c at (cleared k b).1)
            (λ c. (rw c at (cleared k b).1) ∙ (let e : note_at notes.ticks k ≡ 0 = sym (rw c at (cleared k b).0) ∙ sym (put_local k d) ∙ z in
            let a : present_at old k ≡ false = none-at clocks old notes n k b e in rw a at (n.global k b)))
            (either_way (clear_at notes k g))
      ]

      highest : HighestNote clocks new put.highest
      unfolding clearly_earlier
      highest = record {
        most = λ t m. ⊎_elim
            (λ i. let h : global_note clocks t ≤ notes.highest = n.highest.most t i in omega (arith, top.0))
            (λ (e : t ≡ s). rw e top.1)
            (new_of t m).0;
        some = λ p. ⊎_elim (λ e. (s, s_new, sym e)) (λ q. still q.0 q.1 (n.highest.some (omega (arith, q.1)))) top.2;
      }
        where
          still : after.highest ≡ notes.highest → g < notes.highest → (u : Timestamp) × (u is_in members old) × (global_note clocks u ≡ notes.highest)
              → (u : Timestamp) × (u is_in members new) × (global_note clocks u ≡ after.highest)
          still e h (u, m, f) = (
            u,
            stays u m (false_of_not_true (before clocks u s) (λ b. elim (ℕ_discrete u.logger s.logger) [
              | yes q ↦ (let l : u.tick.0 < s.tick.0 = ltb-true _ _ (sym (before_one clocks u s q) ∙ b) in
                  let k : (global_of clocks u).0 ≤ (global_of clocks s).0 = global_le clocks u s q (omega arith) in omega arith)
              | no q ↦ (let l : (global_of clocks u).0 + 1 < (global_of clocks s).0 = ltb-true _ _ (sym (before-other clocks u s q) ∙ b) in omega arith)
            ])),
            f ∙ sym e,
          )

      pub added_put : NotedJoin clocks new put
      added_put = noted_by clocks new put in_it of_it none (record {
        ticks = length-set after.ticks s.logger (local_note s) ∙ sized.ticks;
        globals = length-set after.globals s.logger g ∙ sized.globals;
      }) highest

    -- ---- as the code tells it
    pub late_told : (note : ℕ) → note ≡ local_note s → ltb (note_at notes.ticks s.logger) note ≡ false → NotedJoin clocks new notes
    late_told note e h = added_late (let l : note ≤ note_at notes.ticks s.logger = ltb-false _ _ h in omega arith)

    pub clear_told : (g : ℕ) → g ≡ global_note clocks s → clear_note g notes.highest ≡ true → NotedJoin clocks new notes
    clear_told g e h = added_clear (rw e at h)

    pub put_told : (note g : ℕ) → note ≡ local_note s → g ≡ global_note clocks s → ltb (note_at notes.ticks s.logger) note ≡ true
        → clear_note g notes.highest ≡ false
        → (after : JoinNotes) → RoomFor notes g after
        → NotedJoin clocks new (record { ticks = set after.ticks s.logger note; globals = set after.globals s.logger g; highest = after.highest })
    put_told note g e f h c after room =
        rw (e, f) (added_put after (rw f at room) (let l : note_at notes.ticks s.logger < note = ltb-true _ _ h in omega arith) (rw f at c))
