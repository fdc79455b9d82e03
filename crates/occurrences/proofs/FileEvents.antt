-- A file event: the events' bits, and its own number plus one in the byte of its logger.
use Rattle.std.proofs.Common.{◌≡◌, ℕ, ◌+◌, ◌*◌, ◌%◌, ◌^◌, ◌<◌, List, [], ◌∷◌, length, get_or, sym, ap, ◌∙◌, inl, inr, arith}
use mathlib.Core.List.Memᴰ
use native.Mathlib.Decide.{ℕ_discrete}
use Rattle.sequences.specs.Members.{◌is_in◌}
use Rattle.event_sets.specs.declared.EventSet.{EventSet}
use Rattle.event_sets.specs.Sets.{marked_with, no_events}
use Rattle.timestamps.specs.declared.Timestamp.{Timestamp}
use Rattle.timestamps.specs.Order.{blank}
use Rattle.timestamps.proofs.Composite.{composite_of-same, same-stamp}
use Rattle.timestamps.proofs.Composites.{composite-same, one_composite}
use Rattle.occurrences.specs.Occurrences.{of_event}
use Rattle.occurrences.specs.Packed.{Names, Notes, Stands, byte_at, from_words, occurrence_of, words_of}
use Rattle.occurrences.specs.Steps.{note_at}
use Rattle.occurrences.proofs.Bytes.{lone_byte, other_byte}
use Rattle.occurrences.proofs.Combination.{same-occurrence}
use Rattle.occurrences.proofs.Views.{latest_in, stamps_in_lem, stamps_of_lem, stamps_one, stamps_in, view_is}

module _ (k number : ℕ) (d e : EventSet) (x : d ≡ no_events) (y : e ≡ marked_with d number) (few : number < 128) (small : k < 8)
    (ticks globals : List ℕ) (t : Notes ticks globals) (within : number < length t.stamps) (own : (get_or t.stamps number blank).logger ≡ k) where
  abbrev word : ℕ
  word = (number + 1) * 2 ^ (8 * k) % 2 ^ 64

  abbrev packed : List ℕ
  packed = e.low ∷ e.high ∷ word ∷ []

  abbrev one : Timestamp
  one = get_or t.stamps number blank

  here : note_at ticks word k ≡ one.tick.0 + 1
  here = ap (λ n. get_or ticks n 0) (lone_byte (number + 1) k (omega arith) small) ∙ t.tick number within

  elsewhere : (j : ℕ) → (j ≡ k → ⊥) → byte_at word j ≡ 0
  elsewhere j n = other_byte (number + 1) k (omega arith) small j n

  event-names : (j : ℕ) → j < 8 → Names t.stamps j (byte_at word j)
  event-names j l = elim (ℕ_discrete j k) [
    | yes q ↦ inr (number, ap (byte_at word) q ∙ lone_byte (number + 1) k (omega arith) small, within, own ∙ sym q)
    | no n ↦ inl (elsewhere j n)
  ]

  up : (s : Timestamp) → s is_in (one ∷ []) → s is_in stamps_in ticks word
  up s m = Memᴰ.cast (Memᴰ.eq_of_singleton m) (stamps_in_lem ticks word one (rw own small) (ap (note_at ticks word) own ∙ here))

  down : (s : Timestamp) → s is_in stamps_in ticks word → s is_in (one ∷ [])
  down s m =
      let (l, e) = stamps_of_lem ticks word s m in
      elim (ℕ_discrete s.logger k) [
        | yes q ↦ (let z : one.tick.0 + 1 ≡ s.tick.0 + 1 = sym here ∙ ap (note_at ticks word) (sym q) ∙ e in Memᴰ.head (same-stamp s one (q ∙ sym own) (omega arith)))
        | no n ↦ (let z : note_at ticks word s.logger ≡ 0 = ap (λ n. get_or ticks n 0) (elsewhere s.logger n) ∙ t.no_tick in absurd (omega arith))
      ]

  events-is : (occurrence_of ticks packed).events ≡ marked_with no_events number
  unfolding from_words words_of
  events-is = y ∙ ap (λ s. marked_with s number) x

  is-event : occurrence_of ticks packed ≡ of_event one number
  unfolding of_event
  is-event = same-occurrence (latest_in ticks packed ∙ view_is ticks word ∙ composite_of-same (stamps_in ticks word) (one ∷ []) (down, up) (stamps_one ticks word)) events-is

  pub event-stands : Stands t packed (of_event one number)
  event-stands = record {
    same = is-event;
    sound = record { names = event-names; composite = rw (latest_in ticks packed) (composite-same t.clocks (down, up) (one_composite t.clocks one)) };
  }
