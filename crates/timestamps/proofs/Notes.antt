-- The tables of what is noted, and the notes themselves.
use Rattle.std.proofs.Common.{◌≡◌, ℕ, List, length, get_or, sym, ap, ◌∙◌}
use lib.ListN.{length-map, get_or-map, set}
use Rattle.std.proofs.lemmas.List.{map-set}
use Rattle.timestamps.specs.declared.Note.{Note}
use Rattle.timestamps.specs.Notes.{globals_of, nothing_noted, ticks_of}

module _ (notes : List Note) where
  pub tick_noted : (i : ℕ) → get_or (ticks_of notes) i 0 ≡ (get_or notes i nothing_noted).tick
  tick_noted i = get_or-map (λ n. n.tick) notes i nothing_noted

  pub global_noted : (i : ℕ) → get_or (globals_of notes) i 0 ≡ (get_or notes i nothing_noted).global
  global_noted i = get_or-map (λ n. n.global) notes i nothing_noted

  -- what is noted of the event that another number names too
  pub tick_here : (i n : ℕ) → i ≡ n → get_or (ticks_of notes) n 0 ≡ (get_or notes i nothing_noted).tick
  tick_here i n e = ap (λ m. get_or (ticks_of notes) m 0) (sym e) ∙ tick_noted i

  pub global_here : (i n : ℕ) → i ≡ n → get_or (globals_of notes) n 0 ≡ (get_or notes i nothing_noted).global
  global_here i n e = ap (λ m. get_or (globals_of notes) m 0) (sym e) ∙ global_noted i

  pub length_ticks : length (ticks_of notes) ≡ length notes
  length_ticks = length-map notes (λ n. n.tick)

  pub length_globals : length (globals_of notes) ≡ length notes
  length_globals = length-map notes (λ n. n.global)

  -- one noted anew
  pub ticks_set : (i : ℕ) (n : Note) → ticks_of (set notes i n) ≡ set (ticks_of notes) i n.tick
  ticks_set i n = map-set (λ n. n.tick) notes i n

  pub globals_set : (i : ℕ) (n : Note) → globals_of (set notes i n) ≡ set (globals_of notes) i n.global
  globals_set i n = map-set (λ n. n.global) notes i n
