-- What is noted of events: each one's local tick and global tick, plus one; 0 for none.
use Rattle.std.specs.Prelude.{List, map, ℕ}
use Rattle.timestamps.specs.declared.Note.{Note}

abbrev pub nothing_noted : Note
nothing_noted = record { tick = 0; global = 0 }

-- the local ticks as they are noted, and the global ticks
abbrev pub ticks_of : List Note → List ℕ
ticks_of notes = map (λ n. n.tick) notes

abbrev pub globals_of : List Note → List ℕ
globals_of notes = map (λ n. n.global) notes
