-- What the functions compute step by step. Readers of the promises need none of these.
use Rattle.std.specs.Prelude.{ℕ, zero, suc, ◌+◌, ◌-◌, ◌/◌, ◌%◌, List, [], ◌∷◌, ◌++◌, eqb, ltb, get_or}
use Rattle.sequences.specs.Choice.{pick}
use Rattle.detections.specs.Findings.{stamp}

-- ---- a word of a packed occurrence: the local tick of a stamp plus one, 0 where there is none
-- how many stamps that is
abbrev pub one_if : ℕ → ℕ
one_if w = pick (ltb 0 w) 1 0

-- its bytes, under the number of its logger
unfoldable pub stamp_bytes : ℕ → ℕ → List ℕ
stamp_bytes logger w = pick (ltb 0 w) (stamp.bytes (record { logger = logger; tick = record { 0 = w - 1 } })) []

-- ---- a packed number: the bytes of the stamps that its lowest d bytes name, of which the lowest is that of logger place k
unfoldable pub named_bytes : List ℕ → List ℕ → ℕ → ℕ → ℕ → List ℕ
named_bytes ticks loggers zero k n = []
named_bytes ticks loggers (suc d) k n = stamp_bytes (get_or loggers k 0) (get_or ticks (n % 256) 0) ++ named_bytes ticks loggers d (k + 1) (n / 256)

-- ---- a word of events: the numbers of the bits that are set in its lowest d, of which the lowest has the number `first`
unfoldable pub bits_from : ℕ → ℕ → ℕ → List ℕ
bits_from zero first word = []
bits_from (suc d) first word = pick (eqb (word % 2) 1) (first ∷ bits_from d (first + 1) (word / 2)) (bits_from d (first + 1) (word / 2))
