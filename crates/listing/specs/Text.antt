-- Document 01, "Bridge examples": what the listing program prints, in ASCII.
use Rattle.std.specs.Prelude.{ℕ, zero, suc, ◌+◌, ◌/◌, ◌%◌, List, [], ◌∷◌, ◌++◌, ltb}
use Rattle.sequences.specs.Choice.{pick}
use Rattle.detections.specs.declared.Stamp.{Stamp}
use Rattle.detections.specs.Findings.{Finding}
use Rattle.readings.specs.Reader.{read_finding}
use Rattle.working.specs.declared.Answer.{Answer}

-- ---- numbers

-- n in decimal, without zeros before it; of a number that has more than k digits, its last k
unfoldable pub decimal_of : (k n : ℕ) → List ℕ
decimal_of zero n = []
decimal_of (suc k) n = pick (ltb n 10) ((48 + n) ∷ []) (decimal_of k (n / 10) ++ ((48 + n % 10) ∷ []))

-- a number of 64 bits has at most 20 digits
abbrev pub decimal : ℕ → List ℕ
decimal n = decimal_of 20 n

-- ---- marks and words
abbrev pub space : ℕ
space = 32

abbrev pub comma : ℕ
comma = 44

abbrev pub colon : ℕ
colon = 58

abbrev pub line_end : List ℕ
line_end = 10 ∷ []

abbrev pub word_node : List ℕ
word_node = 110 ∷ 111 ∷ 100 ∷ 101 ∷ []

-- with the space before it
abbrev pub word_at_lem : List ℕ
word_at_lem = 32 ∷ 97 ∷ 116 ∷ []

abbrev pub word_from : List ℕ
word_from = 32 ∷ 102 ∷ 114 ∷ 111 ∷ 109 ∷ []

abbrev pub word_end : List ℕ
word_end = 101 ∷ 110 ∷ 100 ∷ []

-- ---- pieces of a line, each after a mark
unfoldable pub number_text : ℕ → ℕ → List ℕ
number_text separator n = separator ∷ decimal n

-- 2:110
unfoldable pub stamp_text : ℕ → Stamp → List ℕ
stamp_text separator s = number_text separator s.logger ++ number_text colon s.tick.0

-- the first after the mark, each other after a comma
unfoldable pub listed : {A : Type 0} → (ℕ → A → List ℕ) → ℕ → List A → List ℕ
listed text separator [] = []
listed text separator (a ∷ l) = text separator a ++ listed text comma l

-- ---- lines

-- node 0 at 2:110 from 1,2
unfoldable pub line_text : Finding → List ℕ
line_text f =
    word_node ++ number_text space f.node ++ word_at_lem ++ listed stamp_text space f.stamps ++ word_from ++ listed number_text space f.events
    ++ line_end

unfoldable pub lines_text : List Finding → List ℕ
lines_text [] = []
lines_text (f ∷ fs) = line_text f ++ lines_text fs

-- end 0 0 1 20
unfoldable pub end_text : Answer → List ℕ
end_text a =
    word_end ++ number_text space a.number ++ number_text space a.place ++ number_text space a.findings ++ number_text space a.bytes
    ++ line_end

-- the lines of n findings that stand one after the other in some bytes, from a place on; none where no whole finding stands
unfoldable pub lines_at : List ℕ → ℕ → ℕ → List ℕ
lines_at b at zero = []
lines_at b at (suc n) =
    pick (read_finding b at).whole (line_text (read_finding b at).finding ++ lines_at b (read_finding b at).next n) []
