-- Document 01's listing of D1, byte for byte.
use mathlib.Core.Path.{◌≡◌, refl}
use mathlib.Core.List.{List, [], ◌∷◌}
use Prim.Native.Nat.{ℕ}
use Rattle.detections.specs.Findings.{Finding}
use Rattle.working.specs.declared.Answer.{Answer}
use Rattle.listing.specs.Text.{decimal_of, number_text, stamp_text, listed, line_text, end_text}

-- node 0, stamp 2:110, events 1 and 2
abbrev d1 : Finding
d1 = record { node = 0; stamps = record { logger = 2; tick = record { 0 = 110 } } ∷ []; events = 1 ∷ 2 ∷ [] }

abbrev answer : Answer
answer = record { number = 0; place = 0; findings = 1; bytes = 20 }

-- "node 0 at 2:110 from 1,2" and the line end
abbrev first_line : List ℕ
first_line =
    110 ∷ 111 ∷ 100 ∷ 101 ∷ 32 ∷ 48 ∷ 32 ∷ 97 ∷ 116 ∷ 32 ∷ 50 ∷ 58 ∷ 49 ∷ 49 ∷ 48 ∷ 32 ∷ 102 ∷ 114 ∷ 111 ∷ 109 ∷ 32 ∷ 49 ∷ 44 ∷ 50 ∷ 10 ∷ []

-- "end 0 0 1 20" and the line end
abbrev last_line : List ℕ
last_line = 101 ∷ 110 ∷ 100 ∷ 32 ∷ 48 ∷ 32 ∷ 48 ∷ 32 ∷ 49 ∷ 32 ∷ 50 ∷ 48 ∷ 10 ∷ []

d1_line : line_text d1 ≡ first_line
unfolding decimal_of number_text stamp_text listed line_text
d1_line = refl

d1_end : end_text answer ≡ last_line
unfolding decimal_of number_text end_text
d1_end = refl

-- the largest number of 64 bits: 18446744073709551615
largest : number_text 32 18446744073709551615
    ≡ 32 ∷ 49 ∷ 56 ∷ 52 ∷ 52 ∷ 54 ∷ 55 ∷ 52 ∷ 52 ∷ 48 ∷ 55 ∷ 51 ∷ 55 ∷ 48 ∷ 57 ∷ 53 ∷ 53 ∷ 49 ∷ 54 ∷ 49 ∷ 53 ∷ []
unfolding decimal_of number_text
largest = refl
