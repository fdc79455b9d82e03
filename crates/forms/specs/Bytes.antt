-- Numbers in bytes, big-endian.
use Rattle.std.specs.Prelude.{ℕ, zero, suc, ◌+◌, ◌*◌, ◌/◌, ◌%◌, ◌^◌, ◌<◌, List, [], ◌∷◌, length, get_or, take, drop}

-- v in w bytes, the highest first; of a number that needs more, its lowest w bytes
unfoldable pub big_endian : ℕ → ℕ → List ℕ
big_endian zero v = []
big_endian (suc w) v = v / 256 ^ w % 256 ∷ big_endian w v

-- the number that bytes make, the highest first
unfoldable pub value_of : List ℕ → ℕ
value_of [] = 0
value_of (x ∷ l) = x * 256 ^ length l + value_of l

-- the number that w bytes make from a place on
abbrev pub value_at : ℕ → List ℕ → ℕ → ℕ
value_at w b at = value_of (take w (drop at b))

-- each element is a byte
abbrev pub Bytes : List ℕ → Type 0
Bytes b = (i : ℕ) → get_or b i 0 < 256
