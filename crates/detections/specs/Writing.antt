-- Bytes written into an output.
use Rattle.std.specs.Prelude.{◌≡◌, ℕ, ◌+◌, ◌≤◌, List, ◌++◌, length, take, drop}

-- l with the bytes bs from place at on
unfoldable pub put : List ℕ → ℕ → List ℕ → List ℕ
put l at bs = take at l ++ bs ++ drop (at + length bs) l

-- bs was written at place at of l: r is the place after it, and l' the output, all other bytes as they were
pub record Wrote (l : List ℕ) (at : ℕ) (bs : List ℕ) (r : ℕ) (l' : List ℕ) : Type 0 where
  pub next : r ≡ at + length bs
  pub now : l' ≡ put l at bs

-- l became l' where findings were written from place at to place at', and there are count' of them by then: no more than
-- bytes, and what lies beyond at' is as it was
pub record Beyond (l l' : List ℕ) (at count' at' : ℕ) : Type 0 where
  pub later : at ≤ at'
  pub within : at' ≤ length l'
  pub few : count' ≤ at'
  pub rest : drop at' l' ≡ drop at' l
