-- A page of the listing.
use Rattle.std.specs.Prelude.{ℕ, ◌-◌, ◌≤◌, ◌≡◌, List, ◌++◌, take}
use Rattle.listing.specs.declared.Filled.{Filled}
use Rattle.listing.specs.Text.{lines_at}

-- the page begins with lines: with the lines still to come they are those of `count` findings from a place on. There is room for
-- the last line, and fewer findings are left unless there are none
pub record Fills (output : List ℕ) (from count : ℕ) (page : List ℕ) (r : Filled) : Type 0 where
  pub room : r.len ≤ 16272
  pub fewer : r.left ≤ count - 1
  pub lines : take r.len page ++ lines_at output r.next r.left ≡ lines_at output from count
