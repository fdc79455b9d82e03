-- What the code's answers stand for.
use Rattle.std.specs.Prelude.{ℕ, ◌+◌, List, length, leb, Result, Ok, Err}
use Rattle.sequences.specs.Choice.{pick}
use Rattle.forms.specs.Bytes.{value_at}
use Rattle.forms.specs.Sections.{within, Read, got, bad, judged}
use Rattle.forms.specs.declared.NumberFault.{NumberFault}
use Rattle.forms.specs.declared.NumberFault.TheVariants.{CutShort, Outside}

-- a number of w bytes at a place, from low to high
unfoldable pub number_read : ℕ → ℕ → ℕ → List ℕ → ℕ → Result ℕ NumberFault
number_read w low high b at =
    pick (leb (at + w) (length b)) (pick (within low high (value_at w b at)) (Ok (value_at w b at)) (Err Outside)) (Err CutShort)

-- the same with the file's faults: `cut` where it is not complete, `wrong` where it is outside
abbrev pub read_of : ℕ → ℕ → ℕ → ℕ → Result ℕ NumberFault → Read ℕ
read_of cut wrong w at (Err CutShort) = bad cut at
read_of cut wrong w at (Err Outside) = bad wrong at
read_of cut wrong w at (Ok v) = got v (at + w)

-- a value under its fault, 0 for none, at the place after it or of the fault: laws of a loop that fills an array say it so
unfoldable pub seen : {A : Type 0} → ℕ → A → ℕ → Read A
seen fault a at = judged fault a at at
