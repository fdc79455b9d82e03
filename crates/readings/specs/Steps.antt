-- What the functions compute step by step. Readers of the promises need none of these.
use Rattle.std.specs.Prelude.{ℕ, Result, Ok, Err}
use Rattle.forms.specs.Sections.{Read, got, bad}
use Rattle.readings.specs.declared.NoFinding.{NoFinding}

-- a value and the place after it, as what it stands for; or the reader's one fault, at its place
abbrev pub read_as : {A B : Type 0} → (A → B) → Result (A × ℕ) NoFinding → Read B
read_as f (Ok r) = got (f r.0) r.1
read_as f (Err e) = bad 1 e.place
