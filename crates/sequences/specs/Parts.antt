-- A part of a list, by its places.
use Rattle.std.specs.Prelude.{List, ℕ, ◌-◌, drop, take}

-- from place a to before place e
unfoldable pub part_of : {A : Type 0} → ℕ → ℕ → List A → List A
part_of a e l = take (e - a) (drop a l)
