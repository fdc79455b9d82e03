-- An arrival is appended, or the list is full.
use mathlib.Core.List.{List}
use mathlib.Core.Path.{◌≡◌}
use Prim.Native.Nat.{◌≤◌, ◌<◌}
use lib.ListN.{length}
use Rattle.occurrences.specs.declared.Occurrence.{Occurrence}
use Rattle.waiting_lists.proofs.Appends.{appended_full, appended-room}
use Rattle.std.specs.Prelude.{None, Some}
use Rattle.emissions.specs.declared.Limit.TheVariants.{ListFull}
use Rattle.arrivals.specs.Meetings.{full_limit}

pub full_limit_lem : (l : List Occurrence) (o : Occurrence) → 16 ≤ length l → Some ListFull ≡ full_limit l
full_limit_lem l o h = rw (appended_full l o h).0

pub room-limit : (l : List Occurrence) (o : Occurrence) → length l < 16 → None ≡ full_limit l
room-limit l o h = rw (appended-room l o h).0
