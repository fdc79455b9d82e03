-- The stamps that are left, written from here, make all of them.
use Rattle.std.proofs.Common.{◌≡◌, ℕ, ◌+◌, ◌*◌, ◌-◌, ◌≤◌, List, length, drop}
use Rattle.detections.specs.Writing.{Wrote}
use Rattle.listing.specs.Text.{space, listed, stamp_text}
use Rattle.listing.proofs.put_stamps.Given as goal

abbrev pub invariant-loop-s : goal.invariant-loop-s
invariant-loop-s l = record {
  onward : l.at ≤ l.to;
  room : l.to + 42 * (length l.stamps - l.s-index) ≤ l.at + 42 * length l.stamps;
  same : length l.page ≡ length l.fn.page;
  rest : (r : ℕ) (p : List ℕ) → Wrote l.page l.to (listed stamp_text l.separator (drop l.s-index l.stamps)) r p → Wrote l.fn.page l.at (listed stamp_text space l.stamps) r p;
}
