-- Document 01, "Stamps": stamps and their order.
use Rattle.std.specs.Prelude.{Bool, not, ◌&&◌, ℕ, ◌+◌, ◌-◌, ◌/◌, ◌^◌, ltb, leb, eqb}
use Rattle.sequences.specs.Choice.{pick}
use Rattle.timestamps.specs.declared.LocalTick.{LocalTick}
use Rattle.timestamps.specs.declared.GlobalTick.{GlobalTick}
use Rattle.timestamps.specs.declared.Timestamp.{Timestamp}

-- the clocks of the loggers, by how many local ticks are in a global tick: one ratio for all of them
pub record Clocks : Type 0 where
  pub ratio : ℕ

abbrev pub clocks_of : ℕ → Clocks
clocks_of ratio = record { ratio = ratio }

-- the ratio of the logger at a place
abbrev pub ratio_of : Clocks → ℕ → ℕ
ratio_of clocks place = clocks.ratio

-- a local tick divided by a ratio, rounded down
abbrev pub quotient : ℕ → LocalTick → GlobalTick
quotient ratio t = record { 0 = t.0 / ratio }

-- the global tick of a stamp: its local tick divided by the ratio of its logger
unfoldable pub global_of : Clocks → Timestamp → GlobalTick
global_of clocks s = quotient (ratio_of clocks s.logger) s.tick

-- a global tick plus 1 is less than another
unfoldable pub clearly_earlier : GlobalTick → GlobalTick → Bool
clearly_earlier g h = ltb (g.0 + 1) h.0

-- s is before t: one logger and a smaller local tick, or two loggers and s's global tick plus 1 is less than t's
unfoldable pub before : Clocks → Timestamp → Timestamp → Bool
before clocks s t =
    pick (eqb s.logger t.logger)
    (ltb s.tick.0 t.tick.0)
    (clearly_earlier (global_of clocks s) (global_of clocks t))

-- neither is before the other
unfoldable pub concurrent : Clocks → Timestamp → Timestamp → Bool
concurrent clocks s t = not (before clocks s t) && not (before clocks t s)

-- a local tick is below the limit, and at most 2^63 − 1
abbrev pub tick_limit : ℕ
tick_limit = 2 ^ 63

abbrev pub largest_tick : ℕ
largest_tick = tick_limit - 1

-- a stamp that 36 lets pass: a logger place of 0 to 7 and a tick below 2^63
unfoldable pub valid : Timestamp → Bool
valid s = leb s.logger 7 && leb s.tick.0 largest_tick

-- a ratio that 34 lets pass
unfoldable pub valid_ratio : ℕ → Bool
valid_ratio ratio = leb 1 ratio && leb ratio 1000000

-- the blank stamp
abbrev pub blank : Timestamp
blank = record { logger = 255; tick = record { 0 = 0 } }
