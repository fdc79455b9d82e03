-- The notes of the five events: logger 1 at 80 and 95, logger 2 at 120, logger 3 at 100, logger 2 at 300, ten local ticks in a global one.
use mathlib.Core.List.{List, [], ◌∷◌}
use mathlib.Core.Path.{◌≡◌, refl}
use Prim.Native.Nat.{ℕ, zero, suc, ◌<◌, ◌+◌}
use native.Mathlib.Omega.{arith}
use lib.ListN.{get_or, replicate}
use Rattle.timestamps.specs.declared.Timestamp.{Timestamp}
use Rattle.timestamps.specs.Order.{blank, clocks_of, global_of}
use Rattle.occurrences.specs.Packed.{Notes}
use Rattle.waiting_lists.specs.Lists.{Waits}
use Rattle.waiting_lists.proofs.Waits.{waits-none}

abbrev pub five : List Timestamp
five = record { logger = 1; tick = record { 0 = 80 } } ∷ record { logger = 1; tick = record { 0 = 95 } } ∷ record { logger = 2; tick = record { 0 = 120 } } ∷ record { logger = 3; tick = record { 0 = 100 } } ∷ record { logger = 2; tick = record { 0 = 300 } } ∷ []

abbrev pub ticks : List ℕ
ticks = 0 ∷ 81 ∷ 96 ∷ 121 ∷ 101 ∷ 301 ∷ []

abbrev pub globals : List ℕ
globals = 0 ∷ 9 ∷ 10 ∷ 13 ∷ 11 ∷ 31 ∷ []

pub tick_of_lem : (e : ℕ) → e < 5 → get_or ticks (e + 1) 0 ≡ (get_or five e blank).tick.0 + 1
tick_of_lem zero l = refl
tick_of_lem (suc zero) l = refl
tick_of_lem (suc (suc zero)) l = refl
tick_of_lem (suc (suc (suc zero))) l = refl
tick_of_lem (suc (suc (suc (suc zero)))) l = refl
tick_of_lem (suc (suc (suc (suc (suc e))))) l = absurd (omega (arith, l))

pub global_of_lem : (e : ℕ) → e < 5 → get_or globals (e + 1) 0 ≡ (global_of (clocks_of 10) (get_or five e blank)).0 + 1
unfolding global_of
global_of_lem zero l = refl
global_of_lem (suc zero) l = refl
global_of_lem (suc (suc zero)) l = refl
global_of_lem (suc (suc (suc zero))) l = refl
global_of_lem (suc (suc (suc (suc zero)))) l = refl
global_of_lem (suc (suc (suc (suc (suc e))))) l = absurd (omega (arith, l))

abbrev pub noted : Notes ticks globals
noted = record {
  clocks = clocks_of 10;
  stamps = five;
  no_tick = refl;
  no_global = refl;
  tick-room = omega arith;
  global-room = omega arith;
  tick = tick_of_lem;
  global = global_of_lem;
}

-- a row of 17 that is cleared: nothing waits
abbrev pub cleared : List (List ℕ)
cleared = replicate 17 (0 ∷ 0 ∷ 0 ∷ [])

pub none_wait : Waits noted cleared []
none_wait = waits-none noted cleared (omega arith) (omega arith) refl
