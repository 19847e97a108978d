-- What is proved of timers and of the clock: the statements, each below its meaning in words (Manual 7). Assumes nothing.
use Rattle.std.specs.Prelude.{◌≡◌, ℕ, zero, suc, ◌+◌, ◌%◌, ◌^◌, ◌≤◌, true, false, ◌≢◌, List, [], ◌∷◌, length, ◌==◌}
use Rattle.std.proofs.Math.ListN.{get_elem?}
use Rattle.word.specs.Flags.{is_among}
use Rattle.machine.specs.Machine.{Machine, with_dividers}
use Rattle.machine.specs.Control.{reset, INT_PEND, TMR0_CNT, TMR1_CNT}
use Rattle.machine.specs.Words.{TIMERS, ZEROS}
use Rattle.timer.specs.Timer.{enabled, continuous, divisor, next_count, timer_of, ticked_to, clock_timer}
use Rattle.timer.specs.Clock.{configuration_of, goes_on, clock}
use Rattle.timer.specs.declared.Timer.{Timer}

-- ---- one timer

-- with EN 0 the divider becomes 0, without a tick
abbrev pub Disabled : Type 0
Disabled = (c : ℕ) (t : Timer) → enabled c ≡ false → clock_timer c t ≡ ticked_to (timer_of t.count t.maximum 0) false

-- a clock leaves the maximum
abbrev pub MaximumKept : Type 0
MaximumKept = (c : ℕ) (t : Timer) → (clock_timer c t).timer.maximum ≡ t.maximum

-- a timer after n clocks
unfoldable pub clocks_of : (n configuration : ℕ) → Timer → Timer
clocks_of zero c t = t
clocks_of (suc n) c t = (clock_timer c (clocks_of n c t)).timer

-- a timer ticks first at clock DIV + 1 after it is enabled (Manual 7.2): up to clock DIV nothing but the divider counts, from 0; the next clock takes it
-- back to 0 and ticks
pub record Divided (c n m : ℕ) : Type 0 where
  pub counts : (k : ℕ) → k ≤ divisor c → clocks_of k c (timer_of n m 0) ≡ timer_of n m k
  pub ticks : clocks_of (divisor c + 1) c (timer_of n m 0) ≡ timer_of (next_count (continuous c) m n) m 0

abbrev pub FirstTick : Type 0
FirstTick = (c n m : ℕ) → enabled c ≡ true → Divided c n m

-- a clock of a timer whose divider is at DIV or above takes it to 0 and ticks, by count and maximum (Manual 7.2)
pub record Tick (c n m d : ℕ) : Type 0 where
  -- at the maximum, with CONT 0, the count stays, and that is not reaching it
  pub stays : continuous c ≡ false → n ≡ m → clock_timer c (timer_of n m d) ≡ ticked_to (timer_of n m 0) false
  -- at the maximum, with CONT 1, the count becomes 0
  pub restarts : continuous c ≡ true → n ≡ m → m ≢ 0 → clock_timer c (timer_of n m d) ≡ ticked_to (timer_of 0 m 0) false
  -- with CONT 1, and count and maximum 0, every tick reaches the maximum
  pub every_tick : continuous c ≡ true → n ≡ 0 → m ≡ 0 → clock_timer c (timer_of n m d) ≡ ticked_to (timer_of 0 m 0) true
  -- elsewhere the count grows by one, modulo 2 ^ 32, and reaches the maximum if it is then equal to it
  pub counts : n ≢ m → clock_timer c (timer_of n m d) ≡ ticked_to (timer_of ((n + 1) % 2 ^ 32) m 0) ((n + 1) % 2 ^ 32 == m)
  -- it goes from FFFFFFFFh to 0
  pub wraps : n ≡ 0xFFFF_FFFF → n ≢ m → clock_timer c (timer_of n m d) ≡ ticked_to (timer_of 0 m 0) (0 == m)

abbrev pub Ticks : Type 0
Ticks = (c n m d : ℕ) → enabled c ≡ true → divisor c ≤ d → Tick c n m d

-- ---- the clock

-- with EN 0 in both timers a clock does nothing but take the dividers to 0
abbrev pub IdleClock : Type 0
IdleClock =
    (m : Machine) → length m.dividers ≡ TIMERS → enabled (configuration_of 0 m) ≡ false → enabled (configuration_of 1 m) ≡ false
    → clock m ≡ goes_on (with_dividers ZEROS m)

-- a clock that resets the core leaves the machine at reset, whatever it was (Manual 4.12)
abbrev pub ResetClock : Type 0
ResetClock = (m : Machine) → (clock m).resets ≡ true → (clock m).machine ≡ reset

-- the control registers that a clock may change: the pending flags and both counts
abbrev pub CLOCKED : List ℕ
CLOCKED = INT_PEND ∷ TMR0_CNT ∷ TMR1_CNT ∷ []

-- all but these and the dividers is as before
pub record ClockKept (before after : Machine) : Type 0 where
  pub set1 : after.set1 ≡ before.set1
  pub set2 : after.set2 ≡ before.set2
  pub conditions : after.conditions ≡ before.conditions
  pub control : (n : ℕ) → is_among n CLOCKED ≡ false → get_elem? after.control n ≡ get_elem? before.control n
  pub position : after.position ≡ before.position
  pub stack : after.stack ≡ before.stack

abbrev pub ClockKeeps : Type 0
ClockKeeps = (m : Machine) → (clock m).resets ≡ false → ClockKept m (clock m).machine
