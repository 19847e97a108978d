-- One clock of the machine: both timers (Manual 4.11 and 7). Assumes nothing.
use Rattle.std.specs.Prelude.{ℕ, ◌+◌, ◌*◌, Bool, true, false, slice_index, slice_set}
use Rattle.word.specs.Choice.{choose◌then◌else◌}
use Rattle.word.specs.Word.{field_of}
use Rattle.word.specs.Flags.{with_flag}
use Rattle.machine.specs.Machine.{Machine, with_control, with_dividers}
use Rattle.machine.specs.Control.{control_at, with_pending, reset, INT_PEND, TMR0_CNT, TMR0_MAX_CNT, TMR_CONF}
use Rattle.timer.specs.Timer.{interrupts, watchdog, source_of, timer_of, clock_timer}
use Rattle.timer.specs.declared.Timer.{Timer}

-- ---- timer k, 0 or 1, of a machine

-- bits 15..0 of TMR_CONF are timer 0's, 31..16 timer 1's (Manual 7.1)
abbrev pub configuration_of : (k : ℕ) → Machine → ℕ
configuration_of k m = field_of (record { place = 16 * k; width = 16 }) (control_at m TMR_CONF)

-- its count and maximum are control registers, TMR1's two after TMR0's; its divider is none
abbrev pub timer_in : (k : ℕ) → Machine → Timer
timer_in k m = timer_of (control_at m (TMR0_CNT + 2 * k)) (control_at m (TMR0_MAX_CNT + 2 * k)) (slice_index m.dividers k)

-- the machine with a timer's count and divider; a clock leaves the maximum (Theorems: MaximumKept)
unfoldable pub with_timer : (k : ℕ) → Timer → Machine → Machine
with_timer k t m = with_dividers (slice_set m.dividers k t.divider) (with_control (slice_set m.control (TMR0_CNT + 2 * k) t.count) m)

-- ---- the clock of timer k

-- the machine after it, and whether a tick left the count equal to the maximum
pub record Counted : Type 0 where
  pub machine : Machine
  pub reached : Bool

unfoldable pub counted : (k configuration : ℕ) → Machine → Counted
counted k c m =
    let t = clock_timer c (timer_in k m) in
    record { machine = with_timer k t.timer m; reached = t.reached }

-- the machine after a clock, and whether that reset the core
pub record Clocked : Type 0 where
  pub machine : Machine
  pub resets : Bool

abbrev pub goes_on : Machine → Clocked
goes_on m = record { machine = m; resets = false }

-- the watchdog's reset: the whole machine as at reset, dividers 0 too; memories stay (Manual 4.12)
abbrev pub was_reset : Clocked
was_reset = record { machine = reset; resets = true }

-- the clock after which the code has this machine, or has still to reset the core
unfoldable pub leaving : Machine → (resets : Bool) → Clocked
leaving m r = choose r then was_reset else goes_on m

-- after a tick that left the count equal to the maximum: with WDOG 1 the core is reset, else with GINT 1 source INTN is requested (Manual 7.3)
unfoldable pub notified : (configuration : ℕ) → Machine → Clocked
notified c m =
    choose watchdog c then was_reset
    else choose interrupts c then goes_on (with_pending (with_flag (source_of c) (control_at m INT_PEND)) m)
    else goes_on m

unfoldable pub clock_one : (k : ℕ) → Machine → Clocked
clock_one k m =
    let c = configuration_of k m in
    let n = counted k c m in
    choose n.reached then notified c n.machine else goes_on n.machine

-- ---- the clock

-- timer 0 is clocked before timer 1; if it resets the core, timer 1 is not clocked (Manual 4.12)
unfoldable pub clock : Machine → Clocked
clock m =
    let first = clock_one 0 m in
    choose first.resets then first else clock_one 1 first.machine

-- to unfold all of these
unfoldable pub clocking : Unit {0}
unfolding with_timer counted leaving notified clock_one clock
clocking = tt
