-- One clock of a timer (Manual 7). Assumes nothing.
use Rattle.std.specs.Prelude.{ℕ, ◌+◌, ◌%◌, ◌^◌, Bool, false, not, ◌&&◌, ◌==◌, nat_lt}
use Rattle.word.specs.Choice.{choose◌then◌else◌}
use Rattle.word.specs.Word.{bit_at, field_of, bits◌to◌}
use Rattle.timer.specs.declared.Timer.{Timer}
use Rattle.timer.specs.declared.Ticked.{Ticked}

-- ---- a timer's half of TMR_CONF (Manual 7.1)

-- EN
abbrev pub enabled : (configuration : ℕ) → Bool
enabled c = bit_at 15 c

-- CONT
abbrev pub continuous : (configuration : ℕ) → Bool
continuous c = bit_at 14 c

-- GINT
abbrev pub interrupts : (configuration : ℕ) → Bool
interrupts c = bit_at 13 c

-- WDOG
abbrev pub watchdog : (configuration : ℕ) → Bool
watchdog c = bit_at 12 c

-- INTN, as a source: 0 is EXT_INT0, source 4 (Manual 7.3)
abbrev pub source_of : (configuration : ℕ) → ℕ
source_of c = 4 + field_of (bits 10 to 8) c

-- DIV
abbrev pub divisor : (configuration : ℕ) → ℕ
divisor c = field_of (bits 7 to 0) c

-- ---- a tick

-- at the maximum the count becomes 0 with CONT 1, and stays with CONT 0; elsewhere it grows by one, modulo 2 ^ 32 (Manual 7.2)
unfoldable pub next_count : (continuous : Bool) (maximum count : ℕ) → ℕ
next_count cont m n = choose n == m then (choose cont then 0 else n) else (n + 1) % 2 ^ 32

-- whether a tick reaches the maximum: the count after it is the maximum; not so with CONT 0 where it was there before
unfoldable pub reaches : (continuous : Bool) (maximum count : ℕ) → Bool
reaches cont m n = not (n == m && not cont) && next_count cont m n == m

-- ---- a clock

abbrev pub timer_of : (count maximum divider : ℕ) → Timer
timer_of n m d = record { count = n; maximum = m; divider = d }

-- a timer after a clock, and whether a tick left its count equal to the maximum
abbrev pub ticked_to : Timer → (reached : Bool) → Ticked
ticked_to t r = record { timer = t; reached = r }

-- with EN 0 the divider becomes 0, without a tick; below DIV it grows by one; at DIV or above it becomes 0, and the timer ticks (Manual 7.2)
unfoldable pub clock_timer : (configuration : ℕ) → Timer → Ticked
clock_timer c t =
    choose not (enabled c) then ticked_to (timer_of t.count t.maximum 0) false
    else choose nat_lt t.divider (divisor c) then ticked_to (timer_of t.count t.maximum (t.divider + 1)) false
    else ticked_to (timer_of (next_count (continuous c) t.maximum t.count) t.maximum 0) (reaches (continuous c) t.maximum t.count)

-- to unfold all of these
unfoldable pub ticking : Unit {0}
unfolding next_count reaches clock_timer
ticking = tt
