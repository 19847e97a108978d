-- What holds of timers and of the clock. Assumes nothing.
use Rattle.std.proofs.Common.{◌≡◌, ℕ, zero, suc, ◌+◌, ◌*◌, ◌/◌, ◌%◌, ◌^◌, ◌<◌, ◌≤◌, Bool, true, false, eqb, ◌≢◌, List, set, sym, refl, ap, ◌∙◌, true≢false, add-one, arith, lit<, eq-eqb, ne_eqb}
use native.Mathlib.Nat.{div-div-eq-div-mul}
use lib.Seq.{set-get_or}
use Rattle.word.specs.Choice.{choose◌then◌else◌}
use Rattle.word.specs.Word.{bit_at, field_of}
use Rattle.word.specs.Flags.{with_flag, is_among}
use Rattle.word.proofs.Tests.{if_holds}
use Rattle.word.proofs.Flags.{apart_among}
use Rattle.machine.specs.Machine.{Machine, with_control, with_dividers}
use Rattle.machine.specs.Control.{control_at, with_pending, reset, INT_PEND, TMR0_CNT, TMR_CONF}
use Rattle.machine.specs.Words.{TIMERS}
use Rattle.machine.proofs.Lists.{at_set_other, pair_set}
use Rattle.timer.specs.Timer.{enabled, continuous, interrupts, watchdog, source_of, divisor, next_count, timer_of, ticked_to, clock_timer}
use Rattle.timer.specs.Clock.{configuration_of, timer_in, with_timer, counted, notified, Clocked, goes_on, was_reset, clock_one, clock}
use Rattle.timer.specs.Theorems.{Disabled, MaximumKept, clocks_of, FirstTick, Ticks, IdleClock, ResetClock, CLOCKED, ClockKept, ClockKeeps}
use Rattle.timer.specs.declared.Timer.{Timer}
use Rattle.timer.specs.declared.Ticked.{Ticked}
use Rattle.timer.proofs.Laws.{divisor_is, TicksTo, restarts, stays, counts, clock_disabled, clock_divided, clock_ticks}

-- ---- one timer

pub disabled : Disabled
disabled c t e = sym (clock_disabled c t e)

pub maximum_kept : MaximumKept
unfolding clock_timer
maximum_kept c t =
    let P : Ticked → Type 0 = λ x. x.timer.maximum ≡ t.maximum in
    if_holds P _ (λ _. refl) (λ _. if_holds P _ (λ _. refl) (λ _. refl))

module _ (c n m : ℕ) (on : enabled c ≡ true) where
  up_to : (k : ℕ) → k ≤ divisor c → clocks_of k c (timer_of n m 0) ≡ timer_of n m k
  unfolding clocks_of
  up_to zero h = refl
  up_to (suc k) h =
      let l : k < c % 256 = omega (arith, divisor_is c) in
      ap (λ (t : Timer). (clock_timer c t).timer) (up_to k (omega arith))
      ∙ ap (λ (x : Ticked). x.timer) (sym (clock_divided c (timer_of n m k) on l))
      ∙ ap (timer_of n m) (add-one k)

  then_ticks : clocks_of (divisor c + 1) c (timer_of n m 0) ≡ timer_of (next_count (continuous c) m n) m 0
  unfolding clocks_of
  then_ticks =
      ap (λ (k : ℕ). clocks_of k c (timer_of n m 0)) (add-one (divisor c))
      ∙ ap (λ (t : Timer). (clock_timer c t).timer) (up_to (divisor c) (omega arith))
      ∙ ap (λ (x : Ticked). x.timer) (sym (clock_ticks c (timer_of n m (divisor c)) on (omega (arith, divisor_is c)) (refl, refl)))

pub first_tick : FirstTick
first_tick c n m on = record { counts = up_to c n m on; ticks = then_ticks c n m on }

module _ (c n m d : ℕ) (on : enabled c ≡ true) (h : divisor c ≤ d) where
  ticked : {x : ℕ} {b : Bool} → TicksTo (continuous c) m n x b → clock_timer c (timer_of n m d) ≡ ticked_to (timer_of x m 0) b
  ticked e = sym (clock_ticks c (timer_of n m d) on (omega (arith, divisor_is c)) e)

pub ticks : Ticks
ticks c n m d on h =
    let counted : n ≢ m → clock_timer c (timer_of n m d) ≡ ticked_to (timer_of ((n + 1) % 2 ^ 32) m 0) (eqb ((n + 1) % 2 ^ 32) m) = λ k. ticked c n m d on h (counts (continuous c) m n k) in
    record {
      stays = λ k e. ticked c n m d on h (stays (continuous c) m n e k);
      restarts = λ k e z. rw (← ne_eqb 0 m (λ f. z (sym f))) (ticked c n m d on h (restarts (continuous c) m n e k));
      every_tick = λ k e f. rw (← eq-eqb 0 m (sym f)) (ticked c n m d on h (restarts (continuous c) m n (e ∙ sym f) k));
      counts = counted;
      wraps = λ e k. let z : (n + 1) % 2 ^ 32 ≡ 0 = omega arith in rw z at (counted k);
    }

-- ---- timer k

-- with EN 0
one_idle : (k : ℕ) (m : Machine) → enabled (configuration_of k m) ≡ false → clock_one k m ≡ goes_on (with_dividers (set m.dividers k 0) m)
unfolding clock_one counted with_timer with_control with_dividers choose◌then◌else◌
one_idle k m e =
    rw (disabled (configuration_of k m) (timer_in k m) e, set-get_or m.control (TMR0_CNT + 2 * k) 0)

pub kept_refl : (m : Machine) → ClockKept m m
kept_refl m = record { set1 = refl; set2 = refl; conditions = refl; control = λ n h. refl; position = refl; stack = refl }

pub kept_then : {a b c : Machine} → ClockKept a b → ClockKept b c → ClockKept a c
kept_then x y =
    record {
      set1 = y.set1 ∙ x.set1;
      set2 = y.set2 ∙ x.set2;
      conditions = y.conditions ∙ x.conditions;
      control = λ n h. y.control n h ∙ x.control n h;
      position = y.position ∙ x.position;
      stack = y.stack ∙ x.stack;
    }

-- the count is one of the registers that a clock changes
count_changes : (k : ℕ) → k < TIMERS → is_among (TMR0_CNT + 2 * k) CLOCKED ≡ true
unfolding is_among
count_changes zero h = refl
count_changes (suc zero) h = refl
count_changes (suc (suc k)) h = absurd (omega arith)

control_kept : (m : Machine) (i x : ℕ) → is_among i CLOCKED ≡ true → ClockKept m (with_control (set m.control i x) m)
unfolding with_control
control_kept m i x a =
    record {
      set1 = refl;
      set2 = refl;
      conditions = refl;
      control = λ n h. at_set_other m.control i n x (apart_among CLOCKED n i a h);
      position = refl;
      stack = refl;
    }

dividers_kept : (m : Machine) (l : List ℕ) → ClockKept m (with_dividers l m)
unfolding with_dividers
dividers_kept m l = record { set1 = refl; set2 = refl; conditions = refl; control = λ n h. refl; position = refl; stack = refl }

timer_kept : (k : ℕ) (t : Timer) (m : Machine) → k < TIMERS → ClockKept m (with_timer k t m)
unfolding with_timer with_control
timer_kept k t m h = kept_then (control_kept m (TMR0_CNT + 2 * k) t.count (count_changes k h)) (dividers_kept _ _)

notified_kept : (c : ℕ) (m : Machine) → (notified c m).resets ≡ false → ClockKept m (notified c m).machine
unfolding notified choose◌then◌else◌ with_pending is_among
notified_kept c m = go (watchdog c) (interrupts c)
  where
    go : (a b : Bool) → (let r = choose a then was_reset else choose b then goes_on (with_pending (with_flag (source_of c) (control_at m INT_PEND)) m) else goes_on m in r.resets ≡ false → ClockKept m r.machine)
    go true b e = absurd (true≢false e)
    go false true e = control_kept m INT_PEND _ refl
    go false false e = kept_refl m

pub one_kept : (k : ℕ) (m : Machine) → k < TIMERS → (clock_one k m).resets ≡ false → ClockKept m (clock_one k m).machine
unfolding clock_one counted
one_kept k m h =
    let c = configuration_of k m in
    let t = clock_timer c (timer_in k m) in
    let n = with_timer k t.timer m in
    if_holds (λ (x : Clocked). x.resets ≡ false → ClockKept m x.machine) t.reached
    (λ _ e. kept_then (timer_kept k t.timer m h) (notified_kept c n e))
    (λ _ e. timer_kept k t.timer m h)

-- ---- the clock

pub clock_keeps : ClockKeeps
unfolding clock
clock_keeps m =
    let a = clock_one 0 m in
    if_holds (λ (x : Clocked). x.resets ≡ false → ClockKept m x.machine) a.resets
    (λ r e. absurd (true≢false (sym r ∙ e)))
    (λ r e. kept_then (one_kept 0 m (lit< tt) r) (one_kept 1 a.machine (lit< tt) e))

one_resets : (k : ℕ) (m : Machine) → (clock_one k m).resets ≡ true → (clock_one k m).machine ≡ reset
unfolding clock_one notified
one_resets k m =
    let P : Clocked → Type 0 = λ x. x.resets ≡ true → x.machine ≡ reset in
    if_holds P _
    (λ _. if_holds P _ (λ _ _. refl) (λ _. if_holds P _ (λ _ e. absurd (true≢false (sym e))) (λ _ e. absurd (true≢false (sym e)))))
    (λ _ e. absurd (true≢false (sym e)))

pub reset_clock : ResetClock
unfolding clock
reset_clock m =
    if_holds (λ (x : Clocked). x.resets ≡ true → x.machine ≡ reset) (clock_one 0 m).resets (λ _. one_resets 0 m) (λ _. one_resets 1 (clock_one 0 m).machine)

-- both dividers go to 0, one after the other
idle_both : (m : Machine) → enabled (configuration_of 0 m) ≡ false → enabled (configuration_of 1 m) ≡ false
    → clock m ≡ goes_on (with_dividers (set (set m.dividers 0 0) 1 0) m)
unfolding clock with_dividers choose◌then◌else◌
idle_both m e f = rw (one_idle 0 m e, one_idle 1 (with_dividers (set m.dividers 0 0) m) f) refl

pub idle_clock : IdleClock
idle_clock m n e f = idle_both m e f ∙ ap (λ (l : List ℕ). goes_on (with_dividers l m)) (pair_set m.dividers 0 0 n)

-- bit 15 of each half of TMR_CONF
module _ (m : Machine) where
  pub low_disabled : bit_at 15 (control_at m TMR_CONF) ≡ false → enabled (configuration_of 0 m) ≡ false
  unfolding field_of
  low_disabled e =
      let x = control_at m TMR_CONF in
      let low : x / 1 % 65536 / 32768 % 2 ≡ x / 32768 % 2 = omega arith in
      ap (λ (b : ℕ). eqb b 1) low ∙ e

  pub high_disabled : bit_at 31 (control_at m TMR_CONF) ≡ false → enabled (configuration_of 1 m) ≡ false
  unfolding field_of
  high_disabled e =
      let x = control_at m TMR_CONF in
      let half : (y : ℕ) → y % 65536 / 32768 % 2 ≡ y / 32768 % 2 = λ y. omega arith in
      let high : x / 65536 % 65536 / 32768 % 2 ≡ x / 2147483648 % 2 = half (x / 65536) ∙ ap (λ (y : ℕ). y % 2) (div-div-eq-div-mul x 65536 32768) in
      ap (λ (b : ℕ). eqb b 1) high ∙ e

  -- with both 0
  pub idle_by_bits : bit_at 15 (control_at m TMR_CONF) ≡ false → bit_at 31 (control_at m TMR_CONF) ≡ false
      → with_dividers (set (set m.dividers 0 0) 1 0) m ≡ (clock m).machine
  idle_by_bits e f = sym (ap (λ (x : Clocked). x.machine) (idle_both m (low_disabled e) (high_disabled f)))
