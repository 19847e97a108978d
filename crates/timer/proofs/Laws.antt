-- One clock of a timer, by its cases, and how large its numbers stay. Assumes nothing.
use Rattle.std.proofs.Common.{◌≡◌, ℕ, ◌+◌, ◌/◌, ◌%◌, ◌^◌, ◌<◌, ◌≤◌, Bool, true, false, eqb, refl, mod-lt, arith, lit<, ltb-true, le-ltb, lt-ltb, eq-eqb, ne_eqb}
use Rattle.word.specs.Choice.{choose◌then◌else◌}
use Rattle.word.specs.Word.{field_of}
use Rattle.word.proofs.Tests.{if_holds}
use Rattle.machine.specs.Words.{SOURCES}
use Rattle.timer.specs.Timer.{enabled, continuous, source_of, divisor, next_count, reaches, timer_of, ticked_to, clock_timer}
use Rattle.timer.specs.declared.Timer.{Timer}
use Rattle.timer.specs.declared.Ticked.{Ticked}

pub divisor_is : (c : ℕ) → divisor c ≡ c % 256
unfolding field_of
divisor_is c = omega arith

-- ---- a tick

module _ (cont : Bool) (m n : ℕ) where
  -- the count after it, and whether that is the maximum
  abbrev pub TicksTo : ℕ → Bool → Type 0
  TicksTo count reached = (next_count cont m n ≡ count) × (reaches cont m n ≡ reached)

  pub restarts : n ≡ m → cont ≡ true → TicksTo 0 (eqb 0 m)
  unfolding next_count reaches choose◌then◌else◌
  restarts e f = rw (e, f, eq-eqb m m refl) (refl, refl)

  pub stays : n ≡ m → cont ≡ false → TicksTo n false
  unfolding next_count reaches choose◌then◌else◌
  stays e f = rw (e, f, eq-eqb m m refl) (refl, refl)

  pub counts : (n ≡ m → ⊥) → TicksTo ((n + 1) % 2 ^ 32) (eqb ((n + 1) % 2 ^ 32) m)
  unfolding next_count reaches choose◌then◌else◌
  counts e = rw (ne_eqb n m e) (refl, refl)

-- ---- a clock

module _ (c : ℕ) (t : Timer) where
  pub clock_disabled : enabled c ≡ false → ticked_to (timer_of t.count t.maximum 0) false ≡ clock_timer c t
  unfolding clock_timer choose◌then◌else◌
  clock_disabled e = rw e

  module _ (on : enabled c ≡ true) where
    pub clock_divided : t.divider < c % 256 → ticked_to (timer_of t.count t.maximum (t.divider + 1)) false ≡ clock_timer c t
    unfolding clock_timer choose◌then◌else◌
    clock_divided h = rw (on, divisor_is c, lt-ltb t.divider (c % 256) h)

    -- where the divider goes back to 0
    pub clock_ticks : c % 256 ≤ t.divider → {n : ℕ} {b : Bool} → TicksTo (continuous c) t.maximum t.count n b
        → ticked_to (timer_of n t.maximum 0) b ≡ clock_timer c t
    unfolding clock_timer choose◌then◌else◌
    clock_ticks h e = rw (on, divisor_is c, le-ltb t.divider (c % 256) h, e.0, e.1)

-- ---- how large the numbers stay

pub divisor_small : (c : ℕ) → divisor c < 256
divisor_small c = rw (divisor_is c) (mod-lt c (lit< tt))

pub source_small : (c : ℕ) → source_of c < SOURCES
unfolding field_of
source_small c = let h : c / 256 % 8 < 8 = mod-lt (c / 256) (lit< tt) in omega arith

-- a count is a word, a divider a byte
pub record TimerOk (t : Timer) : Type 0 where
  pub count : t.count < 2 ^ 32
  pub divider : t.divider < 256

count_small : (cont : Bool) (m n : ℕ) → n < 2 ^ 32 → next_count cont m n < 2 ^ 32
unfolding next_count
count_small cont m n h =
    let P : ℕ → Type 0 = λ x. x < 2 ^ 32 in
    if_holds P (eqb n m) (λ _. if_holds P cont (λ _. lit< tt) (λ _. h)) (λ _. mod-lt (n + 1) (lit< tt))

pub timer_ok : (c : ℕ) (t : Timer) → TimerOk t → TimerOk (clock_timer c t).timer
unfolding clock_timer
timer_ok c t k =
    let P : Ticked → Type 0 = λ x. TimerOk x.timer in
    if_holds P _ (λ _. record { count = k.count; divider = lit< tt }) (λ _.
    if_holds P _ (λ e. record { count = k.count; divider = omega (arith, ltb-true t.divider (divisor c) e, divisor_small c) })
    (λ _. record { count = count_small (continuous c) t.maximum t.count k.count; divider = lit< tt }))
