-- The clock after a step. Assumes nothing.
use mathlib.Core.Path.{◌≡◌, sym}
use mathlib.Core.Bool.{true, false, true≢false}
use Rattle.word.specs.Choice.{choose◌then◌else◌}
use Rattle.word.proofs.Tests.{either, if_true}
use Rattle.machine.specs.Control.{reset}
use Rattle.timer.specs.Clock.{Clocked, clock}
use Rattle.timer.proofs.Theorems.{reset_clock}
use Rattle.machine.specs.Kind.{Reset}
use Rattle.machine.specs.Apply.{Transition}
use Rattle.step.specs.Step.{is_stop, with_clock}

module _ (t : Transition) where
  abbrev c : Clocked
  c = clock t.after.machine

  -- a step with its clock, which reset the core or not
  abbrev pub reset_by : Transition
  reset_by = record { kind = Reset; after = record { machine = reset; memory = t.after.memory } }

  abbrev pub clocked_by : Transition
  clocked_by = record { kind = t.kind; after = record { machine = c.machine; memory = t.after.memory } }

  -- what holds of a stop, of a reset and of a step that goes on holds of a transition with its clock
  pub clock_holds : (P : Transition → Type 0) → (is_stop t.kind ≡ true → P t) → (is_stop t.kind ≡ false → c.resets ≡ true → P reset_by)
      → (is_stop t.kind ≡ false → c.resets ≡ false → P clocked_by) → P (with_clock t)
  unfolding with_clock choose◌then◌else◌
  clock_holds P f g h =
      either (is_stop t.kind) (λ e. rw e (f e))
      (λ e. either c.resets (λ r. rw (e, r, reset_clock t.after.machine r) (g e r)) (λ r. rw (e, r) (h e r)))

  -- a stop has none
  pub stop_alone : is_stop t.kind ≡ true → with_clock t ≡ t
  unfolding with_clock
  stop_alone e = if_true _ _ _ e

  -- and only it is a stop with its clock
  pub stop_kind : is_stop (with_clock t).kind ≡ true → is_stop t.kind ≡ true
  unfolding is_stop
  stop_kind =
      clock_holds (λ (x : Transition). is_stop x.kind ≡ true → is_stop t.kind ≡ true)
      (λ e _. e) (λ _ _ e. absurd (true≢false (sym e))) (λ _ _ e. e)
