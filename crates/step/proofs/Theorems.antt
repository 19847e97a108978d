-- What the clock does to a step. Assumes nothing.
use mathlib.Core.Path.{◌≡◌, refl, ap, ◌∙◌}
use lib.ListN.{length}
use Rattle.word.specs.Choice.{choose◌then◌else◌}
use Rattle.word.proofs.Tests.{either}
use Rattle.machine.specs.Machine.{State}
use Rattle.machine.specs.Control.{reset}
use Rattle.machine.specs.Words.{ZEROS}
use Rattle.machine.proofs.Flat.{same_dividers}
use Rattle.timer.specs.Clock.{goes_on, clock}
use Rattle.timer.proofs.Theorems.{idle_clock}
use Rattle.execute.specs.View.{view}
use Rattle.execute.specs.Decide.{decide}
use Rattle.machine.specs.Effect.{Effect, Stopped, Raised, SystemCall, InterruptReturn, StoreCell, Updates}
use Rattle.machine.specs.Apply.{Transition, machine_only, store_cell, apply}
use Rattle.machine.specs.Kind.{Kind}
use Rattle.machine.specs.Kind as kind
use Rattle.step.specs.Step.{is_stop, with_clock, unclocked, step}
use Rattle.step.specs.Theorems.{IdleStep, StopUnclocked, ResetStep}
use Rattle.step.proofs.Clocks.{stop_alone, clock_holds}
use Rattle.step.proofs.StepKinds.{unclocked_kind}

pub stop_unclocked : StopUnclocked
unfolding step
stop_unclocked p s q e = stop_alone (unclocked p s q) e

pub idle_step : IdleStep
unfolding step with_clock choose◌then◌else◌
idle_step p s q a b d =
    let t = unclocked p s q in
    let m = t.after.machine in
    let idle : clock m ≡ goes_on m = idle_clock m (ap length d) a b ∙ ap goes_on (same_dividers m ZEROS d) in
    either (is_stop t.kind) (λ e. rw e) (λ e. rw (e, idle))

-- ---- a reset

-- only a clock resets
abbrev NoReset : Kind → Type 0
NoReset kind.Reset = ⊥
NoReset kind.Ordinary = Unit {0}
NoReset kind.Interrupt = Unit {0}
NoReset kind.SystemCall = Unit {0}
NoReset kind.InterruptReturn = Unit {0}
NoReset (kind.Exception c) = Unit {0}
NoReset (kind.Stop n) = Unit {0}

effect_none : (s : State) (e : Effect) → NoReset (apply e s).kind
unfolding apply machine_only store_cell
effect_none s (Stopped n) = tt
effect_none s (Raised c) = tt
effect_none s SystemCall = tt
effect_none s InterruptReturn = tt
effect_none s (StoreCell a x) = tt
effect_none s (Updates u) = tt

pub reset_step : ResetStep
unfolding step
reset_step p s q =
    let t = unclocked p s q in
    let none : t.kind ≡ kind.Reset → ⊥ = λ e. rw e at (unclocked_kind NoReset tt p (λ r. effect_none r (decide (view p r))) s q) in
    clock_holds t (λ (x : Transition). x.kind ≡ kind.Reset → (x.after.machine ≡ reset) × (x.after.memory ≡ t.after.memory))
    (λ _ e. absurd (none e)) (λ _ _ e. (refl, refl)) (λ _ _ e. absurd (none e))
