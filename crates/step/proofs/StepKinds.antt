-- What holds of the kinds of a step. Assumes nothing.
use mathlib.Core.List.{List}
use Prim.Native.Nat.{ℕ}
use Rattle.std.specs.Prelude.{Option, None, Some}
use Rattle.machine.specs.Machine.{State}
use Rattle.execute.specs.View.{View, view}
use Rattle.execute.specs.Decide.{decide}
use Rattle.machine.specs.Apply.{Transition, machine_only, apply}
use Rattle.machine.specs.Kind.{Kind, Interrupt, Reset}
use Rattle.step.specs.Interrupt.{with_requests, accepted_source}
use Rattle.step.specs.Step.{interrupt_or, unclocked, step}
use Rattle.step.proofs.Clocks.{clock_holds}

module _ (P : Kind → Type 0) (accepted : P Interrupt) where
  taken_kind : (v : View) (o : Option ℕ) (s : State) → P (apply (decide v) s).kind → P (interrupt_or v o s).kind
  unfolding interrupt_or machine_only
  taken_kind v None s h = h
  taken_kind v (Some n) s h = accepted

  module _ (p : List ℕ) (instruction : (s : State) → P (apply (decide (view p s)) s).kind) (s : State) (q : ℕ) where
    -- what holds of an accepted interrupt and of every instruction holds of a step before its clock
    pub unclocked_kind : P (unclocked p s q).kind
    unfolding unclocked
    unclocked_kind = let r = with_requests q s in taken_kind (view p r) (accepted_source (view p r) r.machine) r (instruction r)

    -- and, if of a reset too, of a step
    pub step_kind : P Reset → P (step p s q).kind
    unfolding step
    step_kind reset = clock_holds (unclocked p s q) (λ (x : Transition). P x.kind) (λ _. unclocked_kind) (λ _ _. reset) (λ _ _. unclocked_kind)
