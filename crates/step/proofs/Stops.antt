-- The numbers of stops: one of those that are listed, so that 0 reports a step. Assumes nothing.
use mathlib.Core.Path.{◌≡◌, refl, sym}
use mathlib.Core.Bool.{true, false, true≢false}
use mathlib.Core.List.{List}
use Prim.Native.Nat.{ℕ}
use Rattle.word.specs.Flags.{is_among}
use Rattle.word.proofs.Tests.{false_unless}
use Rattle.machine.specs.Machine.{State}
use Rattle.execute.specs.View.{View, view}
use Rattle.execute.specs.Decide.{decide}
use Rattle.machine.specs.Effect.{Effect, Stopped, Raised, SystemCall, InterruptReturn, StoreCell, Updates}
use Rattle.machine.specs.Apply.{machine_only, store_cell, apply, stop_number}
use Rattle.machine.specs.Kind.{Kind, STOPS}
use Rattle.machine.specs.Kind as kind
use Rattle.step.specs.Step.{is_stop, unclocked, step}
use Rattle.execute.proofs.Safe.{Safe, decide_safe}
use Rattle.step.proofs.StepKinds.{unclocked_kind, step_kind}

-- a stop's number is one of them
abbrev Numbered : Kind → Type 0
Numbered k = is_stop k ≡ true → is_among (stop_number k) STOPS ≡ true

-- a number other than 0 is a stop's
pub numbered_stop : (k : Kind) → (stop_number k ≡ 0 → ⊥) → is_stop k ≡ true
unfolding stop_number is_stop
numbered_stop kind.Ordinary h = absurd (h refl)
numbered_stop kind.Interrupt h = absurd (h refl)
numbered_stop kind.SystemCall h = absurd (h refl)
numbered_stop kind.InterruptReturn h = absurd (h refl)
numbered_stop (kind.Exception c) h = absurd (h refl)
numbered_stop kind.Reset h = absurd (h refl)
numbered_stop (kind.Stop n) h = refl

-- 0 is no stop's
pub numbered_step : (k : Kind) → Numbered k → stop_number k ≡ 0 → is_stop k ≡ false
unfolding is_among
numbered_step k h z = false_unless _ (λ b. true≢false (sym (rw z at (h b))))

none_stops : {A : Type 0} → false ≡ true → A
none_stops e = absurd (true≢false (sym e))

effect_numbered : (v : View) (s : State) (e : Effect) → Safe v e → Numbered (apply e s).kind
unfolding apply machine_only store_cell is_stop stop_number
effect_numbered v s (Stopped n) h e = h
effect_numbered v s (Raised c) h e = none_stops e
effect_numbered v s SystemCall h e = none_stops e
effect_numbered v s InterruptReturn h e = none_stops e
effect_numbered v s (StoreCell a x) h e = none_stops e
effect_numbered v s (Updates u) h e = none_stops e

-- what an instruction reports
pub instruction_numbered : (p : List ℕ) (s : State) → Numbered (apply (decide (view p s)) s).kind
instruction_numbered p s = effect_numbered (view p s) s (decide (view p s)) (decide_safe p s)

-- what a step reports, before its clock and after it
module _ (p : List ℕ) (s : State) (q : ℕ) where
  pub unclocked_number : Numbered (unclocked p s q).kind
  unfolding is_stop
  unclocked_number = unclocked_kind Numbered none_stops p (instruction_numbered p) s q

  pub stop_number_law : Numbered (step p s q).kind
  unfolding is_stop
  stop_number_law = step_kind Numbered none_stops p (instruction_numbered p) s q none_stops
