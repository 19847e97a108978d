-- The codes of exceptions: 00h, 02h to 09h and E0h to FFh, and no other. Assumes nothing.
use mathlib.Core.Path.{◌≡◌, refl, sym}
use mathlib.Core.Bool.{true, true≢false}
use mathlib.Core.List.{List}
use Prim.Native.Nat.{ℕ}
use native.Mathlib.Omega.{arith}
use Rattle.isa.proofs.Table.{values, agree}
use Rattle.machine.specs.Machine.{State}
use Rattle.execute.specs.View.{View, view}
use Rattle.execute.proofs.Answers.{Code, tests, traps}
use Rattle.execute.specs.Decide.{decide}
use Rattle.execute.proofs.Safe.{Safe, decide_safe}
use Rattle.machine.specs.Effect.{Effect, Stopped, Raised, SystemCall, InterruptReturn, StoreCell, Updates}
use Rattle.machine.specs.Apply.{machine_only, store_cell, apply}
use Rattle.machine.specs.Kind.{Kind}
use Rattle.machine.specs.Kind as kind
use Rattle.step.specs.Step.{step}
use Rattle.step.specs.Codes.{is_code, ExceptionCodes, Never01h}
use Rattle.step.proofs.StepKinds.{step_kind}

-- an exception has a code of those
abbrev Coded : Kind → Type 0
Coded (kind.Exception c) = is_code c ≡ true
Coded kind.Ordinary = Unit {0}
Coded kind.Interrupt = Unit {0}
Coded kind.SystemCall = Unit {0}
Coded kind.InterruptReturn = Unit {0}
Coded kind.Reset = Unit {0}
Coded (kind.Stop n) = Unit {0}

code_is : (c : ℕ) → Code c → is_code c ≡ true
unfolding is_code values
code_is c (tests e) = rw e
code_is c (traps n h e) = agree is_code (λ c. true) 224 32 refl c (omega arith) (omega arith)

effect_coded : (v : View) (s : State) (e : Effect) → Safe v e → Coded (apply e s).kind
unfolding apply machine_only store_cell
effect_coded v s (Stopped n) h = tt
effect_coded v s (Raised c) h = code_is c h
effect_coded v s SystemCall h = tt
effect_coded v s InterruptReturn h = tt
effect_coded v s (StoreCell a x) h = tt
effect_coded v s (Updates u) h = tt

step_coded : (p : List ℕ) (s : State) (q : ℕ) → Coded (step p s q).kind
step_coded p s q = step_kind Coded tt p (λ r. effect_coded (view p r) r (decide (view p r)) (decide_safe p r)) s q tt

pub exception_codes : ExceptionCodes
exception_codes p s q c e = rw e at (step_coded p s q)

pub never_01h : Never01h
unfolding is_code
never_01h p s q e = true≢false (sym (exception_codes p s q 0x01 e))
