-- A step by its two ways, an interrupt or an instruction, and its clock, from what the parts of its code give. Assumes nothing.
use mathlib.Core.Path.{◌≡◌, refl, sym, ap, ◌∙◌}
use mathlib.Core.Bool.{true, false, true≢false}
use mathlib.Core.List.{List}
use Prim.Native.Nat.{ℕ, ◌%◌, ◌^◌, ◌<◌}
use Rattle.std.specs.Prelude.{None, Some}
use native.Mathlib.Omega.{arith}
use Rattle.word.specs.Choice.{choose◌then◌else◌}
use Rattle.word.specs.Arithmetic.{or_of}
use Rattle.machine.specs.Machine.{State, state_of}
use Rattle.machine.specs.Control.{control_at, INT_PEND, with_pending}
use Rattle.timer.specs.Clock.{clock}
use Rattle.timer.proofs.Theorems.{reset_clock}
use Rattle.execute.specs.View.{view}
use Rattle.execute.specs.Decide.{decide}
use Rattle.machine.specs.Effect.{Effect, Stopped, Raised, SystemCall, InterruptReturn, StoreCell, Updates}
use Rattle.machine.specs.Apply.{Transition, machine_only, store_cell, apply, stop_number, Report, reported, report_on}
use Rattle.step.specs.Interrupt.{with_requests, accepted_source, accept}
use Rattle.step.specs.Step.{is_stop, interrupt_or, unclocked, step}
use Rattle.step.proofs.Requests.{pending_back}
use Rattle.step.proofs.Stops.{numbered_stop, numbered_step, instruction_numbered, unclocked_number}
use Rattle.step.proofs.Clocks.{stop_alone, clock_holds}

-- an effect that stops changes nothing
pub stopped_same : (e : Effect) (s : State) → is_stop (apply e s).kind ≡ true → (apply e s).after ≡ s
unfolding apply machine_only store_cell is_stop
stopped_same (Stopped n) s h = refl
stopped_same (Raised c) s h = absurd (true≢false (sym h))
stopped_same SystemCall s h = absurd (true≢false (sym h))
stopped_same InterruptReturn s h = absurd (true≢false (sym h))
stopped_same (StoreCell a x) s h = absurd (true≢false (sym h))
stopped_same (Updates u) s h = absurd (true≢false (sym h))

requests_back : (requests : ℕ) (s : State)
    → record { machine = with_pending (control_at s.machine INT_PEND) (with_requests requests s).machine; memory = (with_requests requests s).memory } ≡ s
unfolding with_requests
requests_back requests s = rw (pending_back s.machine (or_of (control_at s.machine INT_PEND) requests % 2 ^ 12))

-- ---- before the clock

module _ (program : List ℕ) (s : State) (requests : ℕ) where
  abbrev r : State
  r = with_requests requests s

  -- what the instruction reports, where no source is accepted
  abbrev t : Report
  t = report_on (decide (view program (state_of r.machine r.memory))) r.machine r.memory

  pub accepts : (n : ℕ) → Some n ≡ accepted_source (view program r) r.machine
      → reported (unclocked program s requests) ≡ record { stop = 0; after = state_of (accept n r.machine) r.memory }
  unfolding unclocked interrupt_or machine_only is_stop choose◌then◌else◌ reported stop_number
  accepts n o = rw (← o) refl

  pub goes_on : None ≡ accepted_source (view program r) r.machine → t.stop ≡ 0 → reported (unclocked program s requests) ≡ t
  unfolding unclocked interrupt_or choose◌then◌else◌ reported report_on
  goes_on o z = rw (← o, numbered_step (apply (decide (view program r)) r).kind (instruction_numbered program r) z)

  -- a stop leaves the machine that it had, and INT_PEND is put back
  pub stops : None ≡ accepted_source (view program r) r.machine → 0 < t.stop
      → reported (unclocked program s requests)
      ≡ record { stop = t.stop; after = state_of (with_pending (control_at s.machine INT_PEND) t.after.machine) t.after.memory }
  unfolding unclocked interrupt_or choose◌then◌else◌ reported report_on
  stops o z =
      let g = numbered_stop (apply (decide (view program r)) r).kind (λ e. absurd (omega arith)) in
      rw (← o, g, stopped_same (decide (view program r)) r g, requests_back requests s)

  -- ---- the clock: a stop has none

  abbrev u : Report
  u = reported (unclocked program s requests)

  pub stop_reported : 0 < u.stop → reported (step program s requests) ≡ u
  unfolding step reported
  stop_reported z = ap reported (stop_alone (unclocked program s requests) (numbered_stop (unclocked program s requests).kind (λ e. absurd (omega arith))))

  pub step_reported : u.stop ≡ 0 → reported (step program s requests) ≡ record { stop = 0; after = state_of (clock u.after.machine).machine u.after.memory }
  unfolding step reported stop_number
  step_reported z =
      let k = unclocked program s requests in
      let on : is_stop k.kind ≡ false = numbered_step k.kind (unclocked_number program s requests) z in
      let now : Report = record { stop = 0; after = state_of (clock k.after.machine).machine k.after.memory } in
      clock_holds k (λ (x : Transition). reported x ≡ now)
      (λ y. absurd (true≢false (sym y ∙ on)))
      (λ _ e. rw (reset_clock k.after.machine e))
      (λ _ _. rw z)
