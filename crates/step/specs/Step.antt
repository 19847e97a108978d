-- One step (Manual 4): an interrupt accepted, an instruction, or an exception, and then a clock of the timers; or a stop, which is no step.
-- Assumes nothing.
use Rattle.std.specs.Prelude.{Bool, true, false, List, ℕ, Option, None, Some}
use Rattle.word.specs.Choice.{choose◌then◌else◌}
use Rattle.machine.specs.Machine.{State}
use Rattle.timer.specs.Clock.{clock}
use Rattle.execute.specs.View.{View, view}
use Rattle.execute.specs.Decide.{decide}
use Rattle.machine.specs.Apply.{Transition, machine_only, apply}
use Rattle.step.specs.Interrupt.{with_requests, accepted_source, accept}
use Rattle.machine.specs.Kind.{Kind, Ordinary, Interrupt, SystemCall, InterruptReturn, Exception, Reset, Stop}

unfoldable pub is_stop : Kind → Bool
is_stop Ordinary = false
is_stop Interrupt = false
is_stop SystemCall = false
is_stop InterruptReturn = false
is_stop (Exception c) = false
is_stop Reset = false
is_stop (Stop n) = true

-- the source accepted, or else the instruction
unfoldable pub interrupt_or : View → (source : Option ℕ) → State → Transition
interrupt_or v (Some n) s = machine_only Interrupt (accept n) s
interrupt_or v None s = apply (decide v) s

-- with the requests added, and the instruction seeing what `see` shows of the state; a stop leaves everything, requests included, as before it
abbrev pub unclocked_seeing : (see : State → View) → State → (requests : ℕ) → Transition
unclocked_seeing see s requests =
    let r = with_requests requests s in
    let v = see r in
    let t = interrupt_or v (accepted_source v r.machine) r in
    record { kind = t.kind; after = choose is_stop t.kind then s else t.after }

-- a completed step is clocked once, after its stores (Manual 4.11); a stop is not; a reset by the watchdog leaves the memory (Manual 4.12)
unfoldable pub with_clock : Transition → Transition
with_clock t =
    let c = clock t.after.machine in
    choose is_stop t.kind then t
    else record { kind = choose c.resets then Reset else t.kind; after = record { machine = c.machine; memory = t.after.memory } }

-- a step of a program before its clock
unfoldable pub unclocked : (program : List ℕ) → State → (requests : ℕ) → Transition
unclocked program = unclocked_seeing (view program)

-- one step of a program
unfoldable pub step : (program : List ℕ) → State → (requests : ℕ) → Transition
step program s requests = with_clock (unclocked program s requests)

-- to unfold all of these
unfoldable pub stepping : Unit {0}
unfolding is_stop interrupt_or with_clock unclocked step
stepping = tt
