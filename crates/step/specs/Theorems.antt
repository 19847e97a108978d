-- What is proved of one step: the statements. Worked has its own. Assumes nothing.
use Rattle.std.specs.Prelude.{◌≡◌, true, false, List, ℕ, ◌<◌, Some}
use Rattle.word.specs.Word.{bit_at}
use Rattle.word.specs.Flags.{is_among}
use Rattle.machine.specs.Machine.{Machine, State}
use Rattle.machine.specs.Control.{control_at, reset, INT_MASK, INT_PEND}
use Rattle.machine.specs.Stack.{sources_of}
use Rattle.machine.specs.Words.{SOURCES, ZEROS}
use Rattle.machine.specs.Questions.{well_formed}
use Rattle.timer.specs.Timer.{enabled}
use Rattle.timer.specs.Clock.{configuration_of}
use Rattle.machine.specs.Kind.{Reset}
use Rattle.step.specs.Interrupt.{priority, below_all, candidate}
use Rattle.step.specs.Step.{is_stop, unclocked, step}

-- an accepted source is pending, has INT_MASK 1, and a priority number below all in service, hence is none of those in service (Manual 4.2)
pub record Accepted (m : Machine) (n : ℕ) : Type 0 where
  pub below : n < SOURCES
  pub pending : bit_at n (control_at m INT_PEND) ≡ true
  pub unmasked : bit_at n (control_at m INT_MASK) ≡ true
  pub urgent : below_all m (priority m n) m.stack ≡ true
  pub new : is_among n (sources_of m.stack) ≡ false

abbrev pub CandidateAccepted : Type 0
CandidateAccepted = (m : Machine) (n : ℕ) → candidate m SOURCES ≡ Some n → Accepted m n

-- a step, in whatever mode, takes a machine for which questions 3 to 5 are all yes to such a machine. So at every step the interrupt stack has as many
-- entries as INT_SERV has ones, and the RETI_ registers show its top, or 1, 9, 0 when it is empty (Manual 5.3, 6.1)
abbrev pub StaysFormed : Type 0
StaysFormed = (program : List ℕ) (s : State) (requests : ℕ) → well_formed s.machine ≡ true → well_formed (step program s requests).after.machine ≡ true

-- ---- the clock (Manual 4.11, 4.12)

-- with EN 0 in both timers and dividers 0 the clock changes nothing
abbrev pub IdleStep : Type 0
IdleStep =
    (program : List ℕ) (s : State) (requests : ℕ) → let t = unclocked program s requests in
    enabled (configuration_of 0 t.after.machine) ≡ false → enabled (configuration_of 1 t.after.machine) ≡ false
    → t.after.machine.dividers ≡ ZEROS → step program s requests ≡ t

-- a stop does not clock the timers
abbrev pub StopUnclocked : Type 0
StopUnclocked = (program : List ℕ) (s : State) (requests : ℕ) → is_stop (unclocked program s requests).kind ≡ true → step program s requests ≡ unclocked program s requests

-- a watchdog's reset leaves one machine, whatever the step was, and the memory with the step's own store
abbrev pub ResetStep : Type 0
ResetStep =
    (program : List ℕ) (s : State) (requests : ℕ) → let t = step program s requests in
    t.kind ≡ Reset → (t.after.machine ≡ reset) × (t.after.memory ≡ (unclocked program s requests).after.memory)
