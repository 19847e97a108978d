-- What functions that carry out an instruction promise, as abbreviations for their contracts. Assumes nothing.
use Rattle.std.specs.Prelude.{◌≡◌, ◌<◌, List, length, ℕ, ℤ, Option, None, Some, Result, Ok, Err, OnErr}
use Rattle.word.specs.Choice.{choose◌then◌else◌}
use Rattle.isa.specs.declared.operation.Operation.{Operation}
use Rattle.isa.specs.Operation.{properties, unavailable}
use Rattle.machine.specs.declared.fault.Fault.{Fault}
use Rattle.machine.specs.declared.fault.Stop.{Stop}
use Rattle.machine.specs.Machine.{Machine, Memory, memory_of, State, state_of, psr, user_mode, width_of}
use Rattle.machine.specs.Position.{slot_of}
use Rattle.machine.specs.Fault.{effect_of}
use Rattle.machine.specs.Effect.{Effect, Stopped, Raised, SystemCall, InterruptReturn, StoreCell, Updates}
use Rattle.machine.specs.Apply.{Report, apply, report_by, report_on}
use Rattle.execute.specs.View.{Attempt, Found, Raises, Stops, found_then, View, view_of, attempted}
use Rattle.execute.specs.declared.data.Location.{Location}
use Rattle.execute.specs.declared.data.Location.TheVariants.{Block, Cell}
use Rattle.execute.specs.Execute.{on_found, jumped}

-- the state after an effect that is carried out; or the effect that stands in an instruction's place, an exception or a stop
abbrev pub settled : Effect → State → Result State Effect
settled (Stopped n) s = Err (Stopped n)
settled (Raised c) s = Err (Raised c)
settled SystemCall s = Ok (apply SystemCall s).after
settled InterruptReturn s = Ok (apply InterruptReturn s).after
settled (StoreCell a x) s = Ok (apply (StoreCell a x) s).after
settled (Updates u) s = Ok (apply (Updates u) s).after

-- the same by what a function answers, and the state that it leaves
abbrev pub answered : Result (Unit {0}) Fault → State → Result State Effect
answered (Ok x) s = Ok s
answered (Err why) s = Err (effect_of why)

-- a machine becomes what an effect makes of it, whatever the memory holds, and the memory stays; or the effect stands in the instruction's place
abbrev pub Performs : Effect → Result (Unit {0}) Fault → (before after : Machine) → Type 0
Performs e result before after = (memory : Memory) → answered result (state_of after memory) ≡ settled e (state_of before memory)

-- the same of the effect that its view in a program gives
abbrev pub PerformsIn : (program : List ℕ) → (View → Effect) → Result (Unit {0}) Fault → (before after : Machine) → Type 0
PerformsIn program e result before after =
    (memory : Memory) → answered result (state_of after memory) ≡ settled (e (view_of program before memory)) (state_of before memory)

-- whatever the program holds
abbrev pub PerformsSeen : (View → Effect) → Result (Unit {0}) Fault → (before after : Machine) → Type 0
PerformsSeen e result before after = (program : List ℕ) → PerformsIn program e result before after

-- a machine and the cells become what the effect makes of them that their view in a program gives; or it stands in the instruction's place
abbrev pub StoresIn : (program : List ℕ) → (View → Effect) → Result (Unit {0}) Fault → (before : Machine) (cells : List ℕ) (after : Machine) (stored : List ℕ) → Type 0
StoresIn program e result before cells after stored =
    answered result (state_of after (memory_of stored)) ≡ settled (e (view_of program before (memory_of cells))) (state_of before (memory_of cells))

-- whatever the program holds
abbrev pub PerformsStoring : (View → Effect) → Result (Unit {0}) Fault → (before : Machine) (cells : List ℕ) (after : Machine) (stored : List ℕ) → Type 0
PerformsStoring e result before cells after stored = (program : List ℕ) → StoresIn program e result before cells after stored

-- what is reported of an answer: done; or of the exception or the stop in the instruction's place
abbrev pub taken : Result (Unit {0}) Fault → Machine → Memory → Report
taken (Ok x) m memory = record { stop = 0; after = state_of m memory }
taken (Err why) m memory = report_on (effect_of why) m memory

-- where a function answered what settles an effect, and on Err changed nothing, what is then answered and left is what is reported of the effect
abbrev pub Reported : Result (Unit {0}) Fault → (left : Machine) → Result (Unit {0}) Stop → (after : Machine) → Type 0
Reported answer left result after =
    (e : Effect) (before : Machine) (cells stored : List ℕ)
    → answered answer (state_of left (memory_of stored)) ≡ settled e (state_of before (memory_of cells))
    → OnErr answer ((left ≡ before) × (stored ≡ cells))
    → report_by result after (memory_of stored) ≡ report_on e before (memory_of cells)

-- a taken jump goes to the address that is answered, or has the exception that is
abbrev pub TestsJump : (target : ℤ) → Result ℕ Fault → Machine → Type 0
TestsJump target result m =
    (program : List ℕ) (memory : Memory) (taken : ℕ → Effect) → jumped (view_of program m memory) target taken ≡ on_found taken (attempted result)

-- ---- questions of an operation that may be refused

-- whether an operation may be used: yes, or the code of the exception
abbrev pub available_by : Option ℕ → Attempt (Unit {0})
available_by None = Found tt
available_by (Some code) = Raises code

-- whether a control transfer may stand where it is: not in a branch slot, stop 13
abbrev pub in_no_slot : (slot : Option ℕ) → Attempt (Unit {0})
in_no_slot None = Found tt
in_no_slot (Some target) = Stops 13

-- what is asked of an operation before its condition: whether it may be used, then, of a control transfer, whether it may stand where it is
unfoldable pub allowed : Operation → Machine → Attempt (Unit {0})
allowed op m =
    let q = properties op in
    found_then (available_by (unavailable q.availability (width_of (psr m)) (user_mode (psr m)))) (λ _. choose q.transfer then in_no_slot (slot_of m.position) else Found tt)

-- a cell to which a data address leads is one of these
abbrev pub IsThere : Location → (cells : List ℕ) → Type 0
IsThere (Block offset) cells = Unit {0}
IsThere (Cell a) cells = a < length cells
