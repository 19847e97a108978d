-- The nops that must follow swm, scall, retu and reti (Manual 4.6): how a step compares with one that does not look at them. No definition of the
-- step rests on these. Assumes nothing.
use Rattle.std.specs.Prelude.{◌≡◌, List, ℕ, ◌≤◌, None}
use Rattle.isa.specs.Operation.{operation_of, properties}
use Rattle.isa.specs.Decode.{opcode_of, decode}
use Rattle.machine.specs.Machine.{State, width_of}
use Rattle.execute.specs.View.{Attempt, Found, Raises, Stops, View, view, with_following}
use Rattle.execute.specs.Theorems.{NopAt, FirstOther}
use Rattle.execute.specs.Decide.{Passes}
use Rattle.machine.specs.Kind.{Stop}
use Rattle.machine.specs.Effect.{Raised}
use Rattle.machine.specs.Apply.{Transition, apply}
use Rattle.step.specs.Interrupt.{with_requests, accepted_source}
use Rattle.step.specs.Step.{unclocked_seeing, with_clock, unclocked, step}

-- ---- the step that does not look at them

-- an instruction sees nops after it, whatever is there
abbrev pub view_unchecked : (program : List ℕ) → State → View
view_unchecked program s = with_following (λ k. Found 0) (view program s)

-- one step, before its clock and with it
abbrev pub unclocked_unchecked : (program : List ℕ) → State → (requests : ℕ) → Transition
unclocked_unchecked program = unclocked_seeing (view_unchecked program)

abbrev pub step_unchecked : (program : List ℕ) → State → (requests : ℕ) → Transition
step_unchecked program s requests = with_clock (unclocked_unchecked program s requests)

-- how many nops must follow an instruction word
abbrev pub nops_of : View → (word : ℕ) → ℕ
nops_of v w = (properties (operation_of (opcode_of (width_of v.status) w))).nops

-- ---- where the nops are there and not protected, the look at them changes nothing: a step; emulator/RequiredNops has calls

-- all nops that must follow the instruction, if one is fetched, are there, and not protected from the mode
abbrev pub NopsFollow : (program : List ℕ) → State → (requests : ℕ) → Type 0
NopsFollow program s requests =
    let v = view program (with_requests requests s) in
    (w : ℕ) → v.fetched ≡ Found w → (k : ℕ) → 1 ≤ k → k ≤ nops_of v w → NopAt v k

-- then the step is that without the look
abbrev pub NopsKept : Type 0
NopsKept = (program : List ℕ) (s : State) (requests : ℕ) → NopsFollow program s requests → step program s requests ≡ step_unchecked program s requests

-- ---- every step

-- the step comes to the nops: no interrupt is accepted, and the instruction fetched is available, no transfer in a slot, and its condition not false
pub record ComesToNops (program : List ℕ) (s : State) (word : ℕ) : Type 0 where
  pub uninterrupted : accepted_source (view program s) s.machine ≡ None
  pub fetched : (view program s).fetched ≡ Found word
  pub passes : Passes (view program s) (decode (width_of (view program s).status) word)

-- the step, before its clock, that comes of a word that is no nop: an exception, of which EXCEPTION_PC is the instruction's own address (machine/Apply:
-- `raise`), or a stop. s is the state before, and r the same with the requests added
abbrev pub ComesOf : Attempt (Unit {0}) → (s r : State) → Transition → Type 0
ComesOf (Found x) s r t = ⊥
ComesOf (Raises code) s r t = t ≡ apply (Raised code) r
ComesOf (Stops number) s r t = t ≡ record { kind = Stop number; after = s }

-- a step before its clock: that without the look, and then the nops follow, if it comes to them; or what comes of the first word that is none
pub data NopsCompared (program : List ℕ) (s : State) (requests : ℕ) (r : State) : Type 0 where
  same : ((w : ℕ) → ComesToNops program r w → (k : ℕ) → 1 ≤ k → k ≤ nops_of (view program r) w → NopAt (view program r) k)
      → unclocked program s requests ≡ unclocked_unchecked program s requests
      → NopsCompared program s requests r
  refused : (w : ℕ) → ComesToNops program r w
      → (a : Attempt (Unit {0})) → FirstOther (view program r) 1 (nops_of (view program r) w) a
      → ComesOf a s r (unclocked program s requests)
      → NopsCompared program s requests r

-- whatever the program, the state and the requests
abbrev pub NopsChecked : Type 0
NopsChecked = (program : List ℕ) (s : State) (requests : ℕ) → NopsCompared program s requests (with_requests requests s)
