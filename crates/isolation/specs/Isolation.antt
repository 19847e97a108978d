-- The isolation of user mode (Manual 10). Assumes nothing.
use Rattle.std.specs.Prelude.{◌≡◌, ◌≢◌, Bool, true, false, ◌||◌, List, [], ◌∷◌, ℕ, zero, suc, ◌+◌, ◌≤◌, length}
use Rattle.std.proofs.Math.Option.{Option, none, some}
use Rattle.std.proofs.Math.ListN.{get_elem?}
use Rattle.word.specs.Choice.{choose◌then◌else◌}
use Rattle.word.specs.Flags.{is_among}
use Rattle.machine.specs.Machine.{Machine, Memory, State, PSR, psr, user_mode}
use Rattle.machine.specs.Control.{control_at, protected_cell, protected_byte, CCB_BASE, INT_PEND, TMR0_CNT, TMR1_CNT, DMEM_BOUND_LO, DMEM_BOUND_HI, IMEM_BOUND_LO, IMEM_BOUND_HI}
use Rattle.machine.specs.Questions.{Accepted}
use Rattle.image.specs.Image.{read_image}
use Rattle.execute.specs.View.{nested_by}
use Rattle.machine.specs.Apply.{Transition}
use Rattle.emulator.specs.Run.{Call, state_with, transitions}
use Rattle.machine.specs.Kind.{Kind, Ordinary, Interrupt, SystemCall, InterruptReturn, Exception, Reset, Stop}

-- ---- which transitions are compared (Manual 10.1)

-- transition k of a list, numbered from 1 through all its calls
unfoldable pub transition : List Transition → ℕ → Option Transition
transition ts zero = none
transition ts (suc k) = get_elem? ts k

-- an exit carries out scall (system call) or reti (interrupt return), enters an exception, or is a stop
unfoldable pub is_exit : Kind → Bool
is_exit Ordinary = false
is_exit Interrupt = false
is_exit SystemCall = true
is_exit InterruptReturn = true
is_exit (Exception c) = true
is_exit Reset = false
is_exit (Stop n) = true

-- a preemption accepts an interrupt, or its clock resets the core, whatever its instruction was
unfoldable pub is_preemption : Kind → Bool
is_preemption Ordinary = false
is_preemption Interrupt = true
is_preemption SystemCall = false
is_preemption InterruptReturn = false
is_preemption (Exception c) = false
is_preemption Reset = true
is_preemption (Stop n) = false

-- all transitions before the first exit or preemption
unfoldable pub segment : List Transition → List Transition
segment [] = []
segment (t ∷ ts) =
    let rest = segment ts in
    choose is_exit t.kind || is_preemption t.kind then [] else t ∷ rest

-- transition k is in the segment
abbrev pub InSegment : List Transition → (k : ℕ) → Type 0
InSegment ts k = k ≤ length (segment ts)

-- all earlier transitions are in the segment
abbrev pub EarlierInSegment : List Transition → (k : ℕ) → Type 0
EarlierInSegment ts k = k ≤ suc (length (segment ts))

-- ---- a machine and a list of calls on it

pub record Session : Type 0 where
  pub program : List ℕ
  pub image : List ℕ
  pub machine : Machine  -- what the image says
  pub memory : Memory
  pub calls : List Call

-- before the first call
abbrev pub start_of : Session → State
start_of a = state_with a.machine a.memory

abbrev pub transitions_of : Session → List Transition
transitions_of a = transitions a.program a.image a.memory a.calls

-- the hypotheses H1 to H4, of the first call's image (Manual 10.2): questions 2 to 5 are all yes; UM is 1; and all 256 addresses of the control block
-- are protected
pub record UserStart (a : Session) : Type 0 where
  pub read : read_image a.image ≡ Accepted a.machine
  pub user : user_mode (psr a.machine) ≡ true
  pub block_low : control_at a.machine DMEM_BOUND_LO ≤ control_at a.machine CCB_BASE
  pub block_high : control_at a.machine CCB_BASE + 255 ≤ control_at a.machine DMEM_BOUND_HI

-- ---- integrity: what is protected stays as it was (Manual 10.3)

-- the control registers that the claim excepts: the pending flags and both timers' counts
abbrev pub EXCEPTED : List ℕ
EXCEPTED = INT_PEND ∷ TMR0_CNT ∷ TMR1_CNT ∷ []

-- set 2 but the status, control registers but those excepted, the interrupt stack, protected cells; and user mode stays
pub record Kept (before after : State) : Type 0 where
  pub set2 : (n : ℕ) → n ≢ PSR → get_elem? after.machine.set2 n ≡ get_elem? before.machine.set2 n
  pub control : (n : ℕ) → is_among n EXCEPTED ≡ false → get_elem? after.machine.control n ≡ get_elem? before.machine.control n
  pub stack : after.machine.stack ≡ before.machine.stack
  pub cells : (a : ℕ) → protected_cell before.machine a ≡ true → get_elem? after.memory.cells a ≡ get_elem? before.memory.cells a
  pub user : user_mode (psr after.machine) ≡ true

unfoldable pub Integrity : Session → Type 0
Integrity a =
    (k : ℕ) (t : Transition) → transition (transitions_of a) k ≡ some t → InSegment (transitions_of a) k → Kept (start_of a) t.after

-- ---- confidentiality: what is protected does not show (Manual 10.4)

-- set 1, conditions, status, position and unprotected cells are equal
pub record SameShown (s t : State) : Type 0 where
  pub set1 : s.machine.set1 ≡ t.machine.set1
  pub conditions : s.machine.conditions ≡ t.machine.conditions
  pub status : psr s.machine ≡ psr t.machine
  pub position : s.machine.position ≡ t.machine.position
  pub cells : (a : ℕ) → protected_cell s.machine a ≡ false → get_elem? s.memory.cells a ≡ get_elem? t.memory.cells a

-- two starts that differ in nothing but set 2 (the status apart), control registers (the bounds apart; the timers' counts among them), the
-- dividers, the entries of the interrupt stack, protected cells and protected program bytes; of the stack, whether it is empty is equal, for reti asks
-- it (stop 15)
pub record SameStart (a b : Session) : Type 0 where
  pub shown : SameShown (start_of a) (start_of b)
  pub nested : nested_by a.machine.stack ≡ nested_by b.machine.stack
  pub dmem_low : control_at a.machine DMEM_BOUND_LO ≡ control_at b.machine DMEM_BOUND_LO
  pub dmem_high : control_at a.machine DMEM_BOUND_HI ≡ control_at b.machine DMEM_BOUND_HI
  pub imem_low : control_at a.machine IMEM_BOUND_LO ≡ control_at b.machine IMEM_BOUND_LO
  pub imem_high : control_at a.machine IMEM_BOUND_HI ≡ control_at b.machine IMEM_BOUND_HI
  pub data_size : length a.memory.cells ≡ length b.memory.cells
  pub program_size : length a.program ≡ length b.program
  pub bytes : (n : ℕ) → protected_byte a.machine n ≡ false → get_elem? a.program n ≡ get_elem? b.program n

-- either transition k is in both segments, and what is shown is equal after it; or it is an exit in both, and the same: scall,
-- reti, an exception with the same code, or a stop with the same number
pub data SameTransition (a b : Session) (k : ℕ) (t u : Transition) : Type 0 where
  both_go_on : InSegment (transitions_of a) k → InSegment (transitions_of b) k → SameShown t.after u.after → SameTransition a b k t u
  both_exit : is_exit t.kind ≡ true → is_exit u.kind ≡ true → t.kind ≡ u.kind → SameTransition a b k t u

-- at every number k of a transition that both have, where all earlier ones are in both segments and transition k is a preemption in neither
unfoldable pub Confidentiality : Session → Session → Type 0
Confidentiality a b =
    (k : ℕ) (t u : Transition) → transition (transitions_of a) k ≡ some t → transition (transitions_of b) k ≡ some u
    → EarlierInSegment (transitions_of a) k → EarlierInSegment (transitions_of b) k
    → is_preemption t.kind ≡ false → is_preemption u.kind ≡ false → SameTransition a b k t u

-- ---- the claim: of every list of calls, refused ones anywhere in it, and of every two such lists

unfoldable pub Isolation : Type 0
Isolation =
    ((a : Session) → UserStart a → Integrity a)
    × ((a b : Session) → UserStart a → UserStart b → SameStart a b → Confidentiality a b)

-- to unfold all of these
unfoldable pub isolating : Unit {0}
unfolding transition is_exit is_preemption segment Integrity Confidentiality Isolation
isolating = tt
