-- An address both out of range and protected (Manual 4.7): which steps differ from those of the other order of tests, 08h before 07h. No definition
-- of the step rests on these. Assumes nothing.
use Rattle.std.specs.Prelude.{◌≡◌, true, false, not, ◌&&◌, List, ℕ, ℤ, pos, ◌+ℤ◌, Option, None, Some}
use Rattle.word.specs.Choice.{choose◌then◌else◌}
use Rattle.word.specs.Word.{word_of, is_address}
use Rattle.isa.specs.Decode.{decode}
use Rattle.isa.specs.Theorems.{between}
use Rattle.machine.specs.Machine.{State, psr, user_mode, width_of}
use Rattle.machine.specs.Control.{protected_cell}
use Rattle.execute.specs.View.{Attempt, Found, Raises, Stops, found_at, held_at, View, view, with_places, condition_false}
use Rattle.execute.specs.declared.data.Location.{Location}
use Rattle.machine.specs.Effect.{Raised}
use Rattle.machine.specs.Apply.{Transition, apply}
use Rattle.step.specs.Interrupt.{with_requests, accepted_source}
use Rattle.step.specs.Step.{unclocked_seeing, with_clock, step}

-- ---- the step by the other order

-- the tests of a data address: outside 32 bits, 08h; user mode and protected, 07h; neither in the control block nor a cell, stop 12
unfoldable pub place_before : State → (address : ℤ) → Attempt Location
place_before s address =
    let a = word_of 32 address in
    choose not (is_address address) then Raises 0x08
    else choose user_mode (psr s.machine) && protected_cell s.machine a then Raises 0x07
    else found_at s a

-- what an instruction sees of a state: all that a view shows, but for where data addresses lead
abbrev pub view_before : (program : List ℕ) → State → View
view_before program s = with_places (place_before s) (held_at s) (view program s)

-- one step by that order
abbrev pub step_before : (program : List ℕ) → State → (requests : ℕ) → Transition
step_before program s requests = with_clock (unclocked_seeing (view_before program) s requests)

-- ---- the steps that differ: loads and stores in user mode at an address outside 32 bits that is protected when wrapped

-- the exact address of the load (27) or store (28) that a fetched word is, if its condition is not false
unfoldable pub access_of : View → Attempt ℕ → Option ℤ
access_of v (Found w) =
    let i = decode (width_of v.status) w in
    choose condition_false v i then None
    else choose between 27 28 i.opcode then Some (pos (v.source i.sreg1) +ℤ i.immediate)
    else None
access_of v (Raises c) = None
access_of v (Stops n) = None

-- an address outside 32 bits, protected when wrapped, in user mode
pub record Wrapped (s : State) (address : ℤ) : Type 0 where
  pub user : user_mode (psr s.machine) ≡ true
  pub outside : is_address address ≡ false
  pub protected : protected_cell s.machine (word_of 32 address) ≡ true

-- the step comes to a load or store at such an address, no interrupt being accepted
pub record WrappedAccess (program : List ℕ) (s : State) : Type 0 where
  pub address : ℤ
  pub uninterrupted : accepted_source (view program s) s.machine ≡ None
  pub access : access_of (view program s) (view program s).fetched ≡ Some address
  pub wrapped : Wrapped s address

-- how the step compares with that by the other order; r is the state with the requests added
pub data Compared (program : List ℕ) (s : State) (requests : ℕ) (r : State) : Type 0 where
  -- such a step is 07h, and by the other order 08h
  changed : WrappedAccess program r
      → step program s requests ≡ with_clock (apply (Raised 0x07) r)
      → step_before program s requests ≡ with_clock (apply (Raised 0x08) r)
      → Compared program s requests r
  -- every other step is the same by both orders
  unchanged : (WrappedAccess program r → ⊥)
      → step program s requests ≡ step_before program s requests
      → Compared program s requests r

-- whatever the program, the state and the requests
abbrev pub AddressOrder : Type 0
AddressOrder = (program : List ℕ) (s : State) (requests : ℕ) → Compared program s requests (with_requests requests s)
