-- What the next instruction's decision may use of the machine and the memories. Assumes nothing.
use Rattle.std.specs.Prelude.{◌≡◌, Bool, true, false, not, ◌&&◌, ◌||◌, List, [], ◌∷◌, ℕ, zero, suc, ◌+◌, ◌-◌, ◌*◌, ◌%◌, length, get_or, leb, ltb, eqb, ℤ, Result, Ok, Err}
use Rattle.std.proofs.Math.Option.{Option, none, some}
use Rattle.std.proofs.Math.ListN.{get_elem?}
use Rattle.word.specs.Choice.{choose◌then◌else◌}
use Rattle.word.specs.Word.{word_of, is_address}
use Rattle.isa.specs.Condition.{condition_of, holds}
use Rattle.isa.specs.declared.instruction.Instruction.{Instruction}
use Rattle.isa.specs.declared.width.Width.{Width}
use Rattle.isa.specs.Decode.{word_bytes, opcode_of}
use Rattle.machine.specs.Machine.{Machine, Memory, State, state_of, psr, user_mode, reads_set2, writes_set2, width_of, set_by}
use Rattle.machine.specs.Control.{control_at, within, protected_cell, CCB_BASE, IMEM_BOUND_LO, IMEM_BOUND_HI}
use Rattle.machine.specs.declared.fault.Fault.{Fault}
use Rattle.machine.specs.declared.fault.Fault.TheVariants as fault
use Rattle.machine.specs.Fault.{code_of_exception, number_of_stop}
use Rattle.machine.specs.declared.position.Position.{Position}
use Rattle.execute.specs.declared.data.Location.{Location}
use Rattle.execute.specs.declared.data.Location.TheVariants.{Block, Cell}

-- ---- what the memories give

-- what is found, the code of an exception, or the number of a stop (Manual 4.9 and 4.10)
pub data Attempt (A : Type 0) : Type 0 where
  Found : A → Attempt A
  Raises : (code : ℕ) → Attempt A
  Stops : (number : ℕ) → Attempt A

-- what a function answers: what it found, or the exception or the stop in its place
abbrev pub attempted : {A : Type 0} → Result A Fault → Attempt A
attempted (Ok x) = Found x
attempted (Err (fault.Exception e)) = Raises (code_of_exception e)
attempted (Err (fault.Stop s)) = Stops (number_of_stop s)

-- f of what is found
unfoldable pub map_found : {A B : Type 0} → (A → B) → Attempt A → Attempt B
map_found f (Found x) = Found (f x)
map_found f (Raises c) = Raises c
map_found f (Stops n) = Stops n

-- what f gives of what is found
unfoldable pub found_then : {A B : Type 0} → Attempt A → (A → Attempt B) → Attempt B
found_then (Found x) f = f x
found_then (Raises c) f = Raises c
found_then (Stops n) f = Stops n

-- ---- program memory

-- one of the n addresses from a on is within the bounds: any protected byte protects its word (Manual 1.3)
unfoldable pub any_within : (low high a n : ℕ) → Bool
any_within low high a zero = false
any_within low high a (suc n) = within low high a || any_within low high (suc a) n

-- f of a byte that is there; stop 11 where it is absent
unfoldable pub byte_then : Option ℕ → (ℕ → Attempt ℕ) → Attempt ℕ
byte_then none f = Stops 11
byte_then (some b) f = f b

-- the word of n bytes from a on, high byte first, below those of w
unfoldable pub bytes_at : (program : List ℕ) (n a w : ℕ) → Attempt ℕ
bytes_at program zero a w = Found w
bytes_at program (suc n) a w = byte_then (get_elem? program a) (λ b. bytes_at program n (suc a) (w * 256 + b))

-- the word at a: 00h in user mode if any of its bytes is protected, whether it is there or not; stop 11 if any is absent (Manual 4.3)
unfoldable pub read_at : (program : List ℕ) (low high : ℕ) (user : Bool) (n a : ℕ) → Attempt ℕ
read_at program low high user n a =
    choose user && any_within low high a n then Raises 0x00
    else bytes_at program n a 0

-- the word at pc: 05h first, where pc is no multiple of the word's bytes (Manual 4.3)
unfoldable pub fetch_at : (program : List ℕ) (low high : ℕ) (user : Bool) (n pc : ℕ) → Attempt ℕ
fetch_at program low high user n pc =
    choose not (eqb (pc % n) 0) then Raises 0x05
    else read_at program low high user n pc

-- ---- data memory

-- one of the control block's 256 addresses, from CCB_BASE on
unfoldable pub in_block : (base a : ℕ) → Bool
in_block base a = leb base a && leb a (base + 255)

-- the control block comes first, then the cells; stop 12 where there is neither (Manual 1.2)
unfoldable pub found_at : State → (a : ℕ) → Attempt Location
found_at s a =
    let base = control_at s.machine CCB_BASE in
    choose in_block base a then Found (Block (a - base))
    else choose ltb a (length s.memory.cells) then Found (Cell a)
    else Stops 12

-- the tests of a data address, in order: 07h in user mode if the address modulo 2 ^ 32 is protected, 08h if it is outside 32 bits, stop 12 if
-- neither block nor cell is there (Manual 4.7). The block's addresses are protected like the cells'
unfoldable pub place_at : State → (address : ℤ) → Attempt Location
place_at s address =
    let a = word_of 32 address in
    choose user_mode (psr s.machine) && protected_cell s.machine a then Raises 0x07
    else choose not (is_address address) then Raises 0x08
    else found_at s a

-- what a location holds
unfoldable pub held_at : State → Location → ℕ
held_at s (Block n) = control_at s.machine n
held_at s (Cell a) = get_or s.memory.cells a 0

-- ---- the view (definitions only; the code reads the memories themselves)

-- all that the next instruction's effect may depend on
pub record View : Type 0 where
  pub status : ℕ  -- PSR
  pub position : Position
  pub conditions : List ℕ
  pub nested : Bool  -- the interrupt stack is not empty
  pub fetched : Attempt ℕ  -- the instruction word
  pub following : (k : ℕ) → Attempt ℕ  -- the k-th word after it, of the same width
  pub source : ℕ → ℕ  -- a register of the set that RSRD names
  pub target : ℕ → ℕ  -- a register of the set that RSWR names
  pub place : ℤ → Attempt Location  -- where a data address leads
  pub load : ℤ → Attempt ℕ  -- what is there
  pub closed : ℕ → Bool  -- a byte of the instruction word at an address is protected from the mode

-- a stack has an entry
unfoldable pub nested_by : {A : Type 0} → List A → Bool
nested_by [] = false
nested_by (e ∷ es) = true

-- what an instruction sees of a state: the bounds and CCB_BASE by the control block, protection by the mode
unfoldable pub view : (program : List ℕ) → State → View
view program s =
    let m = s.machine in
    let q = psr m in
    let n = word_bytes (width_of q) in
    record {
      status = q;
      position = m.position;
      conditions = m.conditions;
      nested = nested_by m.stack;
      fetched = fetch_at program (control_at m IMEM_BOUND_LO) (control_at m IMEM_BOUND_HI) (user_mode q) n m.position.pc;
      following = λ k. read_at program (control_at m IMEM_BOUND_LO) (control_at m IMEM_BOUND_HI) (user_mode q) n (m.position.pc + k * n);
      source = λ r. get_or (set_by (reads_set2 q) m) r 0;
      target = λ r. get_or (set_by (writes_set2 q) m) r 0;
      place = place_at s;
      load = λ a. map_found (held_at s) (place_at s a);
      closed = λ a. user_mode q && any_within (control_at m IMEM_BOUND_LO) (control_at m IMEM_BOUND_HI) a n;
    }

-- a view in which data addresses lead where `place` says, and hold what `held` says; all else is the same. For comparisons: no rule uses it
unfoldable pub with_places : (place : ℤ → Attempt Location) (held : Location → ℕ) → View → View
with_places place held v =
    record {
      status = v.status;
      position = v.position;
      conditions = v.conditions;
      nested = v.nested;
      fetched = v.fetched;
      following = v.following;
      source = v.source;
      target = v.target;
      place = place;
      load = λ a. map_found held (place a);
      closed = v.closed;
    }

-- a view in which the words after the instruction are these; all else is the same. For comparisons: no rule uses it
unfoldable pub with_following : (following : ℕ → Attempt ℕ) → View → View
with_following following v =
    record {
      status = v.status;
      position = v.position;
      conditions = v.conditions;
      nested = v.nested;
      fetched = v.fetched;
      following = following;
      source = v.source;
      target = v.target;
      place = v.place;
      load = v.load;
      closed = v.closed;
    }

-- the view of a machine with a memory
abbrev pub view_of : (program : List ℕ) → Machine → Memory → View
view_of program m memory = view program (state_of m memory)

-- r is what every view of a machine gives, whatever the program and the memory hold
abbrev pub Shows : {A : Type 0} → (View → A) → A → Machine → Type 0
Shows f r m = (program : List ℕ) (memory : Memory) → r ≡ f (view_of program m memory)

-- a conditional instruction whose condition does not hold of its condition register (Manual 4.5)
unfoldable pub condition_false : View → Instruction → Bool
condition_false v i = i.conditional && not (holds (condition_of i.condition) (get_or v.conditions i.creg 0))

-- ---- the nops that must follow some instructions (Manual 4.6)

-- so many of these words, from the k-th on, one after another: stop 20 where one has an operation other than 0
unfoldable pub nops_from : Width → (following : ℕ → Attempt ℕ) → (k count : ℕ) → Attempt (Unit {0})
nops_from width following k zero = Found tt
nops_from width following k (suc count) =
    found_then (following k) (λ w. choose eqb (opcode_of width w) 0 then nops_from width following (suc k) count else Stops 20)

-- those that must follow the instruction, in the width before it
abbrev pub nops_after : View → (count : ℕ) → Attempt (Unit {0})
nops_after v count = nops_from (width_of v.status) v.following 1 count

-- to unfold all of these
unfoldable pub seeing : Unit {0}
unfolding map_found found_then any_within byte_then bytes_at read_at fetch_at in_block found_at place_at held_at nested_by view with_places with_following condition_false nops_from
seeing = tt
