-- The machine's state (Manual 1). Assumes nothing.
use Rattle.std.specs.Prelude.{Bool, true, false, ◌&&◌, List, ℕ, ◌+◌, ◌*◌, get_or, set, eqb}
use Rattle.word.specs.Choice.{choose◌then◌else◌}
use Rattle.word.specs.Word.{bit_at, bit_of}
use Rattle.isa.specs.declared.width.Width.{Width}
use Rattle.isa.specs.Operation.{width_by}
use Rattle.machine.specs.declared.position.Position.{Position}
use Rattle.machine.specs.declared.stack.Entry.{Entry}

-- ---- the state

pub record Machine : Type 0 where
  pub set1 : List ℕ  -- R0 to R31
  pub set2 : List ℕ  -- PR0 to PR31: PR29 is PSR, PR30 SPSR
  pub conditions : List ℕ  -- C0 to C7
  pub control : List ℕ  -- the control block's registers
  pub position : Position
  pub stack : List Entry  -- top first
  pub dividers : List ℕ  -- of timer 0 and timer 1 (Manual 7.1)

-- what a program loads from and stores to, but for the control block: the data memory's cells
pub record Memory : Type 0 where
  pub cells : List ℕ

-- bytes of the longest program, and cells of the largest data memory (Manual 1)
abbrev pub MOST_MEMORY : ℕ
MOST_MEMORY = 65536

abbrev pub memory_of : (cells : List ℕ) → Memory
memory_of cells = record { cells = cells }

-- a machine with its memory
pub record State : Type 0 where
  pub machine : Machine
  pub memory : Memory

abbrev pub state_of : Machine → Memory → State
state_of m memory = record { machine = m; memory = memory }

-- a position with no slot and no product
unfoldable pub position_at : (pc : ℕ) → Position
position_at pc = record { pc = pc; slot = 0; target = 0; held = 0; high = 0; low = 0 }

-- ---- one part replaced

unfoldable pub with_set1 : List ℕ → Machine → Machine
with_set1 l m = record { set1 = l; set2 = m.set2; conditions = m.conditions; control = m.control; position = m.position; stack = m.stack; dividers = m.dividers }

unfoldable pub with_set2 : List ℕ → Machine → Machine
with_set2 l m = record { set1 = m.set1; set2 = l; conditions = m.conditions; control = m.control; position = m.position; stack = m.stack; dividers = m.dividers }

unfoldable pub with_conditions : List ℕ → Machine → Machine
with_conditions l m = record { set1 = m.set1; set2 = m.set2; conditions = l; control = m.control; position = m.position; stack = m.stack; dividers = m.dividers }

unfoldable pub with_control : List ℕ → Machine → Machine
with_control l m = record { set1 = m.set1; set2 = m.set2; conditions = m.conditions; control = l; position = m.position; stack = m.stack; dividers = m.dividers }

unfoldable pub with_position : Position → Machine → Machine
with_position p m = record { set1 = m.set1; set2 = m.set2; conditions = m.conditions; control = m.control; position = p; stack = m.stack; dividers = m.dividers }

unfoldable pub with_dividers : List ℕ → Machine → Machine
with_dividers l m = record { set1 = m.set1; set2 = m.set2; conditions = m.conditions; control = m.control; position = m.position; stack = m.stack; dividers = l }

-- ---- the register sets

-- set 2 where a bit of PSR is 1, else set 1
unfoldable pub set_by : Bool → Machine → List ℕ
set_by true m = m.set2
set_by false m = m.set1

-- register n of that set replaced
unfoldable pub with_register : (second : Bool) (n x : ℕ) → Machine → Machine
with_register true n x m = with_set2 (set m.set2 n x) m
with_register false n x m = with_set1 (set m.set1 n x) m

-- ---- special registers of set 2 (Manual 1.4), and the link register of both sets

abbrev pub PSR : ℕ
PSR = 29

abbrev pub SPSR : ℕ
SPSR = 30

abbrev pub LINK : ℕ
LINK = 31

unfoldable pub psr : Machine → ℕ
psr m = get_or m.set2 PSR 0

unfoldable pub with_psr : ℕ → Machine → Machine
with_psr q m = with_set2 (set m.set2 PSR q) m

-- register n of a set replaced, but for PSR: a result for PSR is thrown away (Manual 1.4)
unfoldable pub written : (second : Bool) (n x : ℕ) → Machine → Machine
written second n x m = choose second && eqb n PSR then m else with_register second n x m

-- ---- the bits of PSR (Manual 1.4)

-- UM
abbrev pub user_mode : (psr : ℕ) → Bool
user_mode q = bit_at 0 q

-- RSRD
abbrev pub reads_set2 : (psr : ℕ) → Bool
reads_set2 q = bit_at 1 q

-- RSWR
abbrev pub writes_set2 : (psr : ℕ) → Bool
writes_set2 q = bit_at 2 q

-- IL
abbrev pub wide_words : (psr : ℕ) → Bool
wide_words q = bit_at 3 q

-- IE
abbrev pub interrupts_enabled : (psr : ℕ) → Bool
interrupts_enabled q = bit_at 4 q

-- the length of instruction words
unfoldable pub width_of : (psr : ℕ) → Width
width_of q = width_by (wide_words q)

-- PSR by its bits: UM, RSRD, RSWR, IL, IE
unfoldable pub status_of : (user read write wide enabled : Bool) → ℕ
status_of user read write wide enabled = bit_of user + 2 * bit_of read + 4 * bit_of write + 8 * bit_of wide + 16 * bit_of enabled

-- PSR of scall and of exceptions, and at reset, 0Eh: super user, set 2, 32-bit words, interrupts disabled
abbrev pub SUPER : ℕ
SUPER = status_of false true true true false

-- to unfold `states` is to unfold all definitions of this file
unfoldable pub states : Unit {0}
unfolding position_at with_set1 with_set2 with_conditions with_control with_position with_dividers set_by with_register psr with_psr written width_of status_of
states = tt
