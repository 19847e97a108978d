-- The stack of interrupts in service, the control registers that show it, and stores to the control block (Manual 5.2, 5.3 and 6.1).
-- Assumes nothing.
use Rattle.std.specs.Prelude.{◌≡◌, true, false, List, [], ◌∷◌, map, ℕ, ◌%◌, ◌^◌, set, eqb}
use Rattle.word.specs.Choice.{choose◌then◌else◌}
use Rattle.word.specs.Flags.{flags_at, distinct_below}
use Rattle.machine.specs.Machine.{Machine, user_mode, wide_words, interrupts_enabled, status_of}
use Rattle.machine.specs.Words.{SOURCES}
use Rattle.machine.specs.Control.{register_at, replaces_top, store_register, INT_SERV, RETI_ADDR, RETI_PSR, RETI_CR0}
use Rattle.machine.specs.declared.stack.Entry.{Entry}

-- the stack without its top
unfoldable pub popped : List Entry → List Entry
popped [] = []
popped (e ∷ es) = es

-- the sources in service
unfoldable pub sources_of : List Entry → List ℕ
sources_of es = map (λ (e : Entry). e.source) es

-- INT_SERV: a flag for each source in service
unfoldable pub service_flags : List Entry → ℕ
service_flags es = flags_at (sources_of es)

-- what the RETI_ registers show: the top, or 1, 9, 0 when empty
unfoldable pub shown_top : List Entry → Entry
shown_top [] = record { source = 0; address = 1; psr = 9; c0 = 0 }
shown_top (e ∷ es) = e

-- the control block with INT_SERV and the RETI_ registers set
abbrev pub show_top : (flags : ℕ) (top : Entry) (control : List ℕ) → List ℕ
show_top flags top l = set (set (set (set l INT_SERV flags) RETI_ADDR top.address) RETI_PSR top.psr) RETI_CR0 top.c0

-- the control block that shows a stack
unfoldable pub show_stack : List Entry → (control : List ℕ) → List ℕ
show_stack es l = show_top (service_flags es) (shown_top es) l

-- the machine with this stack, and its control block showing it
unfoldable pub with_stack : List Entry → Machine → Machine
with_stack es m = record { set1 = m.set1; set2 = m.set2; conditions = m.conditions; control = show_stack es m.control; position = m.position; stack = es; dividers = m.dividers }

-- the control block shows the stack, and the stack's sources are below 12 and all different (question 5)
pub record StackShown (m : Machine) : Type 0 where
  pub shown : show_stack m.stack m.control ≡ m.control
  pub distinct : distinct_below SOURCES (sources_of m.stack) ≡ true

-- ---- stores to the control block

-- what RETI_PSR keeps of x: bits 4..0, with RSRD and RSWR 0 where UM is 1 (Manual 5.3)
unfoldable pub kept_status : ℕ → ℕ
kept_status x = choose user_mode x then status_of true false false (wide_words x) (interrupts_enabled x) else x % 32

-- an entry with the part replaced that the register at an offset shows: RETI_ADDR its address, RETI_PSR its PSR, RETI_CR0 its C0, of three bits
unfoldable pub return_stored : (offset x : ℕ) → Entry → Entry
return_stored n x e =
    record {
      source = e.source;
      address = choose eqb n RETI_ADDR then x % 2 ^ 32 else e.address;
      psr = choose eqb n RETI_PSR then kept_status x else e.psr;
      c0 = choose eqb n RETI_CR0 then x % 8 else e.c0;
    }

-- a store to such a register replaces that part of the top entry; with an empty stack it is ignored
unfoldable pub top_stored : (offset x : ℕ) → List Entry → Machine → Machine
top_stored n x [] m = m
top_stored n x (e ∷ es) m = with_stack (return_stored n x e ∷ es) m

-- a store of x to the control block at an offset
unfoldable pub store_control : (offset x : ℕ) → Machine → Machine
store_control n x m = choose replaces_top (register_at n).access then top_stored n x m.stack m else store_register n x m

-- to unfold `stacks` is to unfold all definitions of this file
unfoldable pub stacks : Unit {0}
unfolding popped sources_of service_flags shown_top show_stack with_stack kept_status return_stored top_stored store_control
stacks = tt
