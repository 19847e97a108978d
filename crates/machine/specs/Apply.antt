-- What an effect changes: the only place where a machine or the data memory changes, but for interrupts. Assumes nothing.
use Rattle.std.specs.Prelude.{ℕ, zero, suc, ◌+◌, ◌*◌, ◌/◌, ◌%◌, ◌^◌, Bool, true, false, List, [], ◌∷◌, ◌==◌, slice_index, slice_index_or, slice_set, Result}
use Rattle.word.specs.Choice.{choose◌then◌else◌}
use Rattle.isa.specs.Decode.{word_bytes}
use Rattle.machine.specs.Machine.{Machine, Memory, memory_of, State, state_of, SPSR, LINK, SUPER, psr, user_mode, reads_set2, writes_set2, wide_words, interrupts_enabled, width_of, status_of, position_at, with_set2, written, with_conditions, with_control, with_position, with_psr}
use Rattle.machine.specs.Control.{control_at, EXCEPTION_CS, EXCEPTION_PC, EXCEPTION_PSR, SYSTEM_ADDR, EXCEP_ADDR}
use Rattle.machine.specs.Stack.{popped, shown_top, with_stack, store_control}
use Rattle.machine.specs.declared.fault.Stop.{Stop}
use Rattle.machine.specs.Fault.{stop_of}
use Rattle.machine.specs.Kind.{Kind}
use Rattle.machine.specs.Kind as kind
use Rattle.machine.specs.Update.{Update}
use Rattle.machine.specs.Update as update
use Rattle.machine.specs.Effect.{Effect, Stopped, Raised, SystemCall, InterruptReturn, StoreCell, Updates}
use Rattle.word.specs.Word.{bit_at}

-- ---- registers; numbers of registers have five bits, of condition registers three, and each keeps its low bits

-- register d of the set that RSWR selects takes x (Manual 1.4)
unfoldable pub write_register : (d x : ℕ) → Machine → Machine
write_register d x m = written (writes_set2 (psr m)) (d % 32) (x % 2 ^ 32) m

-- condition register c takes flags: Z × 4 + N × 2 + C (Manual 1.4)
unfoldable pub write_flags : (c flags : ℕ) → Machine → Machine
write_flags c flags m = with_conditions (slice_set m.conditions (c % 8) (flags % 8)) m

-- n condition registers from their places in a word: Cn at bits 3n+2..3n (Manual 3.2, rcon)
unfoldable pub unpacked : (n word : ℕ) → List ℕ
unpacked zero x = []
unpacked (suc n) x = x % 8 ∷ unpacked n (x / 8)

-- ---- position

-- the address so many words after this one, by the length of words that PSR says
unfoldable pub words_on : (count : ℕ) → Machine → ℕ
words_on count m = (m.position.pc + count * word_bytes (width_of (psr m))) % 2 ^ 32

-- where control goes on: to the target in a slot, else to the word after this one
unfoldable pub next_pc : Machine → ℕ
next_pc m = choose m.position.slot == 1 then m.position.target else words_on 1 m

-- PC goes on; the slot is used up and a held product is gone (Manual 4)
unfoldable pub advance : Machine → Machine
advance m = with_position (position_at (next_pc m)) m

-- the same with a product held for the next instruction, which may be mulhi
unfoldable pub advance_holding : (high low : ℕ) → Machine → Machine
advance_holding high low m =
    with_position (record { pc = next_pc m; slot = 0; target = 0; held = 1; high = high % 2 ^ 32; low = low % 2 ^ 32 }) m

-- a taken jump: the next word is its slot, and the target comes after that (Manual 4.8)
unfoldable pub jump_to : (target : ℕ) → Machine → Machine
jump_to target m = with_position (record { pc = next_pc m; slot = 1; target = target % 2 ^ 32; held = 0; high = 0; low = 0 }) m

-- ---- changes of mode

-- an exception: EXCEPTION_CS, EXCEPTION_PC and EXCEPTION_PSR take the code, the instruction's address and the PSR before; PSR becomes 0Eh and PC
-- EXCEP_ADDR; slot and product are gone (Manual 4.9)
unfoldable pub raise : (code : ℕ) → Machine → Machine
raise code m =
    with_position (position_at (control_at m EXCEP_ADDR))
    (with_psr SUPER
    (with_control (slice_set (slice_set (slice_set m.control EXCEPTION_CS (code % 256)) EXCEPTION_PC m.position.pc) EXCEPTION_PSR (psr m)) m))

-- scall: PR31 takes the address two words on, SPSR takes PSR, PSR becomes 0Eh, and PC SYSTEM_ADDR (Manual 3.2)
unfoldable pub system_call : Machine → Machine
system_call m =
    with_position (position_at (control_at m SYSTEM_ADDR))
    (with_psr SUPER
    (with_set2 (slice_set (slice_set m.set2 SPSR (psr m)) LINK (words_on 2 m)) m))

-- retu: PC from PR31; IE and IL from SPSR; user mode, set 1 (Manual 3.2)
unfoldable pub user_return : Machine → Machine
user_return m =
    let saved = slice_index_or m.set2 SPSR 0 in
    with_position (position_at (slice_index m.set2 LINK))
    (with_psr (status_of true false false (wide_words saved) (interrupts_enabled saved)) m)

-- reti: PC, PSR and C0 come back from the top entry, which is removed, and its source's flag is cleared (Manual 6.2)
unfoldable pub interrupt_return : Machine → Machine
interrupt_return m =
    let e = shown_top m.stack in
    with_position (position_at e.address)
    (with_psr e.psr
    (with_conditions (slice_set m.conditions 0 e.c0)
    (with_stack (popped m.stack) m)))

-- di and ei: IE becomes 0 or 1 (Manual 3.2)
unfoldable pub enable_interrupts : Bool → Machine → Machine
enable_interrupts enabled m =
    let q = psr m in
    with_psr (status_of (user_mode q) (reads_set2 q) (writes_set2 q) (wide_words q) enabled) (advance m)

-- swm: IL becomes 0 or 1; PC goes three words of the old width on (Manual 3.2)
unfoldable pub switch_width : (wide : Bool) → Machine → Machine
switch_width wide m =
    let q = psr m in
    with_psr (status_of (user_mode q) (reads_set2 q) (writes_set2 q) wide (interrupts_enabled q)) (with_position (position_at (words_on 3 m)) m)

-- chrs: RSRD becomes bit 0, RSWR bit 1 (Manual 3.2)
unfoldable pub select_sets : (sets : ℕ) → Machine → Machine
select_sets sets m =
    let q = psr m in
    with_psr (status_of (user_mode q) (bit_at 0 sets) (bit_at 1 sets) (wide_words q) (interrupts_enabled q)) (advance m)

-- ---- effects

-- a step or a stop, and the state after it (Manual 10.1)
pub record Transition : Type 0 where
  pub kind : Kind
  pub after : State

-- a transition that changes the machine only
unfoldable pub machine_only : Kind → (Machine → Machine) → State → Transition
machine_only k f s = record { kind = k; after = record { machine = f s.machine; memory = s.memory } }

-- a data cell takes x, and PC goes on
unfoldable pub store_cell : (address x : ℕ) → State → Transition
store_cell a x s = record { kind = kind.Ordinary; after = record { machine = advance s.machine; memory = memory_of (slice_set s.memory.cells a (x % 2 ^ 32)) } }

-- a plain update; links are the address after the slot, two words on
unfoldable pub updated : Update → Machine → Machine
updated update.Next m = advance m
updated (update.Result d x) m = advance (write_register d x m)
updated (update.ResultFlags d x f) m = advance (write_flags 0 f (write_register d x m))
updated (update.ResultProduct d h l) m = advance_holding h l (write_register d l m)
updated (update.Compare c f) m = advance (write_flags c f m)
updated (update.Conditions x) m = advance (with_conditions (unpacked 8 x) m)
updated (update.StoreControl n x) m = advance (store_control n x m)
updated (update.Jump t) m = jump_to t m
updated (update.JumpLink t) m = jump_to t (write_register LINK (words_on 2 m) m)
updated (update.EnableInterrupts e) m = enable_interrupts e m
updated (update.SwitchWidth w) m = switch_width w m
updated update.UserReturn m = user_return m
updated (update.SelectSets n) m = select_sets n m

-- an effect carried out
unfoldable pub apply : Effect → State → Transition
apply (Stopped n) s = record { kind = kind.Stop n; after = s }
apply (Raised c) s = machine_only (kind.Exception c) (raise c) s
apply SystemCall s = machine_only kind.SystemCall system_call s
apply InterruptReturn s = machine_only kind.InterruptReturn interrupt_return s
apply (StoreCell a x) s = store_cell a x s
apply (Updates u) s = machine_only kind.Ordinary (updated u) s

-- ---- what the code reports of a transition

-- the number of a stop; 0 for a step
unfoldable pub stop_number : Kind → ℕ
stop_number kind.Ordinary = 0
stop_number kind.Interrupt = 0
stop_number kind.SystemCall = 0
stop_number kind.InterruptReturn = 0
stop_number (kind.Exception c) = 0
stop_number kind.Reset = 0
stop_number (kind.Stop n) = n

-- that number, and the state after it
pub record Report : Type 0 where
  pub stop : ℕ
  pub after : State

unfoldable pub reported : Transition → Report
reported t = record { stop = stop_number t.kind; after = t.after }

-- the same by a function's answer, and the machine and the memory that are left
abbrev pub report_by : Result (Unit {0}) Stop → Machine → Memory → Report
report_by result m memory = record { stop = stop_of result; after = state_of m memory }

-- an effect carried out on a machine with a memory
unfoldable pub report_on : Effect → Machine → Memory → Report
report_on e m memory = reported (apply e (state_of m memory))

-- to unfold all of these
unfoldable pub applying : Unit {0}
unfolding write_register write_flags unpacked words_on next_pc advance advance_holding jump_to raise system_call user_return interrupt_return enable_interrupts switch_width select_sets machine_only store_cell updated apply stop_number reported report_on
applying = tt
