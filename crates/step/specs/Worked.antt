-- Worked examples (Manual 16.1, 16.2): a table of single steps, each from a start, with what is shown of it and what that must be; a change of task;
-- and a table of the nops that must follow. Assumes nothing.
use Rattle.std.specs.Prelude.{◌≡◌, List, [], ◌∷◌, ◌++◌, map, ℕ, zero, suc, ◌+◌, ◌*◌, ◌^◌, get_or, set, replicate}
use Rattle.isa.specs.declared.operation.Operation.{Operation}
use Rattle.isa.specs.declared.operation.Operation.TheVariants.{Add, Sub, Subu, Muls, Mulu, Mulus, Ld, Jmp}
use Rattle.isa.specs.Operation.{properties}
use Rattle.machine.specs.Machine.{Machine, memory_of, State, PSR, LINK, psr, position_at, with_set2}
use Rattle.machine.specs.Words.{ZEROS}
use Rattle.machine.specs.declared.stack.Entry.{Entry}
use Rattle.machine.specs.Stack.{with_stack}
use Rattle.machine.specs.Control.{control_at, reset, EXCEPTION_CS, EXCEPTION_PC, EXCEPTION_PSR, DMEM_BOUND_LO, DMEM_BOUND_HI, IMEM_BOUND_LO, IMEM_BOUND_HI, INT_SERV, RETURNS}
use Rattle.codec.specs.Number.{bytes_of}
use Rattle.step.specs.Step.{step}
use Rattle.step.specs.AddressOrder.{step_before}
use Rattle.machine.specs.Kind.{Kind, Ordinary, SystemCall, Exception, Stop}

pub record Case : Type 0 where
  pub psr : ℕ
  pub high : ℕ  -- DMEM_BOUND_HI
  pub program : List ℕ
  pub r1 : ℕ
  pub r2 : ℕ
  pub r25 : ℕ
  pub r26 : ℕ
  pub shown : State → List ℕ
  pub kind : Kind
  pub expected : List ℕ

-- reset but for these: C0 is 5, EXCEPTION_CS and _PC are 99, data addresses from 10h to DMEM_BOUND_HI are protected and no program byte is; 32
-- cells that hold 77
unfoldable pub start : Case → State
start c =
    record {
      machine = record {
        set1 = set (set (set (set (replicate 32 0) 1 c.r1) 2 c.r2) 25 c.r25) 26 c.r26;
        set2 = set (replicate 32 0) PSR c.psr;
        conditions = set (replicate 8 0) 0 5;
        control = set (set (set (set (set (set reset.control EXCEPTION_CS 99) EXCEPTION_PC 99) DMEM_BOUND_LO 0x10) DMEM_BOUND_HI c.high) IMEM_BOUND_LO 1) IMEM_BOUND_HI 0;
        position = position_at 0;
        stack = [];
        dividers = ZEROS;
      };
      memory = memory_of (replicate 32 77);
    }

abbrev word : ℕ → List ℕ
word w = bytes_of (w ∷ [])

-- ---- rows: in user mode with 32-bit words and DMEM_BOUND_HI 13h, where nothing else is said

abbrev wide : List ℕ → ℕ → ℕ → (State → List ℕ) → Kind → List ℕ → Case
wide program x y shown kind expected =
    record { psr = 0x09; high = 0x13; program = program; r1 = x; r2 = y; r25 = 0; r26 = 0; shown = shown; kind = kind; expected = expected }

-- op R3, R1, R2: R3 and C0 after it
abbrev sum : Operation → ℕ → ℕ → Kind → List ℕ → Case
sum op x y kind expected =
    wide (word ((properties op).number * 2 ^ 26 + 3 * 2 ^ 10 + 1 * 2 ^ 5 + 2)) x y
    (λ s. get_or s.machine.set1 3 0 ∷ get_or s.machine.conditions 0 0 ∷ []) kind expected

-- op R3, R1, R2: the product's low and high half
abbrev product : Operation → ℕ → ℕ → List ℕ → Case
product op x y expected =
    wide (word ((properties op).number * 2 ^ 26 + 3 * 2 ^ 10 + 1 * 2 ^ 5 + 2)) x y
    (λ s. get_or s.machine.set1 3 0 ∷ s.machine.position.high ∷ []) Ordinary expected

-- jmp n at 0: the slot's flag and the target
abbrev jump : ℕ → Kind → List ℕ → Case
jump n kind expected =
    wide (word ((properties Jmp).number * 2 ^ 26 + n)) 0 0 (λ s. s.machine.position.slot ∷ s.machine.position.target ∷ []) kind expected

-- ld R3, R1, 0: R3
abbrev load : ℕ → Kind → List ℕ → Case
load a kind expected =
    wide (word ((properties Ld).number * 2 ^ 26 + 3 * 2 ^ 10 + 1 * 2 ^ 5)) a 0 (λ s. get_or s.machine.set1 3 0 ∷ []) kind expected

-- a load or store of R3 that is an exception: EXCEPTION_CS, _PC and _PSR, R3 and the cells
abbrev refused : (psr high w x code : ℕ) → Case
refused psr high w x code =
    record {
      psr = psr;
      high = high;
      program = word w;
      r1 = x;
      r2 = 0;
      r25 = 0;
      r26 = 0;
      shown = λ s. map (control_at s.machine) (EXCEPTION_CS ∷ EXCEPTION_PC ∷ EXCEPTION_PSR ∷ []) ++ get_or s.machine.set1 3 0 ∷ s.memory.cells;
      kind = Exception code;
      expected = code ∷ 0 ∷ psr ∷ 0 ∷ replicate 32 77;
    }

-- addresses outside 32 bits (Manual 4.7): FFFFFFFFh + 16, 17, 20 and 21 are 0Fh, 10h, 13h and 14h when wrapped, 0 − 1 is FFFFFFFFh
unfoldable pub wrapped_cases : List Case
wrapped_cases =
    refused 0x09 0x13 0x6C00_0C30 0xFFFF_FFFF 0x08 ∷  -- ld R3, R1, 16
    refused 0x09 0x13 0x6C00_0C31 0xFFFF_FFFF 0x07 ∷  -- ld R3, R1, 17
    refused 0x09 0x13 0x7000_0C34 0xFFFF_FFFF 0x07 ∷  -- st R3, R1, 20
    refused 0x09 0x13 0x7000_0C35 0xFFFF_FFFF 0x08 ∷  -- st R3, R1, 21
    refused 0x08 0x13 0x6C00_0C31 0xFFFF_FFFF 0x08 ∷  -- ld R3, R1, 17 in super user mode
    refused 0x09 0x13 0x6C07_8C3F 0 0x08 ∷  -- ld R3, R1, −1
    refused 0x09 0xFFFF_FFFF 0x6C07_8C3F 0 0x07 ∷  -- ld R3, R1, −1
    []

unfoldable pub cases : List Case
cases =
    -- add: 7FFFFFFFh + 0 passes, + 1 is 06h and leaves C0
    sum Add 0x7FFF_FFFF 0 Ordinary (0x7FFF_FFFF ∷ 0 ∷ []) ∷
    sum Add 0x7FFF_FFFF 1 (Exception 0x06) (0 ∷ 5 ∷ []) ∷
    -- sub: 80000000h − 1 is 06h; subu gives 7FFFFFFFh
    sum Sub 0x8000_0000 1 (Exception 0x06) (0 ∷ 5 ∷ []) ∷
    sum Subu 0x8000_0000 1 Ordinary (0x7FFF_FFFF ∷ 1 ∷ []) ∷
    -- FFFFFFFFh times itself: mulu has low half 1 and high half FFFFFFFEh, mulus 1 and FFFFFFFFh, muls 1 and 0
    product Mulu 0xFFFF_FFFF 0xFFFF_FFFF (1 ∷ 0xFFFF_FFFE ∷ []) ∷
    product Mulus 0xFFFF_FFFF 0xFFFF_FFFF (1 ∷ 0xFFFF_FFFF ∷ []) ∷
    product Muls 0xFFFF_FFFF 0xFFFF_FFFF (1 ∷ 0 ∷ []) ∷
    -- sub in a 16-bit word, 0C11h: R25 becomes R26 − R25
    record { psr = 0x01; high = 0x13; program = 0x0C ∷ 0x11 ∷ []; r1 = 0; r2 = 0; r25 = 3; r26 = 10; shown = λ s. get_or s.machine.set1 25 0 ∷ []; kind = Ordinary; expected = 7 ∷ [] } ∷
    -- at 0, jmp 1 is 03h, and jmp 2 goes to 8
    jump 1 (Exception 0x03) (0 ∷ 0 ∷ []) ∷
    jump 2 Ordinary (1 ∷ 8 ∷ []) ∷
    -- swm 0 (D8000000h) at 0, with its two nops: PC 12
    wide (bytes_of (0xD800_0000 ∷ 0 ∷ 0 ∷ [])) 0 0 (λ s. s.machine.position.pc ∷ []) Ordinary (12 ∷ []) ∷
    -- ld in user mode, cells being there: one below DMEM_BOUND_LO and one above DMEM_BOUND_HI it passes; at either bound it is 07h
    load 0x0F Ordinary (77 ∷ []) ∷
    load 0x14 Ordinary (77 ∷ []) ∷
    load 0x10 (Exception 0x07) (0 ∷ []) ∷
    load 0x13 (Exception 0x07) (0 ∷ []) ∷
    wrapped_cases

-- ---- what the definitions give at a case, and what they must

pub record Seen : Type 0 where
  pub kind : Kind
  pub shown : List ℕ

unfoldable pub given : Case → Seen
given c =
    let t = step c.program (start c) 0 in
    record { kind = t.kind; shown = c.shown t.after }

unfoldable pub wanted : Case → Seen
wanted c = record { kind = c.kind; shown = c.expected }

-- the definitions give what they must, at each case
abbrev pub Worked : Type 0
Worked = map given cases ≡ map wanted cases

-- by the other order of tests (AddressOrder) each of the wrapped cases is 08h
abbrev pub WorkedBefore : Type 0
WorkedBefore = map (λ c. (step_before c.program (start c) 0).kind) wrapped_cases ≡ replicate 7 (Exception 0x08)

-- ---- a change of task (Manual 6.3)

abbrev entry : (source address psr c0 : ℕ) → Entry
entry n a q c = record { source = n; address = a; psr = q; c0 = c }

-- reset but for an interrupt stack, PR0, which has CCB_BASE, and PR1 and PR2
unfoldable pub routine : List Entry → (pr1 pr2 : ℕ) → State
routine stack x y =
    record {
      machine = with_stack stack (with_set2 (set (set (set reset.set2 0 0x0001_0000) 1 x) 2 y) reset);
      memory = memory_of [];
    }

unfoldable pub after : (count : ℕ) (program : List ℕ) → State → State
after zero program s = s
after (suc n) program s = after n program (step program s 0).after

-- PC, PSR, C0, PR4, INT_SERV and the RETI_ registers
unfoldable pub shown_return : State → List ℕ
shown_return s =
    let m = s.machine in
    m.position.pc ∷ psr m ∷ get_or m.conditions 0 0 ∷ get_or m.set2 4 0 ∷ map (control_at m) (INT_SERV ∷ RETURNS)

unfoldable pub switching : List ℕ
switching =
    bytes_of (
    0x7000_8408 ∷  -- st PR1, PR0, 28h
    0x7000_8809 ∷  -- st PR2, PR0, 29h
    0x7000_880A ∷  -- st PR2, PR0, 2Ah
    0x6C00_9009 ∷  -- ld PR4, PR0, 29h
    0xC800_0000 ∷  -- reti
    0 ∷ 0 ∷ 0 ∷  -- nop
    [])

-- the top, of source 7, gets 12345678h, FFFFFFFFh and FFFFFFFFh: of the PSR 19h is kept, of C0 7; reti goes there, and the entry of source 4 is
-- shown. With an empty stack nothing but PC moves
abbrev pub WorkedReturn : Type 0
WorkedReturn =
    let nested = routine (entry 7 0x80 0x0E 2 ∷ entry 4 0x40 0x19 1 ∷ []) 0x1234_5678 0xFFFF_FFFF in
    map (λ n. shown_return (after n switching nested)) (0 ∷ 3 ∷ 4 ∷ 5 ∷ []) ++ shown_return (after 3 switching (routine [] 5 6)) ∷ []
    ≡ (0 ∷ 0x0E ∷ 0 ∷ 0 ∷ 0x90 ∷ 0x80 ∷ 0x0E ∷ 2 ∷ [])
    ∷ (12 ∷ 0x0E ∷ 0 ∷ 0 ∷ 0x90 ∷ 0x1234_5678 ∷ 0x19 ∷ 7 ∷ [])
    ∷ (16 ∷ 0x0E ∷ 0 ∷ 0x19 ∷ 0x90 ∷ 0x1234_5678 ∷ 0x19 ∷ 7 ∷ [])
    ∷ (0x1234_5678 ∷ 0x19 ∷ 7 ∷ 0x19 ∷ 0x10 ∷ 0x40 ∷ 0x19 ∷ 1 ∷ [])
    ∷ (12 ∷ 0x0E ∷ 0 ∷ 0 ∷ 0 ∷ 1 ∷ 9 ∷ 0 ∷ [])
    ∷ []

-- ---- the nops that must follow (Manual 4.6)

-- one step from an address, with this PSR, in a slot or not, program bytes from low to high protected, EXCEPTION_PC 99, PR31 77 and all else as at
-- reset: what it was; PC, PR31 and EXCEPTION_PC after it
unfoldable pub stepped : (psr low high slot pc : ℕ) (program : List ℕ) → Seen
stepped q low high slot pc program =
    let m : Machine = record {
      set1 = reset.set1;
      set2 = set (set reset.set2 PSR q) LINK 77;
      conditions = reset.conditions;
      control = set (set (set reset.control EXCEPTION_PC 99) IMEM_BOUND_LO low) IMEM_BOUND_HI high;
      position = record { pc = pc; slot = slot; target = 0; held = 0; high = 0; low = 0 };
      stack = [];
      dividers = ZEROS;
    } in
    let s : State = record { machine = m; memory = memory_of [] } in
    let t = step program s 0 in
    let after = t.after.machine in
    record { kind = t.kind; shown = after.position.pc ∷ get_or after.set2 LINK 0 ∷ control_at after EXCEPTION_PC ∷ [] }

-- from 0 in user mode with 32-bit words and nothing protected; in super user mode
abbrev user : List ℕ → Seen
user words = stepped 0x09 1 0 0 0 (bytes_of words)

abbrev super : List ℕ → Seen
super words = stepped 0x0E 1 0 0 0 (bytes_of words)

abbrev seen : Kind → (pc link exceptionPc : ℕ) → Seen
seen kind pc link e = record { kind = kind; shown = pc ∷ link ∷ e ∷ [] }

-- all is as before it
abbrev stop : ℕ → Seen
stop n = seen (Stop n) 0 77 99

-- addi R2, R1, −1
abbrev addition : ℕ
addition = 0x4807_883F

-- what the definitions give, and what they must
unfoldable pub nop_cases : List (Seen × Seen)
nop_cases =
    -- swm: no word; two nops; the second another operation; the first, and no second; the second not wholly there
    (user (0xD800_0000 ∷ []), stop 11) ∷
    (user (0xD800_0000 ∷ 0 ∷ 0 ∷ []), seen Ordinary 12 77 99) ∷
    (user (0xD800_0000 ∷ 0 ∷ addition ∷ []), stop 20) ∷
    (user (0xD800_0000 ∷ addition ∷ []), stop 20) ∷
    (stepped 0x09 1 0 0 0 (bytes_of (0xD800_0000 ∷ 0 ∷ []) ++ 0 ∷ 0 ∷ []), stop 11) ∷
    -- the last byte of its second protected, and another operation there; the same at 4, and absent; in super user mode; the first another operation
    (stepped 0x09 11 11 0 0 (bytes_of (0xD800_0000 ∷ 0 ∷ addition ∷ [])), seen (Exception 0x00) 0 77 0) ∷
    (stepped 0x09 15 15 0 4 (bytes_of (addition ∷ 0xD800_0000 ∷ 0 ∷ addition ∷ [])), seen (Exception 0x00) 0 77 4) ∷
    (stepped 0x09 15 15 0 4 (bytes_of (addition ∷ 0xD800_0000 ∷ 0 ∷ [])), seen (Exception 0x00) 0 77 4) ∷
    (stepped 0x0E 11 11 0 0 (bytes_of (0xD800_0000 ∷ 0 ∷ 0 ∷ [])), seen Ordinary 12 77 99) ∷
    (stepped 0x09 11 11 0 0 (bytes_of (0xD800_0000 ∷ addition ∷ 0 ∷ [])), stop 20) ∷
    -- reti with an empty stack: three nops; the third another operation
    (user (0xC800_0000 ∷ 0 ∷ 0 ∷ 0 ∷ []), stop 15) ∷
    (user (0xC800_0000 ∷ 0 ∷ 0 ∷ addition ∷ []), stop 20) ∷
    -- retu: in user mode with no nop; in super user mode with one, and with another operation
    (user (0xC400_0000 ∷ []), seen (Exception 0x02) 0 77 0) ∷
    (super (0xC400_0000 ∷ 0 ∷ []), seen Ordinary 77 77 99) ∷
    (super (0xC400_0000 ∷ addition ∷ []), stop 20) ∷
    -- scall: a nop with all other bits 1; another operation; the same, eq C0, and C0 is 0; in a slot with no nop; 16-bit words
    (user (0xC000_0000 ∷ 0x03FF_FFFF ∷ []), seen SystemCall 0 8 99) ∷
    (user (0xC000_0000 ∷ addition ∷ []), stop 20) ∷
    (user (0xC218_0000 ∷ addition ∷ []), seen Ordinary 4 77 99) ∷
    (stepped 0x09 1 0 1 0 (bytes_of (0xC000_0000 ∷ [])), stop 13) ∷
    (stepped 0x01 1 0 0 0 (0xC0 ∷ 0x00 ∷ 0x00 ∷ 0x01 ∷ []), seen SystemCall 0 4 99) ∷
    []

-- the definitions give what they must, at each case
abbrev pub WorkedNops : Type 0
WorkedNops = map (λ c. c.0) nop_cases ≡ map (λ c. c.1) nop_cases
