-- The hypotheses of isolation can be met: two machines that differ in CCB_BASE, set 2, vectors, pending flags, timers that run, the interrupt
-- stack, a protected cell and a protected program byte, and two lists of calls that differ in requests, limits, buffers and refusals. Both have four
-- transitions, three in the segment and then the exception 07h. And one whose second transition is a watchdog's reset. Assumes nothing.
use mathlib.Core.Path.{◌≡◌, refl, sym, ap, ◌∙◌}
use mathlib.Core.Bool.{false, true≢false}
use mathlib.Core.List.{List, [], ◌∷◌, map}
use mathlib.Core.Option.{some}
use Prim.Native.Nat.{ℕ, zero, suc, ◌+◌, ◌*◌, ◌^◌, ◌<◌}
use native.Mathlib.Omega.{arith}
use native.Mathlib.Nat.{le_of_suc-le-suc}
use lib.ListN.{length, get_or, set, get_elem?, replicate, length-set, length-map, get_or-map}
use lib.Dec.{lit≤}
use Rattle.isa.specs.declared.operation.Operation.TheVariants.{Add, Ld, St}
use Rattle.isa.specs.Operation.{properties}
use Rattle.codec.specs.Number.{bytes_of}
use Rattle.machine.specs.Machine.{Machine, PSR, position_at, memory_of}
use Rattle.machine.specs.Control.{reset, within, CCB_BASE, INT_VECTORS, INT_PEND, TMR0_CNT, TMR_CONF, DMEM_BOUND_LO, DMEM_BOUND_HI, IMEM_BOUND_LO, IMEM_BOUND_HI}
use Rattle.machine.specs.Stack.{show_stack}
use Rattle.machine.specs.declared.stack.Entry.{Entry}
use Rattle.machine.proofs.Lists.{at_set_other}
use Rattle.image.specs.Image.{write_image}
use Rattle.machine.specs.Apply.{Transition}
use Rattle.machine.specs.Kind.{Kind, Ordinary, Exception, Reset}
use Rattle.emulator.specs.Run.{Call}
use Rattle.isolation.specs.Isolation.{transition, is_preemption, segment, Session, start_of, transitions_of, UserStart, Integrity, SameStart, SameTransition, Confidentiality, Isolation}
use Rattle.isolation.specs.Computed.{sessions}
use Rattle.isolation.proofs.Isolation.{isolated}

-- ---- the two machines

-- user mode, 32-bit words, IE 1; data addresses 100h to 2FFh and program bytes 16 to 19 are protected
machine : (base secret pending configuration count : ℕ) (dividers : List ℕ) → List Entry → Machine
machine base secret pending configuration count dividers stack =
    record {
      set1 = set (set (replicate 32 0) 1 5) 2 0x100;
      set2 = set (replicate 32 secret) PSR 0x19;
      conditions = replicate 8 0;
      control = show_stack stack
          (set (set (set (set (set (set (set (set (set reset.control CCB_BASE base) INT_VECTORS secret) INT_PEND pending) TMR0_CNT count) TMR_CONF configuration) DMEM_BOUND_LO 0x100) DMEM_BOUND_HI 0x2FF) IMEM_BOUND_LO 16) IMEM_BOUND_HI 19);
      position = position_at 0;
      stack = stack;
      dividers = dividers;
    }

entry : (source address : ℕ) → Entry
entry source address = record { source = source; address = address; psr = 0x0E; c0 = 1 }

-- add R3, R1, R1; st R3, R1, 0; ld R4, R1, 0; ld R4, R2, 0, where R2 names a protected cell; and a word that is protected
program : List ℕ
program =
    bytes_of (
    ((properties Add).number * 2 ^ 26 + 3 * 2 ^ 10 + 1 * 2 ^ 5 + 1) ∷
    ((properties St).number * 2 ^ 26 + 3 * 2 ^ 10 + 1 * 2 ^ 5) ∷
    ((properties Ld).number * 2 ^ 26 + 4 * 2 ^ 10 + 1 * 2 ^ 5) ∷
    ((properties Ld).number * 2 ^ 26 + 4 * 2 ^ 10 + 2 * 2 ^ 5) ∷
    0 ∷
    []
    )

cells : List ℕ
cells = replicate 0x101 0

-- ---- the two lists of calls

call : (requests : List ℕ) (limit room : ℕ) → Call
call requests limit room = record { requests = requests; limit = limit; buffer = replicate room 0 }

left : Session
left =
    let m = machine 0x100 3 0 0xE200 0 (0 ∷ 9 ∷ []) (entry 4 8 ∷ []) in
    record {
      program = program;
      image = write_image m;
      machine = m;
      memory = memory_of cells;
      calls = call [] 1 720 ∷ call [] 1000001 720 ∷ call [] 0 720 ∷ call [] 3 719 ∷ call [] 3 720 ∷ [];
    }

right : Session
right =
    let m = machine 0x200 99 5 0x9002_8001 0xFFFF_FFFE (1 ∷ 2 ∷ []) (entry 5 12 ∷ entry 7 4 ∷ []) in
    record {
      program = set program 16 0xFF;
      image = write_image m;
      machine = m;
      memory = memory_of (set cells 0x100 7);
      calls = call (7 ∷ 0 ∷ []) 3 800 ∷ call (4096 ∷ []) 1 720 ∷ call (0xFFF ∷ []) 1 720 ∷ [];
    }

-- ---- their transitions

kinds : List Kind
kinds = Ordinary ∷ Ordinary ∷ Ordinary ∷ Exception 0x07 ∷ []

kind_of : Transition → Kind
kind_of t = t.kind

left_kinds : map kind_of (transitions_of left) ≡ kinds
unfolding sessions left call entry program cells machine kind_of kinds
left_kinds = refl

right_kinds : map kind_of (transitions_of right) ≡ kinds
unfolding sessions right call entry program cells machine kind_of kinds
right_kinds = refl

left_segment : length (segment (transitions_of left)) ≡ 3
unfolding sessions left call entry program cells machine
left_segment = refl

right_segment : length (segment (transitions_of right)) ≡ 3
unfolding sessions right call entry program cells machine
right_segment = refl

-- ---- the hypotheses

left_start : UserStart left
unfolding sessions left entry machine
left_start = record { read = refl; user = refl; block_low = lit≤ tt; block_high = lit≤ tt }

right_start : UserStart right
unfolding sessions right entry machine
right_start = record { read = refl; user = refl; block_low = lit≤ tt; block_high = lit≤ tt }

same : SameStart left right
unfolding sessions left right entry machine
same =
    record {
      shown = record {
        set1 = refl;
        conditions = refl;
        status = refl;
        position = refl;
        cells = λ a e. sym (at_set_other cells 0x100 a 7 (λ h. true≢false (ap (within 0x100 0x2FF) (sym h) ∙ e)));
      };
      nested = refl;
      dmem_low = refl;
      dmem_high = refl;
      imem_low = refl;
      imem_high = refl;
      data_size = sym (length-set cells 0x100 7);
      program_size = sym (length-set program 16 0xFF);
      bytes = λ n e. sym (at_set_other program 16 n 0xFF (λ h. true≢false (ap (within 16 19) (sym h) ∙ e)));
    }

-- ---- the theorem applies, and at each of the four transitions

left_kept : Integrity left
unfolding Isolation
left_kept = isolated.0 left left_start

compared : Confidentiality left right
unfolding Isolation
compared = isolated.1 left right left_start right_start same

-- the transition after k others
after : Session → ℕ → Transition
after a k = get_or (transitions_of a) k (record { kind = Ordinary; after = start_of a })

there : (ts : List Transition) (k : ℕ) (d : Transition) → k < length ts → get_elem? ts k ≡ some (get_or ts k d)
there [] k d h = absurd (omega arith)
there (t ∷ ts) zero d h = refl
there (t ∷ ts) (suc k) d h = there ts k d (le_of_suc-le-suc h)

-- none of the four is a preemption
calm : (k : ℕ) → is_preemption (get_or kinds k Ordinary) ≡ false
unfolding kinds is_preemption
calm zero = refl
calm (suc zero) = refl
calm (suc (suc zero)) = refl
calm (suc (suc (suc zero))) = refl
calm (suc (suc (suc (suc k)))) = refl

calm_after : (a : Session) → map kind_of (transitions_of a) ≡ kinds → (k : ℕ) → is_preemption (after a k).kind ≡ false
unfolding after kind_of
calm_after a e k =
    ap is_preemption (sym (get_or-map kind_of (transitions_of a) k (record { kind = Ordinary; after = start_of a })) ∙ ap (λ l. get_or l k Ordinary) e) ∙ calm k

count_of : (a : Session) → map kind_of (transitions_of a) ≡ kinds → length (transitions_of a) ≡ 4
unfolding kinds
count_of a e = sym (length-map (transitions_of a) kind_of) ∙ ap (λ (l : List Kind). length l) e

each : (k : ℕ) → k < 4 → SameTransition left right (suc k) (after left k) (after right k)
unfolding Confidentiality transition after
each k h =
    compared (suc k) (after left k) (after right k)
    (there (transitions_of left) k _ (rw (count_of left left_kinds) h)) (there (transitions_of right) k _ (rw (count_of right right_kinds) h))
    (rw left_segment h) (rw right_segment h) (calm_after left left_kinds k) (calm_after right right_kinds k)

-- ---- a watchdog's reset ends a segment

-- timer 0 goes from FFFFFFFEh to FFFFFFFFh and to 0, its maximum, and WDOG is 1
watched : Session
watched =
    let m = machine 0x100 3 0 0x9000 0xFFFF_FFFE (0 ∷ 0 ∷ []) [] in
    record { program = program; image = write_image m; machine = m; memory = memory_of cells; calls = call [] 3 720 ∷ [] }

watched_kinds : map kind_of (transitions_of watched) ≡ Ordinary ∷ Reset ∷ Ordinary ∷ []
unfolding sessions watched call program cells machine kind_of
watched_kinds = refl

watched_segment : length (segment (transitions_of watched)) ≡ 1
unfolding sessions watched call program cells machine
watched_segment = refl

watched_start : UserStart watched
unfolding sessions watched machine
watched_start = record { read = refl; user = refl; block_low = lit≤ tt; block_high = lit≤ tt }

watched_kept : Integrity watched
unfolding Isolation
watched_kept = isolated.0 watched watched_start
