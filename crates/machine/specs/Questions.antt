-- Questions 3 to 5 (Manual 8.1, 8.2 and 9.2), and what makes a machine well formed. Assumes nothing.
use Rattle.std.specs.Prelude.{Bool, true, false, not, ◌&&◌, List, [], ◌∷◌, ℕ, zero, suc, ◌%◌, ◌^◌, length, ltb, eqb}
use Rattle.word.specs.Choice.{choose◌then◌else◌}
use Rattle.word.specs.Flags.{distinct_below}
use Rattle.machine.specs.Machine.{Machine, psr, user_mode}
use Rattle.machine.specs.Control.{control_at, register_at, can_hold, INT_SERV, RETI_ADDR, RETI_PSR, RETI_CR0}
use Rattle.machine.specs.Words.{REGISTERS, FLAGS, OFFSETS, SOURCES, TIMERS}
use Rattle.machine.specs.Stack.{sources_of, service_flags, shown_top}
use Rattle.machine.specs.declared.position.Position.{Position}
use Rattle.machine.specs.declared.stack.Entry.{Entry}

unfoldable pub implies : Bool → Bool → Bool
implies true b = b
implies false b = true

unfoldable pub all : List Bool → Bool
all [] = true
all (b ∷ bs) = b && all bs

-- every number is below top
unfoldable pub all_below : (top : ℕ) → List ℕ → Bool
all_below top [] = true
all_below top (x ∷ l) = ltb x top && all_below top l

-- ---- 3: every number is one that its register can hold

-- control registers, from offset i on
unfoldable pub all_held : (i : ℕ) → List ℕ → Bool
all_held i [] = true
all_held i (x ∷ l) = can_hold (register_at i) x && all_held (suc i) l

-- a stacked PSR is at most 31, a stacked C0 has three bits
unfoldable pub entries_fit : List Entry → Bool
entries_fit [] = true
entries_fit (e ∷ es) = (ltb e.address (2 ^ 32) && (ltb e.psr 32 && ltb e.c0 8)) && entries_fit es

-- flags are 0 or 1, and a 0 flag's numbers are 0
unfoldable pub position_tests : Position → List Bool
position_tests q =
    ltb q.pc (2 ^ 32) ∷
    ltb q.slot 2 ∷
    ltb q.target (2 ^ 32) ∷
    implies (eqb q.slot 0) (eqb q.target 0) ∷
    ltb q.held 2 ∷
    ltb q.high (2 ^ 32) ∷
    ltb q.low (2 ^ 32) ∷
    implies (eqb q.held 0) (eqb q.high 0) ∷
    implies (eqb q.held 0) (eqb q.low 0) ∷
    []

-- of all numbers but the dividers
unfoldable pub number_tests : Machine → List Bool
number_tests m =
    all_below (2 ^ 32) m.set1 ∷
    all_below (2 ^ 32) m.set2 ∷
    ltb (psr m) 32 ∷
    all_below 8 m.conditions ∷
    all_held 0 m.control ∷
    all (position_tests m.position) ∷
    entries_fit m.stack ∷
    []

-- a divider is at most 255 (Manual 8.1)
unfoldable pub question3 : Machine → Bool
question3 m = all (number_tests m) && all_below 256 m.dividers

-- ---- 4: every current or stacked PSR with UM 1 has RSRD and RSWR 0

unfoldable pub sets_fit : (psr : ℕ) → Bool
sets_fit q = implies (user_mode q) (eqb (q % 8) 1)

unfoldable pub modes_fit : List Entry → Bool
modes_fit [] = true
modes_fit (e ∷ es) = sets_fit e.psr && modes_fit es

unfoldable pub question4 : Machine → Bool
question4 m = sets_fit (psr m) && modes_fit m.stack

-- ---- 5: stack sources below 12, all different, equal to INT_SERV; RETI_ equal to the top, or 1, 9, 0 when empty

unfoldable pub stack_tests : Machine → List Bool
stack_tests m =
    distinct_below SOURCES (sources_of m.stack) ∷
    eqb (control_at m INT_SERV) (service_flags m.stack) ∷
    eqb (control_at m RETI_ADDR) (shown_top m.stack).address ∷
    eqb (control_at m RETI_PSR) (shown_top m.stack).psr ∷
    eqb (control_at m RETI_CR0) (shown_top m.stack).c0 ∷
    []

unfoldable pub question5 : Machine → Bool
question5 m = all (stack_tests m)

-- ---- a well-formed machine: its lists have their counts, and 3 to 5 are yes

unfoldable pub form_tests : Machine → List Bool
form_tests m =
    eqb (length m.set1) REGISTERS ∷
    eqb (length m.set2) REGISTERS ∷
    eqb (length m.conditions) FLAGS ∷
    eqb (length m.control) OFFSETS ∷
    eqb (length m.dividers) TIMERS ∷
    question3 m ∷
    question4 m ∷
    question5 m ∷
    []

unfoldable pub well_formed : Machine → Bool
well_formed m = all (form_tests m)

-- ---- questions 3 to 5 in order: the number of the first no, or the machine

pub data Read : Type 0 where
  Refused : ℕ → Read
  Accepted : Machine → Read

unfoldable pub ask_machine : Machine → Read
ask_machine m =
    choose not (question3 m) then Refused 3
    else choose not (question4 m) then Refused 4
    else choose not (question5 m) then Refused 5
    else Accepted m

-- what an answer says of a machine that was asked: 0 accepts it
unfoldable pub read_by : (answer : ℕ) → Machine → Read
read_by zero m = Accepted m
read_by (suc n) m = Refused (suc n)

-- to unfold `questions` is to unfold all definitions of this file
unfoldable pub questions : Unit {0}
unfolding implies all all_below all_held entries_fit position_tests number_tests question3 sets_fit modes_fit question4 stack_tests question5 form_tests well_formed ask_machine read_by
questions = tt
