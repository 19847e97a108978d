-- What is proved of machines: the statements, each below its meaning in words. Assumes nothing.
use Rattle.std.specs.Prelude.{◌≡◌, ◌↔◌, true, false, List, [], ◌∷◌, map, ℕ, ◌%◌, ◌<◌, length, get_or}
use Rattle.word.specs.Flags.{is_among, ones_of, distinct_below}
use Rattle.machine.specs.Machine.{Machine, SUPER, user_mode}
use Rattle.machine.specs.Control.{Register, registers, can_hold, kept_by, is_writable, store_register, RETURNS}
use Rattle.machine.specs.Stack.{sources_of, service_flags, kept_status, store_control}
use Rattle.machine.specs.Words.{OFFSETS, SOURCES, DEPTH, MachineWords, machine_of, is_free, Says}
use Rattle.machine.specs.declared.stack.Entry.{Entry}

-- free places may hold anything, and no other: two lists of words say the same machine exactly where they agree at each place that is not free, the
-- count of stack entries among these
abbrev pub FreePlaces : Type 0
FreePlaces =
    (words others : List ℕ) → MachineWords words → MachineWords others
    → Says words (machine_of others) ↔ ((place : ℕ) → is_free (get_or words DEPTH 0) place ≡ false → get_or words place 0 ≡ get_or others place 0)

-- the table of control registers has a row for each offset, 00h to 2Ch
abbrev pub RegistersCount : Type 0
RegistersCount = length registers ≡ OFFSETS

-- a store leaves what the register can hold: its low bits, and of CCB_BASE the low byte 0 (Manual 5.2; question 3)
abbrev pub KeptHolds : Type 0
KeptHolds = (r : Register) (x : ℕ) → is_writable r.access ≡ true → can_hold r (kept_by r x) ≡ true

-- the stack has as many entries as INT_SERV has ones (Manual 6.1)
abbrev pub OnesDepth : Type 0
OnesDepth = (stack : List Entry) → distinct_below SOURCES (sources_of stack) ≡ true → ones_of SOURCES (service_flags stack) ≡ length stack

-- the PSR of scall, of exceptions and at reset is 0Eh
abbrev pub SuperIs : Type 0
SuperIs = SUPER ≡ 0x0E

-- ---- stores to the RETI_ registers (Manual 5.3)

-- what RETI_PSR keeps is a PSR that questions 3 and 4 accept: at most 31, and with UM 1 its RSRD and RSWR are 0
abbrev pub KeptStatusFits : Type 0
KeptStatusFits = (x : ℕ) → (kept_status x < 32) × (user_mode (kept_status x) ≡ true → kept_status x % 8 ≡ 1)

-- worked examples
abbrev pub WorkedStatus : Type 0
WorkedStatus =
    map kept_status (0xFFFF_FFFF ∷ 0xFFFF_FFFE ∷ 0x1F ∷ 0x07 ∷ 0x06 ∷ 0x100 ∷ 0xFF ∷ [])
    ≡ 0x19 ∷ 0x1E ∷ 0x19 ∷ 0x01 ∷ 0x06 ∷ 0x00 ∷ 0x19 ∷ []

-- a store to any other register does what it did
abbrev pub OtherStores : Type 0
OtherStores = (offset x : ℕ) (m : Machine) → is_among offset RETURNS ≡ false → store_control offset x m ≡ store_register offset x m
