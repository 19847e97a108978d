-- A machine as one list of words at fixed places, in the order of an image (Manual 8.1); what an image's numbers say is image/Image: machine_in. Assumes nothing.
use Rattle.std.specs.Prelude.{◌≡◌, Bool, ◌&&◌, ◌||◌, List, [], ◌∷◌, reverse, ℕ, zero, suc, ◌+◌, ◌*◌, length, get_or, take, drop, leb, ltb}
use Rattle.word.specs.Flags.{is_among}
use Rattle.machine.specs.Machine.{Machine}
use Rattle.machine.specs.declared.position.Position.{Position}
use Rattle.machine.specs.declared.stack.Entry.{Entry}

-- how many numbers each section has: a register set, the conditions, the control block, the position
abbrev pub REGISTERS : ℕ
REGISTERS = 32

abbrev pub FLAGS : ℕ
FLAGS = 8

abbrev pub OFFSETS : ℕ
OFFSETS = 45

abbrev pub PLACES : ℕ
PLACES = 6

-- the interrupt sources; the stack has at most one entry of each
abbrev pub SOURCES : ℕ
SOURCES = 12

-- the timers, each with a divider
abbrev pub TIMERS : ℕ
TIMERS = 2

-- dividers that are 0
abbrev pub ZEROS : List ℕ
ZEROS = 0 ∷ 0 ∷ []

-- where the sections' numbers begin among the words, each after a word for its count

abbrev pub SET1 : ℕ
SET1 = 1

abbrev pub SET2 : ℕ
SET2 = SET1 + REGISTERS + 1

abbrev pub CONDITIONS : ℕ
CONDITIONS = SET2 + REGISTERS + 1

abbrev pub CONTROL : ℕ
CONTROL = CONDITIONS + FLAGS + 1

abbrev pub POSITION : ℕ
POSITION = CONTROL + OFFSETS + 1

-- the count of stack entries, and the entries, four words each, the top last
abbrev pub DEPTH : ℕ
DEPTH = POSITION + PLACES

abbrev pub ENTRIES : ℕ
ENTRIES = DEPTH + 1

-- the dividers, behind the words for a full stack and a word for their count
abbrev pub DIVIDERS : ℕ
DIVIDERS = ENTRIES + 4 * SOURCES + 1

abbrev pub WORDS : ℕ
WORDS = DIVIDERS + TIMERS

-- words are as many as a machine has
abbrev pub MachineWords : (words : List ℕ) → Type 0
MachineWords ws = length ws ≡ WORDS

abbrev pub section : (start count : ℕ) (words : List ℕ) → List ℕ
section start count ws = take count (drop start ws)

unfoldable pub position_of : (words : List ℕ) → Position
position_of l = record { pc = get_or l 0 0; slot = get_or l 1 0; target = get_or l 2 0; held = get_or l 3 0; high = get_or l 4 0; low = get_or l 5 0 }

abbrev pub entry_of : (words : List ℕ) → Entry
entry_of l = record { source = get_or l 0 0; address = get_or l 1 0; psr = get_or l 2 0; c0 = get_or l 3 0 }

abbrev pub words_of : Entry → List ℕ
words_of e = e.source ∷ e.address ∷ e.psr ∷ e.c0 ∷ []

unfoldable pub entries_of : (count : ℕ) (words : List ℕ) → List Entry
entries_of zero l = []
entries_of (suc n) l = entry_of l ∷ entries_of n (drop 4 l)

-- the machine that words at these places say
unfoldable pub machine_of : (words : List ℕ) → Machine
machine_of ws =
    record {
      set1 = section SET1 REGISTERS ws;
      set2 = section SET2 REGISTERS ws;
      conditions = section CONDITIONS FLAGS ws;
      control = section CONTROL OFFSETS ws;
      position = position_of (section POSITION PLACES ws);
      stack = reverse (entries_of (get_or ws DEPTH 0) (drop ENTRIES ws));
      dividers = section DIVIDERS TIMERS ws;
    }

-- ---- what is free: places whose words say nothing of the machine

-- the places of the words for the counts of the sections before the stack
abbrev pub COUNTS : List ℕ
COUNTS = 0 ∷ (SET1 + REGISTERS) ∷ (SET2 + REGISTERS) ∷ (CONDITIONS + FLAGS) ∷ (CONTROL + OFFSETS) ∷ []

-- a place that says nothing of a machine with so many stack entries: that of a count, and each between the last entry and the dividers
unfoldable pub is_free : (depth place : ℕ) → Bool
is_free depth n = is_among n COUNTS || (leb (ENTRIES + 4 * depth) n && ltb n DIVIDERS)

-- words say a machine; the places that are free (is_free) may hold any numbers, and nothing else may differ (Theorems: FreePlaces)
abbrev pub Says : (words : List ℕ) → Machine → Type 0
Says words m = machine_of words ≡ m

-- the machine with other entries on its stack, and all else as it was
unfoldable pub with_entries : List Entry → Machine → Machine
with_entries es m = record { set1 = m.set1; set2 = m.set2; conditions = m.conditions; control = m.control; position = m.position; stack = es; dividers = m.dividers }

-- words say all of a machine but its stack
abbrev pub SaysRest : (words : List ℕ) → Machine → Type 0
SaysRest words m = with_entries m.stack (machine_of words) ≡ m

-- to unfold `layout` is to unfold all definitions of this file
unfoldable pub layout : Unit {0}
unfolding position_of entries_of machine_of is_free with_entries
layout = tt
