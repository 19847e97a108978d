-- The machine image: numbers in sections, each after its count, as bytes (Manual 8). Assumes nothing.
use Rattle.std.specs.Prelude.{◌≡◌, Bool, true, ◌&&◌, List, [], ◌∷◌, ◌++◌, reverse, ℕ, zero, suc, ◌+◌, ◌*◌, ◌≤◌, length, get_or, drop, leb, eqb}
use Rattle.word.specs.Choice.{choose◌then◌else◌}
use Rattle.codec.specs.Number.{numbers_of, bytes_of}
use Rattle.machine.specs.Machine.{Machine}
use Rattle.machine.specs.Words.{REGISTERS, FLAGS, OFFSETS, PLACES, SOURCES, TIMERS, section, position_of, entries_of}
use Rattle.machine.specs.Questions.{all, Read, Refused, ask_machine}
use Rattle.machine.specs.declared.position.Position.{Position}
use Rattle.machine.specs.declared.stack.Entry.{Entry}

-- ---- writing

unfoldable pub position_numbers : Position → List ℕ
position_numbers q = q.pc ∷ q.slot ∷ q.target ∷ q.held ∷ q.high ∷ q.low ∷ []

unfoldable pub entry_numbers : List Entry → List ℕ
entry_numbers [] = []
entry_numbers (e ∷ es) = e.source ∷ e.address ∷ e.psr ∷ e.c0 ∷ entry_numbers es

-- sections in this order, each after its count, up to the stack, whose top is last
unfoldable pub section_numbers : Machine → List ℕ
section_numbers m =
    REGISTERS ∷ m.set1 ++ (
    REGISTERS ∷ m.set2 ++ (
    FLAGS ∷ m.conditions ++ (
    OFFSETS ∷ m.control ++ (
    PLACES ∷ position_numbers m.position ++ (
    length m.stack ∷ entry_numbers (reverse m.stack))))))

-- the last section: the two dividers, after their count
unfoldable pub image_numbers : Machine → List ℕ
image_numbers m = section_numbers m ++ (TIMERS ∷ m.dividers)

unfoldable pub write_image : Machine → List ℕ
write_image m = bytes_of (image_numbers m)

-- ---- where its sections lie

-- where the sections' numbers begin in an image, each just after its count
abbrev pub SET1_AT : ℕ
SET1_AT = 1

abbrev pub SET2_AT : ℕ
SET2_AT = SET1_AT + REGISTERS + 1

abbrev pub CONDITIONS_AT : ℕ
CONDITIONS_AT = SET2_AT + REGISTERS + 1

abbrev pub CONTROL_AT : ℕ
CONTROL_AT = CONDITIONS_AT + FLAGS + 1

abbrev pub POSITION_AT : ℕ
POSITION_AT = CONTROL_AT + OFFSETS + 1

abbrev pub STACK_AT : ℕ
STACK_AT = POSITION_AT + PLACES + 1

-- the count of the section that begins at a place
abbrev pub count_of : (start : ℕ) (numbers : List ℕ) → ℕ
count_of (suc n) ns = get_or ns n 0
count_of zero ns = 0

-- where the dividers begin: behind the stack's entries, whose number varies
abbrev pub dividers_at : (numbers : List ℕ) → ℕ
dividers_at ns = suc (STACK_AT + 4 * count_of STACK_AT ns)

-- the machine that the sections up to the stack say, with these dividers
unfoldable pub machine_with : (dividers numbers : List ℕ) → Machine
machine_with ds ns =
    record {
      set1 = section SET1_AT REGISTERS ns;
      set2 = section SET2_AT REGISTERS ns;
      conditions = section CONDITIONS_AT FLAGS ns;
      control = section CONTROL_AT OFFSETS ns;
      position = position_of (section POSITION_AT PLACES ns);
      stack = reverse (entries_of (count_of STACK_AT ns) (drop STACK_AT ns));
      dividers = ds;
    }

-- the machine that an image's numbers say, in the order of `image_numbers`; a machine's words have an order of their own (machine/Words: `machine_of`)
unfoldable pub machine_in : (numbers : List ℕ) → Machine
machine_in ns = machine_with (section (dividers_at ns) TIMERS ns) ns

-- bytes up to the stack's last entry: 516, and 16 for each entry
abbrev pub bytes_to_stack : (entries : ℕ) → ℕ
bytes_to_stack n = 4 * STACK_AT + 16 * n

-- bytes of the last section
abbrev pub LAST : ℕ
LAST = 4 * (1 + TIMERS)

-- those of an image, of one with no entries, and of the longest, 720
abbrev pub image_bytes : (entries : ℕ) → ℕ
image_bytes n = bytes_to_stack n + LAST

abbrev pub SHORTEST : ℕ
SHORTEST = image_bytes 0

abbrev pub LONGEST : ℕ
LONGEST = image_bytes SOURCES

-- ---- 2: exactly these sections and counts

-- the sections up to the stack, and so many bytes behind them
unfoldable pub section_tests : (behind bytes : ℕ) (numbers : List ℕ) → List Bool
section_tests behind bytes ns =
    eqb bytes (bytes_to_stack (count_of STACK_AT ns) + behind) ∷
    leb (count_of STACK_AT ns) SOURCES ∷
    eqb (count_of SET1_AT ns) REGISTERS ∷
    eqb (count_of SET2_AT ns) REGISTERS ∷
    eqb (count_of CONDITIONS_AT ns) FLAGS ∷
    eqb (count_of CONTROL_AT ns) OFFSETS ∷
    eqb (count_of POSITION_AT ns) PLACES ∷
    []

abbrev pub fits_to_stack : (behind : ℕ) (image : List ℕ) → Bool
fits_to_stack behind image = all (section_tests behind (length image) (numbers_of image))

-- the sections up to the stack are there, and at most the last one behind them
pub record ToStack (image : List ℕ) : Type 0 where
  pub behind : ℕ
  pub most : behind ≤ LAST
  pub fits : fits_to_stack behind image ≡ true

-- question 2, which asks for the present layout
unfoldable pub question2 : (image : List ℕ) → Bool
question2 image = let ns = numbers_of image in fits_to_stack LAST image && eqb (count_of (dividers_at ns) ns) TIMERS

-- ---- questions 2 to 5 in order: the number of the first no, or the machine

-- by the answer to question 2, and the machine that the numbers say
unfoldable pub read_where : (sections : Bool) → Machine → Read
read_where fits m = choose fits then ask_machine m else Refused 2

abbrev pub read_image : (image : List ℕ) → Read
read_image image = read_where (question2 image) (machine_in (numbers_of image))

-- to unfold `sections` is to unfold all definitions of this file
unfoldable pub sections : Unit {0}
unfolding position_numbers entry_numbers section_numbers image_numbers write_image machine_with machine_in section_tests question2 read_where
sections = tt
