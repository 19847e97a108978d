-- Where the words of a program lead: their successors and their slots (Manual 13). Assumes nothing.
use Rattle.std.specs.Prelude.{Bool, true, false, not, ◌&&◌, Option, Some, None, option_to_list, List, [], ◌∷◌, ◌++◌, ℕ, zero, suc, ◌+◌, ◌*◌, ◌%◌, leb, eqb, ℤ, pos, negsuc, ◌+ℤ◌, ◌*ℤ◌, length}
use Rattle.word.specs.Choice.{choose◌then◌else◌}
use Rattle.word.specs.Word.{word_of}
use Rattle.isa.specs.declared.width.Width.{Width}
use Rattle.isa.specs.declared.width.Width.TheVariants.{Narrow, Wide}
use Rattle.isa.specs.declared.flow.Flow.{Flow}
use Rattle.isa.specs.declared.flow.Flow.TheVariants.{Straight, ImmediateJump, ImmediateLink, RegisterJump, RegisterLink, ConditionalBranch, SystemCall, UserReturn, InterruptReturn, WidthSwitch, TrapCall}
use Rattle.isa.specs.Operation.{operation_of, properties}
use Rattle.isa.specs.Decode.{word_bytes, word_at, decode}
use Rattle.isa.specs.declared.instruction.Instruction.{Instruction}

-- ---- words

-- there is a word at an address of a program of `size` bytes: the address is aligned, and the word lies wholly in the program
unfoldable pub is_word : Width → (size address : ℕ) → Bool
is_word width size a = eqb (a % word_bytes width) 0 && leb (a + word_bytes width) size

-- those of a list of addresses at which there is a word; at one below 0 there is none
unfoldable pub words_among : Width → (size : ℕ) → List ℤ → List ℕ
words_among width size [] = []
words_among width size (pos a ∷ zs) = choose is_word width size a then a ∷ words_among width size zs else words_among width size zs
words_among width size (negsuc n ∷ zs) = words_among width size zs

-- ---- by the flow of a word's operation

-- a word leads to the next one, but not jmp and jal, not jmpr, jalr and scall where they have no condition, not retu, reti, swm and trap
unfoldable pub falls_through : Flow → (conditional : Bool) → Bool
falls_through Straight conditional = true
falls_through ImmediateJump conditional = false
falls_through ImmediateLink conditional = false
falls_through RegisterJump conditional = conditional
falls_through RegisterLink conditional = conditional
falls_through ConditionalBranch conditional = true
falls_through SystemCall conditional = conditional
falls_through UserReturn conditional = false
falls_through InterruptReturn conditional = false
falls_through WidthSwitch conditional = false
falls_through TrapCall conditional = false

-- jmp, jal and branches lead to their target; an operand in a register is not followed
unfoldable pub has_target : Flow → Bool
has_target Straight = false
has_target ImmediateJump = true
has_target ImmediateLink = true
has_target RegisterJump = false
has_target RegisterLink = false
has_target ConditionalBranch = true
has_target SystemCall = false
has_target UserReturn = false
has_target InterruptReturn = false
has_target WidthSwitch = false
has_target TrapCall = false

-- how many words on a call returns, or a swm goes on, 0 for nowhere: jal and jalr return to the word after the slot, scall to the word after its
-- nop, and a swm that keeps the width goes on three words later
unfoldable pub resume_words : Flow → (keeps_width : Bool) → ℕ
resume_words Straight keeps_width = 0
resume_words ImmediateJump keeps_width = 0
resume_words ImmediateLink keeps_width = 2
resume_words RegisterJump keeps_width = 0
resume_words RegisterLink keeps_width = 2
resume_words ConditionalBranch keeps_width = 0
resume_words SystemCall keeps_width = 2
resume_words UserReturn keeps_width = 0
resume_words InterruptReturn keeps_width = 0
resume_words WidthSwitch keeps_width = choose keeps_width then 3 else 0
resume_words TrapCall keeps_width = 0

-- that number, where it is not 0
abbrev pub words_on : ℕ → Option ℕ
words_on zero = None
words_on (suc n) = Some (suc n)

-- how many of the next words are slots: one after jmp, jal, jmpr and jalr; one after scall and retu, two after swm, three after reti, which are the
-- nops that must follow these four
unfoldable pub slot_words : Flow → (nops : ℕ) → ℕ
slot_words Straight nops = 0
slot_words ImmediateJump nops = 1
slot_words ImmediateLink nops = 1
slot_words RegisterJump nops = 1
slot_words RegisterLink nops = 1
slot_words ConditionalBranch nops = 0
slot_words SystemCall nops = nops
slot_words UserReturn nops = nops
slot_words InterruptReturn nops = nops
slot_words WidthSwitch nops = nops
slot_words TrapCall nops = 0

-- ---- by a word

-- a swm with this immediate keeps the width: its bit 0 is the width that it sets, 1 for 32-bit words
unfoldable pub keeps_width : Width → (immediate : ℤ) → Bool
keeps_width Narrow n = not (eqb (word_of 1 n) 1)
keeps_width Wide n = eqb (word_of 1 n) 1

-- an address, where there is one
unfoldable pub given : Bool → ℤ → List ℤ
given true a = a ∷ []
given false a = []

-- the next word, if the instruction at an address leads there
unfoldable pub next_of : Width → Instruction → (address : ℕ) → List ℤ
next_of width i a = given (falls_through (properties (operation_of i.opcode)).flow i.conditional) (pos (a + word_bytes width))

-- its target: the slot's address plus twice the signed immediate
unfoldable pub target_of : Width → Instruction → (address : ℕ) → List ℤ
target_of width i a = given (has_target (properties (operation_of i.opcode)).flow) (pos (a + word_bytes width) +ℤ i.immediate *ℤ pos 2)

-- the word at which a call returns, or a swm goes on
unfoldable pub resumption_of : Width → Instruction → (address : ℕ) → List ℤ
resumption_of width i a =
    let words = resume_words (properties (operation_of i.opcode)).flow (keeps_width width i.immediate) in
    given (not (eqb words 0)) (pos (a + words * word_bytes width))

-- the words to which the word at an address leads in full
unfoldable pub successors : Width → (program : List ℕ) (address : ℕ) → List ℕ
successors width program a =
    let i = decode width (word_at width program a) in
    words_among width (length program) (next_of width i a ++ target_of width i a ++ resumption_of width i a)

-- those of a list that are there
abbrev pub present : List (Option ℕ) → List ℕ
present [] = []
present (o ∷ os) = option_to_list o ++ present os

-- the next `count` addresses of words, after one
unfoldable pub next_addresses : Width → (address count : ℕ) → List ℤ
next_addresses width a zero = []
next_addresses width a (suc count) = pos (a + word_bytes width) ∷ next_addresses width (a + word_bytes width) count

-- the words to which it leads as slots
unfoldable pub slots : Width → (program : List ℕ) (address : ℕ) → List ℕ
slots width program a =
    let p = properties (operation_of (decode width (word_at width program a)).opcode) in
    words_among width (length program) (next_addresses width a (slot_words p.flow p.nops))

-- to unfold all of these
unfoldable pub succession : Unit {0}
unfolding is_word words_among falls_through has_target resume_words slot_words keeps_width given next_of target_of resumption_of successors next_addresses slots
succession = tt
