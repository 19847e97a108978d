-- One line of a listing (Manual 11). Assumes nothing.
use Rattle.std.specs.Prelude.{List, [], ◌∷◌, ◌++◌, map, ℕ, suc, ◌-◌, ◌*◌, length, replicate, ℤ, pos, negsuc, if◌then◌else◌}
use Rattle.isa.specs.Text.{bytes}
use Rattle.isa.specs.declared.operation.Operation.{Operation}
use Rattle.isa.specs.declared.width.Width.{Width}
use Rattle.isa.specs.Operation.{operation_of, properties}
use Rattle.isa.specs.Condition.{condition_of, name_of}
use Rattle.isa.specs.declared.form.Role.{Role}
use Rattle.isa.specs.declared.form.Role.TheVariants.{Dreg, Sreg1, Sreg2, Creg, Imm, Length, Position}
use Rattle.isa.specs.Decode.{word_bytes, decode}
use Rattle.isa.specs.Shown.{has_form, shown_roles, shown_value}
use Rattle.isa.specs.declared.instruction.Instruction.{Instruction}
use Rattle.console.specs.Digits.{blank, newline, digits_of, decimal, hex8}

-- ---- operands

-- an integer in decimal, a negative one with a minus; negsuc n is -(n + 1)
unfoldable pub integer_text : ℤ → List ℕ
integer_text (pos n) = decimal n
integer_text (negsuc n) = bytes "-" ++ decimal (suc n)

-- registers are named R, condition registers C; other operands are numbers alone
unfoldable pub prefix_of : Role → List ℕ
prefix_of Dreg = bytes "R"
prefix_of Sreg1 = bytes "R"
prefix_of Sreg2 = bytes "R"
prefix_of Creg = bytes "C"
prefix_of Imm = []
prefix_of Length = []
prefix_of Position = []

-- an operand: its prefix and its value
unfoldable pub operand_text : Instruction → Role → List ℕ
operand_text i r = prefix_of r ++ integer_text (shown_value i r)

-- texts one after the other, a single blank between any two
unfoldable pub joined : List (List ℕ) → List ℕ
joined [] = []
joined (t ∷ []) = t
joined (t ∷ u ∷ ts) = t ++ blank ∷ joined (u ∷ ts)

-- the operands of an instruction, in order
abbrev pub shown_texts : Width → Instruction → List (List ℕ)
shown_texts width i = map (operand_text i) (shown_roles width (operation_of i.opcode))

-- all of them as one text
unfoldable pub operands_text : Width → Instruction → List ℕ
operands_text width i = joined (shown_texts width i)

-- ---- name and condition

-- the mnemonic of an operation (COFFEE Core user manual (July 2007), section 6.2), or ? where words of the width have no such form
unfoldable pub name_text : Width → Operation → List ℕ
name_text width o = if has_form width o then (properties o).mnemonic else bytes "?"

-- the condition of an instruction that is conditional: its name and the condition register, as in: egt C7
unfoldable pub condition_text : Instruction → List ℕ
condition_text i = if i.conditional then joined (name_of (condition_of i.condition) ∷ operand_text i Creg ∷ []) else []

-- ---- the line

-- where the parts begin; the address begins in column 0
abbrev pub WORD_COLUMN : ℕ
WORD_COLUMN = 9

abbrev pub CONDITION_COLUMN : ℕ
CONDITION_COLUMN = 18

abbrev pub NAME_COLUMN : ℕ
NAME_COLUMN = 25

abbrev pub OPERANDS_COLUMN : ℕ
OPERANDS_COLUMN = 34

-- a text with blanks on its right, as many as fill its columns
unfoldable pub padded : (columns : ℕ) (text : List ℕ) → List ℕ
padded n text = text ++ replicate (n - length text) blank

-- a line of 47 characters and a newline: address and word in 8 columns each, condition in 6, name in 8, operands in 13, a blank between any two
unfoldable pub columns : (address word condition name operands : List ℕ) → List ℕ
columns a w c n o = joined (padded 8 a ∷ padded 8 w ∷ padded 6 c ∷ padded 8 n ∷ padded 13 o ∷ []) ++ newline ∷ []

-- the line of a word at an address; the word has two hexadecimal digits to a byte, so 8 or 4
unfoldable pub word_line : Width → (address word : ℕ) → List ℕ
word_line width address word =
    let i = decode width word in
    columns (hex8 address) (digits_of 16 (2 * word_bytes width) word) (condition_text i) (name_text width (operation_of i.opcode)) (operands_text width i)

-- to unfold all of these
unfoldable pub lines : Unit {0}
unfolding integer_text prefix_of operand_text joined operands_text name_text condition_text padded columns word_line
lines = tt
