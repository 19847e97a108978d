-- An instruction word taken apart (Manual 2). Assumes nothing.
use Rattle.std.specs.Prelude.{Bool, ◌&&◌, List, [], ◌∷◌, ℕ, ◌+◌, ◌*◌, eqb, ℤ, pos, get_or}
use Rattle.word.specs.Choice.{choose◌then◌else◌}
use Rattle.word.specs.Word.{Field, signed_of}
use Rattle.codec.specs.Number.{number_at}
use Rattle.isa.specs.declared.width.Width.{Width}
use Rattle.isa.specs.declared.width.Width.TheVariants.{Narrow, Wide}
use Rattle.isa.specs.declared.form.Form.{Form}
use Rattle.isa.specs.Operation.{operation_of, properties}
use Rattle.isa.specs.Format.{fields_width, fields_of, operation_field, conditional_field, creg_field, condition_field, Immediate, layout_of}
use Rattle.isa.specs.declared.instruction.Operands.{Operands}
use Rattle.isa.specs.declared.instruction.Instruction.{Instruction}

-- how many bytes a word is
unfoldable pub word_bytes : Width → ℕ
word_bytes Narrow = 2
word_bytes Wide = 4

-- the word at an address of a program that has its bytes (Manual 1.1): high byte first
unfoldable pub word_at : Width → (program : List ℕ) (address : ℕ) → ℕ
word_at Narrow program a = get_or program a 0 * 256 + get_or program (a + 1) 0
word_at Wide program a = number_at program a

-- a register's number: registers n of 16-bit words mean n + 24; one that is absent reads 0
unfoldable pub register_of : Width → List Field → (word : ℕ) → ℕ
register_of Wide fs word = fields_of fs word
register_of Narrow [] word = 0
register_of Narrow (f ∷ fs) word = fields_of (f ∷ fs) word + 24

-- an immediate, its sign extended or filled with zeros
unfoldable pub immediate_of : Immediate → (word : ℕ) → ℤ
immediate_of i word =
    let n = fields_of i.fields word in
    choose i.signed then signed_of (fields_width i.fields) n else pos n

-- the operands of a word whose operation has this form
unfoldable pub operands_of : Width → Form → (word : ℕ) → Operands
operands_of width form word =
    let l = layout_of width form in
    record {
      dreg = register_of width l.dreg word;
      sreg1 = register_of width l.sreg1 word;
      sreg2 = register_of width l.sreg2 word;
      immediate = immediate_of l.immediate word;
    }

-- the number of a word's operation
unfoldable pub opcode_of : Width → (word : ℕ) → ℕ
opcode_of width word = fields_of (operation_field width) word

-- the instruction of a word, from its operation's number, whether the operation may be conditional, and its operands. Bits that it does
-- not use are ignored; bit 25 is, where the operation may not be conditional
unfoldable pub assembled : Width → (word opcode : ℕ) (conditional : Bool) → Operands → Instruction
assembled width word opcode conditional o =
    record {
      opcode = opcode;
      conditional = eqb (fields_of (conditional_field width) word) 1 && conditional;
      creg = fields_of (creg_field width) word;
      condition = fields_of (condition_field width) word;
      dreg = o.dreg;
      sreg1 = o.sreg1;
      sreg2 = o.sreg2;
      immediate = o.immediate;
    }

-- the instruction of a word
unfoldable pub decode : Width → (word : ℕ) → Instruction
decode width word =
    let opcode = opcode_of width word in
    let p = properties (operation_of opcode) in
    assembled width word opcode p.conditional (operands_of width p.form word)

-- to unfold all of these
unfoldable pub decoding : Unit {0}
unfolding word_bytes word_at register_of immediate_of operands_of opcode_of assembled decode
decoding = tt
