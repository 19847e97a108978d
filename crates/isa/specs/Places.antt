-- Where an operand that is shown stands in a word, as the code has it: two pieces at most, and how their bits are read. Assumes nothing.
use Rattle.std.specs.Prelude.{◌≡◌, Option, Some, None, List, [], ◌∷◌, ℕ, ◌+◌, ◌*◌, ◌/◌, ◌%◌, ◌^◌, ◌≤◌, ◌<◌}
use Rattle.std.specs.List.{slice_get}
use Rattle.word.specs.Word.{Field}
use Rattle.isa.specs.declared.operation.Operation.{Operation}
use Rattle.isa.specs.declared.width.Width.{Width}
use Rattle.isa.specs.declared.form.Form.{Form}
use Rattle.isa.specs.declared.form.Form.TheVariants.{NoOperands, ThreeRegisters, ReversedRegisters, TwoRegisters, Destination, Source, CompareRegisters, CompareImmediate, SignedImmediate, UnsignedImmediate, Count, BitField, Memory, Halfword, Jump, Branch, LowBits}
use Rattle.isa.specs.declared.form.Role.{Role}
use Rattle.isa.specs.declared.form.Reading.{Reading}
use Rattle.isa.specs.declared.form.Reading.TheVariants.{Natural, Signed}
use Rattle.isa.specs.declared.operands.BitRange.{BitRange}
use Rattle.isa.specs.declared.operands.OperandField.{OperandField}
use Rattle.isa.specs.declared.operands.Operand.{Operand}
use Rattle.isa.specs.Format.{layout_of, operand_fields}
use Rattle.isa.specs.Used.{reading_for, shown_fields, shown_reading}

abbrev pub no_bits : Field
no_bits = record { place = 0; width = 0 }

-- the piece with the lowest bits
unfoldable pub lower_piece : List Field → Field
lower_piece [] = no_bits
lower_piece (f ∷ []) = f
lower_piece (f ∷ g ∷ fs) = g

-- the one above it
unfoldable pub upper_piece : List Field → Field
upper_piece [] = no_bits
upper_piece (f ∷ []) = no_bits
upper_piece (f ∷ g ∷ fs) = f

-- a piece as the code has it
abbrev pub range_of : Field → BitRange
range_of f = record { place = f.place; width = f.width }

-- pieces that are read so
unfoldable pub field_with : List Field → Reading → OperandField
field_with fs reading = record { low = range_of (lower_piece fs); high = range_of (upper_piece fs); reading = reading }

-- the field of operand k of an operation, from 0 on
abbrev pub field_at : Width → Operation → (k : ℕ) → OperandField
field_at width o k = field_with (shown_fields width o k) (shown_reading width o k)

-- of all, of which there are at most four
abbrev pub fields_at : Width → Operation → List OperandField
fields_at width o = field_at width o 0 ∷ field_at width o 1 ∷ field_at width o 2 ∷ field_at width o 3 ∷ []

-- ---- the operands of a form, where it has so many

unfoldable pub operand_for : Width → Form → Option Role → Option Operand
operand_for width form None = None
operand_for width form (Some r) = Some (record { role = r; field = field_with (operand_fields width form r) (reading_for width form (Some r)) })

unfoldable pub operands_in : Width → Form → List (Option Operand)
operands_in width form =
    let rs = (layout_of width form).shown in
    operand_for width form (slice_get rs 0) ∷ operand_for width form (slice_get rs 1) ∷ operand_for width form (slice_get rs 2) ∷ operand_for width form (slice_get rs 3) ∷ []

-- what one is; nothing where it is absent
unfoldable pub role_in : Option Operand → Option Role
role_in None = None
role_in (Some o) = Some o.role

-- the field of one; of an operand that is absent, no bits
unfoldable pub field_or_none : Option Operand → OperandField
field_or_none None = field_with [] Natural
field_or_none (Some o) = o.field

-- the number of bits that a form names is one of 1 to 25
unfoldable pub Counted : Form → Type 0
Counted NoOperands = Unit {0}
Counted ThreeRegisters = Unit {0}
Counted ReversedRegisters = Unit {0}
Counted TwoRegisters = Unit {0}
Counted Destination = Unit {0}
Counted Source = Unit {0}
Counted CompareRegisters = Unit {0}
Counted CompareImmediate = Unit {0}
Counted SignedImmediate = Unit {0}
Counted UnsignedImmediate = Unit {0}
Counted (Count n) = (1 ≤ n) × (n ≤ 25)
Counted BitField = Unit {0}
Counted Memory = Unit {0}
Counted Halfword = Unit {0}
Counted Jump = Unit {0}
Counted Branch = Unit {0}
Counted (LowBits n) = (1 ≤ n) × (n ≤ 25)

-- ---- what a field says

-- how many bits it is
abbrev pub bits_of : OperandField → ℕ
bits_of f = f.low.width + f.high.width

-- the word with a number in its pieces, and zeros elsewhere
abbrev pub put_into : OperandField → (n : ℕ) → ℕ
put_into f n = n / 2 ^ f.low.width % 2 ^ f.high.width * 2 ^ f.high.place + n % 2 ^ f.low.width * 2 ^ f.low.place

-- it is short, its pieces lie inside a word and share no bit, and a signed one has a bit
pub record Placeable (f : OperandField) : Type 0 where
  pub short : bits_of f ≤ 25
  pub place : f.low.place < 32
  pub inside : f.low.place + f.low.width ≤ 32
  pub upper : f.high.place < 32
  pub upper_inside : f.high.place + f.high.width ≤ 32
  pub below : (n : ℕ) → put_into f n < 2 ^ 32
  pub signed : f.reading ≡ Signed → 0 < bits_of f

-- to unfold all of these
unfoldable pub placing : Unit {0}
unfolding lower_piece upper_piece field_with operand_for operands_in role_in field_or_none Counted
placing = tt
