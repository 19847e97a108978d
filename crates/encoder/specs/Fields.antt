-- What fits, as the code asks: by operand fields; and the bits that it writes. Assumes nothing.
use Rattle.std.specs.Prelude.{Bool, true, ◌&&◌, Option, Some, None, ℕ, ◌+◌, ltb, ℤ}
use Rattle.word.specs.Word.{word_of}
use Rattle.isa.specs.declared.operation.Operation.{Operation}
use Rattle.isa.specs.declared.width.Width.{Width}
use Rattle.isa.specs.declared.width.Width.TheVariants.{Wide}
use Rattle.isa.specs.declared.operands.OperandField.{OperandField}
use Rattle.isa.specs.Format.{placed_in, conditional_field, creg_field, condition_field}
use Rattle.isa.specs.Used.{least_of}
use Rattle.isa.specs.Places.{field_at, bits_of, put_into}
use Rattle.encoder.specs.declared.Guard.{Guard}
use Rattle.encoder.specs.Encode.{Choice, fits}

-- z fits the bits of a field
abbrev pub field_fits : OperandField → (z : ℤ) → Bool
field_fits f z = fits (bits_of f) (least_of f.reading (bits_of f)) z

-- every operand fits its field
abbrev pub fields_fit : Width → Operation → Choice → Bool
fields_fit width o c =
    field_fits (field_at width o 0) c.first && (field_fits (field_at width o 1) c.second && (field_fits (field_at width o 2) c.third && field_fits (field_at width o 3) c.fourth))

-- a condition fits, where one is given
unfoldable pub guard_fits : Option Guard → Bool
guard_fits None = true
guard_fits (Some g) = ltb g.creg 8 && ltb g.condition 8

-- its bits in 32-bit words; without one there are none
unfoldable pub guard_bits : Option Guard → ℕ
guard_bits None = 0
guard_bits (Some g) = placed_in (conditional_field Wide) 1 + placed_in (creg_field Wide) g.creg + placed_in (condition_field Wide) g.condition

-- the bits of all operands in their fields
abbrev pub fields_bits : Width → Operation → Choice → ℕ
fields_bits width o c =
    put_into (field_at width o 0) (word_of 32 c.first)
    + put_into (field_at width o 1) (word_of 32 c.second)
    + put_into (field_at width o 2) (word_of 32 c.third)
    + put_into (field_at width o 3) (word_of 32 c.fourth)

-- to unfold all of these
unfoldable pub fitting : Unit {0}
unfolding guard_fits guard_bits
fitting = tt
