-- What a listing shows of an instruction: which of its operands, and their values (Manual 11). Assumes nothing.
use Rattle.std.specs.Prelude.{Bool, false, List, [], eqb, ℤ, pos}
use Rattle.word.specs.Choice.{choose◌then◌else◌}
use Rattle.word.specs.Word.{bits◌to◌, field_of, word_of}
use Rattle.isa.specs.declared.operation.Operation.{Operation}
use Rattle.isa.specs.declared.width.Width.{Width}
use Rattle.isa.specs.Operation.{unavailable, code_of, properties}
use Rattle.isa.specs.declared.form.Role.{Role}
use Rattle.isa.specs.declared.form.Role.TheVariants.{Dreg, Sreg1, Sreg2, Creg, Imm, Length, Position}
use Rattle.isa.specs.Format.{layout_of}
use Rattle.isa.specs.declared.instruction.Instruction.{Instruction}

-- an operation has no form in a width where it is 02h for the super user too, as lli, lui and exbfi are in 16-bit words (Manual 4.4)
unfoldable pub has_form : Width → Operation → Bool
has_form width o = eqb (code_of (unavailable (properties o).availability width false)) 0

-- operands stand in the order of the core's manual (section 6.2); an operation with no form in the width has none
unfoldable pub shown_roles : Width → Operation → List Role
shown_roles width o = choose has_form width o then (layout_of width (properties o).form).shown else []

-- the value of an operand, as decode finds it: an immediate by the bits used, a register of 16-bit words from 24 on; of exbfi the two parts of its
-- immediate that it takes for length and position
unfoldable pub shown_value : Instruction → Role → ℤ
shown_value i Dreg = pos i.dreg
shown_value i Sreg1 = pos i.sreg1
shown_value i Sreg2 = pos i.sreg2
shown_value i Creg = pos i.creg
shown_value i Imm = i.immediate
shown_value i Length = pos (field_of (bits 10 to 5) (word_of 32 i.immediate))
shown_value i Position = pos (field_of (bits 4 to 0) (word_of 32 i.immediate))

-- to unfold all of these
unfoldable pub showing : Unit {0}
unfolding has_form shown_roles shown_value
showing = tt
