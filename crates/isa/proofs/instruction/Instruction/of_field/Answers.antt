-- `isa::Instruction::of_field` meets its contract: the last arm is of exbfi. Assumes nothing.
use mathlib.Core.Path.{refl, ◌∙◌}
use native.Mathlib.Nat.{mul-one, add-zero, div-one}
use native.Mathlib.Omega.{arith}
use Rattle.isa.specs.declared.form.Form.TheVariants.{BitField}
use Rattle.isa.specs.Computed.{instructions}
use Rattle.isa.proofs.Table.{values, narrow_row, wide_row}
use Rattle.isa.proofs.instruction.Instruction.of_field.Goals as goal

pub narrow-requires-in_default : goal.narrow-requires-in_default
unfolding instructions values
narrow-requires-in_default c = narrow_row BitField 63 1 refl c.args.word c.in-Narrow.is (omega (arith, c.opcode-op.ensures)) (omega (arith, c.opcode-op.ensures)) (c.registers-in_default.ensures)

pub wide-requires-in_default-op : goal.wide-requires-in_default-op
unfolding instructions values
wide-requires-in_default-op c = wide_row BitField 63 1 refl refl c.args.word c.in-Wide.is (omega (arith, c.opcode-op.ensures)) (omega (arith, c.opcode-op.ensures)) (c.unsigned-in_default-op.ensures ∙ simp (mul-one, add-zero, div-one))
