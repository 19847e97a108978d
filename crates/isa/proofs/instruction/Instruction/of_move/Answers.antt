-- `isa::Instruction::of_move` meets its contract: each arm has the form of its operations. Assumes nothing.
use mathlib.Core.Path.{refl, ◌∙◌}
use native.Mathlib.Nat.{mul-one, add-zero, div-one}
use native.Mathlib.Omega.{arith}
use Rattle.isa.specs.declared.form.Form.TheVariants.{TwoRegisters, Halfword}
use Rattle.isa.specs.Computed.{instructions}
use Rattle.isa.proofs.Table.{values, narrow_row, wide_row}
use Rattle.isa.proofs.instruction.Instruction.of_move.Goals as goal

pub narrow-requires-in-29-to-30 : goal.narrow-requires-in-29-to-30
unfolding instructions values
narrow-requires-in-29-to-30 c = narrow_row TwoRegisters 29 2 refl c.args.word c.in-Narrow.is (omega (arith, c.opcode-op.ensures)) (omega (arith, c.opcode-op.ensures)) (c.registers-in-29-to-30.ensures ∙ simp (mul-one, add-zero, div-one))

pub narrow-requires-in_default : goal.narrow-requires-in_default
unfolding instructions values
narrow-requires-in_default c = narrow_row Halfword 34 2 refl c.args.word c.in-Narrow.is (omega (arith, c.opcode-op.ensures)) (omega (arith, c.opcode-op.ensures)) (c.registers-in_default.ensures)

pub wide-requires-in-29-to-30-op : goal.wide-requires-in-29-to-30-op
unfolding instructions values
wide-requires-in-29-to-30-op c = wide_row TwoRegisters 29 2 refl refl c.args.word c.in-Wide.is (omega (arith, c.opcode-op.ensures)) (omega (arith, c.opcode-op.ensures)) (c.registers-in-29-to-30-op.ensures ∙ simp (mul-one, add-zero, div-one))

pub wide-requires-in_default-op : goal.wide-requires-in_default-op
unfolding instructions values
wide-requires-in_default-op c = wide_row Halfword 34 2 refl refl c.args.word c.in-Wide.is (omega (arith, c.opcode-op.ensures)) (omega (arith, c.opcode-op.ensures)) (c.unsigned.ensures ∙ simp (mul-one, add-zero, div-one))
