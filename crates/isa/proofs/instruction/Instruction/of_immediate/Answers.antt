-- `isa::Instruction::of_immediate` meets its contract: each arm has the form of its operations. Assumes nothing.
use mathlib.Core.Path.{refl, ◌∙◌}
use native.Mathlib.Nat.{mul-one, add-zero, div-one}
use native.Mathlib.Omega.{arith}
use Rattle.isa.specs.declared.form.Form.TheVariants.{UnsignedImmediate, Count}
use Rattle.isa.specs.Computed.{instructions}
use Rattle.isa.proofs.Table.{values, narrow_row, wide_row}
use Rattle.isa.proofs.instruction.Instruction.of_immediate.Goals as goal

pub narrow-requires-in-19-to-21 : goal.narrow-requires-in-19-to-21
unfolding instructions values
narrow-requires-in-19-to-21 c = narrow_row UnsignedImmediate 19 3 refl c.args.word c.in-Narrow.is (omega (arith, c.opcode-op.ensures)) (omega (arith, c.opcode-op.ensures)) (c.unsigned.ensures ∙ simp (mul-one, add-zero, div-one))

pub narrow-requires-in_default : goal.narrow-requires-in_default
unfolding instructions values
narrow-requires-in_default c = narrow_row (Count 5) 23 4 refl c.args.word c.in-Narrow.is (omega (arith, c.opcode-op.ensures)) (omega (arith, c.opcode-op.ensures)) (c.unsigned-in_default.ensures ∙ simp (mul-one, add-zero, div-one))

pub wide-requires-in-19-to-21-op : goal.wide-requires-in-19-to-21-op
unfolding instructions values
wide-requires-in-19-to-21-op c = wide_row UnsignedImmediate 19 3 refl refl c.args.word c.in-Wide.is (omega (arith, c.opcode-op.ensures)) (omega (arith, c.opcode-op.ensures)) (c.unsigned-in-19-to-21-op.ensures ∙ simp (mul-one, add-zero, div-one))

pub wide-requires-in_default-op : goal.wide-requires-in_default-op
unfolding instructions values
wide-requires-in_default-op c = wide_row (Count 5) 23 4 refl refl c.args.word c.in-Wide.is (omega (arith, c.opcode-op.ensures)) (omega (arith, c.opcode-op.ensures)) (c.unsigned-in_default-op.ensures ∙ simp (mul-one, add-zero, div-one))
