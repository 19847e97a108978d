-- `isa::Instruction::of_system` meets its contract: each arm has the form of its operations. Assumes nothing.
use mathlib.Core.Path.{refl, ◌∙◌}
use native.Mathlib.Nat.{mul-one, add-zero, div-one}
use native.Mathlib.Omega.{arith}
use Rattle.isa.specs.declared.form.Form.TheVariants.{NoOperands, Source}
use Rattle.isa.specs.Computed.{instructions}
use Rattle.isa.proofs.Table.{values, narrow_row, wide_row}
use Rattle.isa.proofs.instruction.Instruction.of_system.Goals as goal
use Rattle.isa.proofs.instruction.Instruction.of_system.Goals.{in_default-via-then-op-lt48, in_default-via-else-op-lt48+else-op-lt51+else-op-lt54, in_default-op-via-then-op-lt48-2, in_default-op-via-else-op-lt48-2+else-op-lt51-2+else-op-lt54-2}

pub narrow-requires-in-48-to-50 : goal.narrow-requires-in-48-to-50
unfolding instructions values
narrow-requires-in-48-to-50 c = narrow_row NoOperands 48 3 refl c.args.word c.in-Narrow.is (omega (arith, c.opcode-op.ensures)) (omega (arith, c.opcode-op.ensures)) (c.registers-in-48-to-50.ensures)

pub narrow-requires-in-52-to-53 : goal.narrow-requires-in-52-to-53
unfolding instructions values
narrow-requires-in-52-to-53 c = narrow_row NoOperands 52 2 refl c.args.word c.in-Narrow.is (omega (arith, c.opcode-op.ensures)) (omega (arith, c.opcode-op.ensures)) (c.registers-in-52-to-53.ensures)

pub narrow-requires-in_default : goal.narrow-requires-in_default
unfolding instructions values
narrow-requires-in_default c = narrow_row Source 57 1 refl c.args.word c.in-Narrow.is (elim c.in_default.branch [ in_default-via-then-op-lt48 w ↦ omega (arith, c.opcode-op.ensures) | in_default-via-else-op-lt48+else-op-lt51+else-op-lt54 w ↦ omega (arith, c.opcode-op.ensures) ]) (omega (arith, c.opcode-op.ensures)) (c.registers-in_default.ensures ∙ simp (mul-one, add-zero, div-one))

pub wide-requires-in-49-to-50 : goal.wide-requires-in-49-to-50
unfolding instructions values
wide-requires-in-49-to-50 c = wide_row NoOperands 49 2 refl refl c.args.word c.in-Wide.is (omega (arith, c.opcode-op.ensures)) (omega (arith, c.opcode-op.ensures)) (c.registers-in-49-to-50.ensures)

pub wide-requires-in-52-to-53-op : goal.wide-requires-in-52-to-53-op
unfolding instructions values
wide-requires-in-52-to-53-op c = wide_row NoOperands 52 2 refl refl c.args.word c.in-Wide.is (omega (arith, c.opcode-op.ensures)) (omega (arith, c.opcode-op.ensures)) (c.registers-in-52-to-53-op.ensures)

pub wide-requires-in_default-op : goal.wide-requires-in_default-op
unfolding instructions values
wide-requires-in_default-op c = wide_row Source 57 1 refl refl c.args.word c.in-Wide.is (elim c.in_default-op.branch [ in_default-op-via-then-op-lt48-2 w ↦ omega (arith, c.opcode-op.ensures) | in_default-op-via-else-op-lt48-2+else-op-lt51-2+else-op-lt54-2 w ↦ omega (arith, c.opcode-op.ensures) ]) (omega (arith, c.opcode-op.ensures)) (c.registers-in_default-op.ensures ∙ simp (mul-one, add-zero, div-one))
