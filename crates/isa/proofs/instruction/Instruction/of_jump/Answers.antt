-- `isa::Instruction::of_jump` meets its contract: each arm has the form of its operations. Assumes nothing.
use mathlib.Core.Path.{refl, ◌∙◌}
use native.Mathlib.Nat.{mul-one, add-zero, div-one}
use native.Mathlib.Omega.{arith}
use Rattle.isa.specs.declared.form.Form.TheVariants.{Jump, Source, Branch}
use Rattle.isa.specs.Computed.{instructions}
use Rattle.isa.proofs.Table.{values, narrow_row, wide_row}
use Rattle.isa.proofs.instruction.Instruction.of_jump.Goals as goal
use Rattle.isa.proofs.instruction.Instruction.of_jump.Goals.{in_default-via-then-op-lt36, in_default-via-else-op-lt36+else-op-lt38+else-op-lt40, in_default-op-via-then-op-lt36-2, in_default-op-via-else-op-lt36-2+else-op-lt38-2+else-op-lt40-2}

pub narrow-requires : goal.narrow-requires
unfolding instructions values
narrow-requires c = narrow_row Jump 36 2 refl c.args.word c.in-Narrow.is (omega (arith, c.opcode-op.ensures)) (omega (arith, c.opcode-op.ensures)) (c.signed.ensures ∙ simp (mul-one, add-zero, div-one))

pub narrow-requires-in-38-to-39 : goal.narrow-requires-in-38-to-39
unfolding instructions values
narrow-requires-in-38-to-39 c = narrow_row Source 38 2 refl c.args.word c.in-Narrow.is (omega (arith, c.opcode-op.ensures)) (omega (arith, c.opcode-op.ensures)) (c.registers.ensures ∙ simp (mul-one, add-zero, div-one))

pub narrow-requires-in_default : goal.narrow-requires-in_default
unfolding instructions values
narrow-requires-in_default c = narrow_row Branch 40 8 refl c.args.word c.in-Narrow.is (elim c.in_default.branch [ in_default-via-then-op-lt36 w ↦ omega (arith, c.opcode-op.ensures) | in_default-via-else-op-lt36+else-op-lt38+else-op-lt40 w ↦ omega (arith, c.opcode-op.ensures) ]) (omega (arith, c.opcode-op.ensures)) (c.signed-in_default.ensures ∙ simp (mul-one, add-zero, div-one))

pub wide-requires : goal.wide-requires
unfolding instructions values
wide-requires c = wide_row Jump 36 2 refl refl c.args.word c.in-Wide.is (omega (arith, c.opcode-op.ensures)) (omega (arith, c.opcode-op.ensures)) (c.signed-in-36-to-37-op.ensures ∙ simp (mul-one, add-zero, div-one))

pub wide-requires-in-38-to-39-op : goal.wide-requires-in-38-to-39-op
unfolding instructions values
wide-requires-in-38-to-39-op c = wide_row Source 38 2 refl refl c.args.word c.in-Wide.is (omega (arith, c.opcode-op.ensures)) (omega (arith, c.opcode-op.ensures)) (c.registers-in-38-to-39-op.ensures ∙ simp (mul-one, add-zero, div-one))

pub wide-requires-in_default-op : goal.wide-requires-in_default-op
unfolding instructions values
wide-requires-in_default-op c = wide_row Branch 40 8 refl refl c.args.word c.in-Wide.is (elim c.in_default-op.branch [ in_default-op-via-then-op-lt36-2 w ↦ omega (arith, c.opcode-op.ensures) | in_default-op-via-else-op-lt36-2+else-op-lt38-2+else-op-lt40-2 w ↦ omega (arith, c.opcode-op.ensures) ]) (omega (arith, c.opcode-op.ensures)) (c.signed-in_default-op.ensures ∙ simp (mul-one, add-zero, div-one))
