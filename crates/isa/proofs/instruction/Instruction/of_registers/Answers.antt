-- `isa::Instruction::of_registers` meets its contract: add to sext have one form. Assumes nothing.
use mathlib.Core.Path.{refl, ◌∙◌}
use native.Mathlib.Nat.{mul-one, add-zero, div-one}
use native.Mathlib.Omega.{arith}
use Rattle.isa.specs.declared.form.Form.TheVariants.{ThreeRegisters}
use Rattle.isa.specs.Computed.{instructions}
use Rattle.isa.proofs.Table.{values, narrow_row, wide_row}
use Rattle.isa.proofs.instruction.Instruction.of_registers.Goals as goal

pub narrow-requires : goal.narrow-requires
unfolding instructions values
narrow-requires c = narrow_row ThreeRegisters 1 17 refl c.args.word c.in-Narrow.is (omega arith) (omega arith) (c.registers.ensures ∙ simp (mul-one, add-zero, div-one))

pub wide-requires : goal.wide-requires
unfolding instructions values
wide-requires c = wide_row ThreeRegisters 1 17 refl refl c.args.word c.in-Wide.is (omega arith) (omega arith) (c.registers-in-Wide.ensures ∙ simp (mul-one, add-zero, div-one))
