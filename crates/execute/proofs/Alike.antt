-- Clauses of operations that are alike but for a number, by one computed test. Assumes nothing.
use mathlib.Core.Path.{◌≡◌, refl}
use Prim.Native.Nat.{ℕ, ◌-◌, ◌≤◌, ◌<◌}
use Rattle.isa.specs.Operation.{operation_of}
use Rattle.isa.specs.Condition.{condition_of}
use Rattle.isa.specs.Computed.{instructions}
use Rattle.isa.specs.declared.instruction.Instruction.{Instruction}
use Rattle.isa.proofs.Table.{values, agree}
use Rattle.execute.specs.View.{View}
use Rattle.execute.specs.Execute.{branch, execute}

module _ (v : View) (i : Instruction) (x y : ℕ) where
  -- operations 40 to 47 branch on conditions 0 to 7
  pub branches_are : (op : ℕ) → 40 ≤ op → op < 48 → execute (operation_of op) v i x y ≡ branch (condition_of (op - 40)) v i
  unfolding instructions values execute
  branches_are = agree (λ n. execute (operation_of n) v i x y) (λ n. branch (condition_of (n - 40)) v i) 40 8 refl
