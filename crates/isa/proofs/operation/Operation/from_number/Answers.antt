-- `isa::Operation::from_number` meets its contract: the last arm is of 63 and above. Assumes nothing.
use mathlib.Core.Path.{sym}
use native.Mathlib.Omega.{arith}
use Rattle.isa.proofs.Table.{last_law}
use Rattle.isa.proofs.operation.Operation.from_number.Goals as goal

pub returns-in_default : goal.returns-in_default
returns-in_default c = sym (last_law c.args.number (omega arith))
