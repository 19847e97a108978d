-- `jump::jumps` meets its contract: the last arm is 39. Assumes nothing.
use Rattle.std.proofs.Common.{rules, ◌≡◌, arith}
use Rattle.isa.specs.Operation.{operations, operation_of}
use Rattle.execute.specs.Execute.{execute}
use Rattle.execute.proofs.jump.jumps.Goals as goal

pub returns-in_default-clause-does : goal.returns-in_default-clause-does
unfolding operations operation_of execute
returns-in_default-clause-does c =
    let last : c.args.i.opcode ≡ 39 = omega arith in
    rw last (search rules)
