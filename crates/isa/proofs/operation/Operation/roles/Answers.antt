-- `Operation::roles` meets its contract. Assumes nothing.
use Rattle.isa.proofs.Roles.{roles_are}
use Rattle.isa.specs.Places.{operands_in}
use Rattle.isa.proofs.operation.Operation.roles.Goals as goal

pub returns : goal.returns
unfolding operands_in
returns c = rw (c.role_of.ensures, c.role_of-2.ensures, c.role_of-3.ensures, c.role_of-4.ensures, c.operands-operands.ensures) (roles_are c.args.width c.args.self)
