-- `Operation::fields` meets its contract. Assumes nothing.
use Rattle.isa.proofs.Roles.{fields_are}
use Rattle.isa.specs.Places.{operands_in}
use Rattle.isa.proofs.operation.Operation.fields.Goals as goal

pub returns : goal.returns
unfolding operands_in
returns c = rw (c.of.ensures, c.of-2.ensures, c.of-3.ensures, c.of-4.ensures, c.operands-operands.ensures) (fields_are c.args.width c.args.self)
