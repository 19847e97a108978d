-- `listing::operands` meets its contract: each turn of the loop appends one operand more. Assumes nothing.
use mathlib.Core.Path.{◌≡◌}
use Rattle.isa.specs.Operation.{operation_of}
use Rattle.isa.specs.Shown.{shown_roles}
use Rattle.listing.specs.Line.{operand_text}
use Rattle.listing.proofs.Spaced.{first_operands}
use Rattle.listing.proofs.operands.Given as goal

abbrev pub invariant-loop-k : goal.invariant-loop-k
invariant-loop-k l = l.text.bytes ≡ first_operands (operand_text l.i) (shown_roles l.fn.width (operation_of l.i.opcode)) l.k
