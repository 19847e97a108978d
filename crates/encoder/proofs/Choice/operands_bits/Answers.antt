-- `Choice::operands_bits` meets its contract: each operand has its bits. Assumes nothing.
use Rattle.std.proofs.Common.{rules}
use Rattle.encoder.proofs.Choice.operands_bits.Goals as goal

pub returns : goal.returns
returns c =
    rw (c.from.ensures, c.from-2.ensures, c.from-3.ensures, c.from-4.ensures, c.operand_bits.ensures, c.operand_bits-2.ensures, c.operand_bits-3.ensures, c.operand_bits-4.ensures, c.args.layout.now.placed) (search rules)
