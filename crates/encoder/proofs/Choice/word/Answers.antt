-- `Choice::word` meets its contract: the fields used share no bit, so their sum fits a word. Assumes nothing.
use Rattle.encoder.specs.Encode.{chosen}
use Rattle.encoder.proofs.Forms.{sum_when}
use Rattle.encoder.proofs.Choice.word.Goals as goal

pub returns : goal.returns
returns c =
    rw (c.from-operation_bits.ensures, c.from-condition_bits.ensures, c.operation_bits.ensures, c.condition_bits.ensures, c.operands_bits.ensures)
    (sum_when c.args.layout.now.width (chosen c.args.self) c.requires.0 c.requires.1)
