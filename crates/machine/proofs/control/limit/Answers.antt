-- `limit` meets its contract: all registers but the short ones have 32 bits. Assumes nothing.
use Rattle.std.proofs.Common.{rules}
use Rattle.machine.proofs.Widths.{wide}
use Rattle.machine.proofs.control.limit.Goals as goal

pub returns-in_default : goal.returns-in_default
returns-in_default c = wide c.args.offset (search rules)
