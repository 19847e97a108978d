-- `limit_of` meets its contract. Assumes nothing.
use Rattle.console.proofs.Limits.{limit_read}
use Rattle.console.proofs.limit_of.Goals as goal

pub returns : goal.returns
returns c = let k = limit_read c.args.text c.strip_suffix.result c.strip_suffix.ensures.cases in cc
