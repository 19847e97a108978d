-- `theorems::parts_rules` meets its contract. Assumes nothing.
use Rattle.encoder.proofs.ReadBack.{parts_apart}
use Rattle.encoder.proofs.Values.{ranges_are}
use Rattle.encoder.proofs.theorems.parts_rules.Goals as goal

pub returns-clause-apart : goal.returns-clause-apart
returns-clause-apart c = parts_apart

pub returns-clause-ranges : goal.returns-clause-ranges
returns-clause-ranges c = ranges_are
