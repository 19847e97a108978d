-- `earlier_layout` meets its contract: that an earlier image is extended is a law. Assumes nothing.
use Rattle.image.proofs.Image.{earlier_extended}
use Rattle.image.proofs.theorems.earlier_layout.Goals as goal

pub returns-clause-extended : goal.returns-clause-extended
returns-clause-extended c = earlier_extended
