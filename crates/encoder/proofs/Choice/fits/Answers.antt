-- `Choice::fits` meets its contract: the condition fits and the operands do. Assumes nothing.
use mathlib.Core.Path.{refl}
use Rattle.encoder.specs.Encode.{chosen}
use Rattle.encoder.proofs.Forms.{fit_when}
use Rattle.encoder.proofs.Choice.fits.Goals as goal

pub returns-then-condition_fits : goal.returns-then-condition_fits
returns-then-condition_fits c = rw c.if-condition_fits.true at (fit_when c.args.layout.now.width (chosen c.args.self) c.requires.0 c.requires.1 c.condition_fits.ensures c.operands_fit.ensures)

pub returns-else-condition_fits : goal.returns-else-condition_fits
returns-else-condition_fits c = rw c.if-condition_fits.false (rw c.if-condition_fits.false at (fit_when c.args.layout.now.width (chosen c.args.self) c.requires.0 c.requires.1 c.condition_fits.ensures refl))
