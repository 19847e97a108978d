-- `listing::line_of` meets its contract: its parts, put one after the other into an empty line. Assumes nothing.
use native.Mathlib.Omega.{arith}
use Rattle.listing.specs.Line.{joined, padded, columns}
use Rattle.listing.proofs.Lines.{line_put}
use Rattle.listing.proofs.line_of.Goals as goal

pub returns : goal.returns
unfolding columns joined padded
returns c =
    line_put c.args.width c.args.address c.args.word c.put_digits.new.line c.put_digits-2.new.line c.put_condition.new.line c.put.new.text c.put-2.new.text
    c.put_digits.ensures (grind arith) (grind arith) (grind arith) (grind arith)
