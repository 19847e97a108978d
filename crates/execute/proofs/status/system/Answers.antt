-- `execute::status::system` meets its contract: reti does what `interrupt_return` does, whatever the sources are; scon stores what the view shows.
-- Assumes nothing.
use Rattle.execute.specs.View.{view}
use Rattle.execute.proofs.Performed.{performing}
use Rattle.execute.proofs.status.system.Goals as goal

pub returns-in-50-clause-does : goal.returns-in-50-clause-does
unfolding performing
returns-in-50-clause-does c y p memory = rw c.in-50.is (c.interrupt_return.ensures.does c.args.x y p memory)

pub returns-in-56-clause-does : goal.returns-in-56-clause-does
unfolding performing view
returns-in-56-clause-does c y p memory = rw (c.in-56.is, ← c.packed-flags.ensures, c.set_result.ensures)
