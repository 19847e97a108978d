-- `execute::mov::moves` meets its contract: mulhi does what `high_half` does, whatever the sources are. Assumes nothing.
use Rattle.execute.proofs.Performed.{performing}
use Rattle.execute.proofs.mov.moves.Goals as goal

pub returns-in-31-clause-does : goal.returns-in-31-clause-does
unfolding performing
returns-in-31-clause-does c p memory = rw c.in-31.is (c.high_half.ensures.does c.args.x c.args.y p memory)
