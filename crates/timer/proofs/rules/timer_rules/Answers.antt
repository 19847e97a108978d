-- `timer_rules` meets its contract: when a timer first ticks is a law. Assumes nothing.
use Rattle.timer.proofs.Theorems.{first_tick}
use Rattle.timer.proofs.rules.timer_rules.Goals as goal

pub returns-clause-first : goal.returns-clause-first
returns-clause-first c = first_tick
