-- `instruction::take_exception` meets its contract: what is reported of an answer is reported of the effect that it answers. Assumes nothing.
use Rattle.std.proofs.Common.{rules}
use Rattle.machine.specs.Apply.{applying}
use Rattle.execute.proofs.Reported.{taken_reported}
use Rattle.execute.proofs.instruction.take_exception.Goals as goal

pub returns-in-Ok-clause-reported : goal.returns-in-Ok-clause-reported
unfolding applying
returns-in-Ok-clause-reported c e before cells stored h k = taken_reported c.args.answer c.args.m.now e before cells stored h k (search rules)

pub returns-in-Err-Exception-clause-reported : goal.returns-in-Err-Exception-clause-reported
unfolding applying
returns-in-Err-Exception-clause-reported c e before cells stored h k = taken_reported c.args.answer c.args.m.now e before cells stored h k (search rules)

pub returns-in-Err-Stop-clause-reported : goal.returns-in-Err-Stop-clause-reported
unfolding applying
returns-in-Err-Stop-clause-reported c e before cells stored h k = taken_reported c.args.answer c.args.m.now e before cells stored h k (search rules)
