-- `program::check_nop` meets its contract: by what the word is. Assumes nothing.
use Rattle.std.proofs.Common.{rules}
use Rattle.word.specs.Choice.{choose◌then◌else◌}
use Rattle.machine.specs.Machine.{width_of}
use Rattle.execute.specs.View.{found_then, view, nops_from}
use Rattle.execute.proofs.Attempts.{failed_then}
use Rattle.execute.proofs.program.check_nop.Goals as goal

pub returns-in_err-word : goal.returns-in_err-word
unfolding nops_from
returns-in_err-word c memory = rw (← (c.following.ensures memory), c.in_err-word.was) (search (rules, failed_then))

pub returns-then-opcode-eq0 : goal.returns-then-opcode-eq0
unfolding nops_from found_then choose◌then◌else◌ width_of view
returns-then-opcode-eq0 c memory = rw (← (c.following.ensures memory), c.in_ok-word.was) (search rules)

pub returns-else-opcode-eq0 : goal.returns-else-opcode-eq0
unfolding nops_from found_then choose◌then◌else◌ width_of view
returns-else-opcode-eq0 c memory = rw (← (c.following.ensures memory), c.in_ok-word.was) (search rules)
