-- `service_flags` meets its contract: it has the flags of the entries that it has come to. Assumes nothing.
use Rattle.std.proofs.Common.{◌≡◌, take, reverse}
use Rattle.machine.specs.Stack.{service_flags}
use Rattle.machine.proofs.questions.service_flags.Given as goal

abbrev pub invariant-loop-entry : goal.invariant-loop-entry
invariant-loop-entry l = l.flags ≡ service_flags (reverse (take l.entry-index l.entries))
