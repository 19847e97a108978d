-- `put_stack` meets its contract: so many entries as it has come to are written. Assumes nothing.
use Rattle.std.proofs.Common.{◌≡◌, length, get_or, take, reverse}
use Rattle.machine.specs.Words.{DEPTH, WORDS}
use Rattle.machine.proofs.Flat.{stack_of}
use Rattle.machine.proofs.words.put_stack.Given as goal

abbrev pub invariant-loop-i : goal.invariant-loop-i
invariant-loop-i l = (length l.words ≡ WORDS) × (get_or l.words DEPTH 0 ≡ length l.entries) × (stack_of l.i l.words ≡ reverse (take l.i l.entries))
