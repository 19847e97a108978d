-- `stack_in` meets its contract: so many entries as it has come to are read. Assumes nothing.
use Rattle.std.proofs.Common.{◌≡◌, length, take, drop}
use Rattle.machine.specs.Words.{SOURCES, ENTRIES, entries_of}
use Rattle.machine.proofs.words.stack_in.Given as goal

abbrev pub invariant-loop-i : goal.invariant-loop-i
invariant-loop-i l = (length l.entries ≡ SOURCES) × (take l.i l.entries ≡ entries_of l.i (drop ENTRIES l.words))
