-- `write_numbers`: the numbers before place `i` are written, and the bytes behind them stay. Assumes nothing.
use Rattle.std.proofs.Common.{◌≡◌, take}
use Rattle.codec.specs.Number.{bytes_of, over}
use Rattle.codec.proofs.write_numbers.Given as goal

abbrev pub invariant-loop-i : goal.invariant-loop-i
invariant-loop-i l = l.bytes ≡ over (bytes_of (take l.i l.numbers)) l.initial.bytes
