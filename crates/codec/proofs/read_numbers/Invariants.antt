-- `read_numbers`: the numbers before place `i` are read. Assumes nothing.
use Rattle.std.proofs.Common.{◌≡◌, ℕ, ◌*◌, ◌<◌, slice_index}
use Rattle.codec.specs.Number.{number_at}
use Rattle.codec.proofs.read_numbers.Given as goal

abbrev pub invariant-loop-i : goal.invariant-loop-i
invariant-loop-i l = (k : ℕ) → k < l.i → slice_index l.number-items k ≡ number_at l.bytes (4 * k)
