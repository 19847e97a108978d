-- `program::check_nops`: before each pass all words before the k-th are nops, and the others decide. Assumes nothing.
use Rattle.std.proofs.Common.{◌≡◌, ◌+◌, ◌-◌}
use Rattle.machine.specs.Machine.{Memory, width_of}
use Rattle.execute.specs.View.{view_of, nops_from, nops_after}
use Rattle.execute.proofs.program.check_nops.Given as goal

abbrev pub invariant-loop-k : goal.invariant-loop-k
invariant-loop-k l =
    (memory : Memory) → let v = view_of l.program l.m memory in nops_after v l.count ≡ nops_from (width_of v.status) v.following l.k (l.count + 1 - l.k)
