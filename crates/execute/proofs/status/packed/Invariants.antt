-- x holds the condition registers from n on. Assumes nothing.
use Rattle.std.proofs.Common.{◌≡◌, ◌^◌, ◌<◌, drop}
use Rattle.execute.specs.Execute.{packed}
use Rattle.execute.proofs.status.packed.Given as goal

abbrev pub invariant-loop-n : goal.invariant-loop-n
invariant-loop-n l = record { so_far : l.x ≡ packed (drop l.n l.m.conditions); small : l.x < 8 ^ 8 }
