-- `step::interrupt::most_urgent`: the best of the sources below n, and its priority number. Assumes nothing.
use Rattle.std.proofs.Common.{◌≡◌, ◌<◌, IfSome}
use Rattle.step.specs.Search.{priority_or, most_urgent}
use Rattle.step.proofs.interrupt.most_urgent.Given as goal

abbrev pub invariant-loop-n : goal.invariant-loop-n
invariant-loop-n l =
    record {
      so_far : l.best ≡ most_urgent l.flags l.bound l.m l.n;
      nearest : l.floor ≡ priority_or l.bound l.m (most_urgent l.flags l.bound l.m l.n);
      below : IfSome l.best (λ n. n < 12);
    }
