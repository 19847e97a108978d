-- `reach::slots::mark_next`: what is left to mark, from the address that comes next. Assumes nothing.
use Rattle.std.proofs.Common.{◌≡◌, ◌+◌, ◌-◌, ◌*◌, ◌≤◌, length}
use Rattle.reach.specs.Successors.{words_among, next_addresses}
use Rattle.reach.specs.Search.{mark_all}
use Rattle.reach.proofs.slots.mark_next.Given as goal

abbrev pub invariant-loop-k : goal.invariant-loop-k
invariant-loop-k l =
    let size = length l.initial.map in
    record {
      near : l.b ≤ l.a + 4 * l._k;
      so_far : mark_all (words_among l.width size (next_addresses l.width l.b (l.count - l._k))) l.map ≡ mark_all (words_among l.width size (next_addresses l.width l.a l.count)) l.initial.map;
    }
