-- `reach::search::visit_all`: what is left of the list is visited from here as the whole is from the first. Assumes nothing.
use Rattle.std.proofs.Common.{◌≡◌, ◌+◌, ◌≤◌, length, drop}
use Rattle.reach.specs.Successors.{present}
use Rattle.reach.specs.Search.{visit_all}
use Rattle.reach.proofs.search.visit_all.Given as goal

abbrev pub invariant-loop-word : goal.invariant-loop-word
invariant-loop-word l =
    let left = drop l.word-index l.word-items in
    record {
      room : length l.queue + length left ≤ 65540;
      so_far : visit_all (present left) (record { marks = l.map; found = l.queue }) ≡ visit_all (present l.word-items) (record { marks = l.initial.map; found = l.initial.queue });
    }
