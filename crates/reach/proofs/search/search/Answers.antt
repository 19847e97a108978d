-- `reach::search::search`: in each turn of the loop the search goes on as the whole does. Assumes nothing.
use Rattle.std.proofs.Common.{rules}
use lib.ListN.{length-replicate}
use Rattle.reach.proofs.Words.{inside}
use Rattle.reach.proofs.ProgramSearch.{begun, more}
use Rattle.reach.proofs.search.search.Goals as goal

pub visit-requires-clause-there : goal.visit-requires-clause-there
visit-requires-clause-there c = let h = inside _ _ _ c.requires.word in rw (c.requires.blank, length-replicate) h

pub loop-head-init : goal.loop-head-init
loop-head-init c = rw (c.visit.ensures.exact, c.requires.blank, c.new-queue.ensures) (begun _ _ _ c.requires.word)

pub loop-head-preserved : goal.loop-head-preserved
loop-head-preserved c =
    let l = c.loop-head in
    rw (c.visit_all.ensures, c.successors-words.ensures.exact, c.from.ensures, c.at.ensures)
    (more _ _ _ c.requires.word l.head l.map l.queue l.invariant (search rules))
