-- `words` meets its contract: its sections are put in the places of a machine's. Assumes nothing.
use Rattle.std.proofs.Common.{rules, ◌≡◌, length}
use Rattle.machine.specs.Words.{WORDS}
use Rattle.machine.proofs.Filled.{filled}
use Rattle.machine.proofs.machine.Machine.words.Goals as goal

pub returns-clause-says : goal.returns-clause-says
returns-clause-says c =
    let i = c.self.inside in
    let long = c.self.invariant in
    let words : length c.put_stack.new.words ≡ WORDS = search rules in
    rw (c.put-6.ensures, c.put-5.ensures, c.numbers.ensures, c.put-4.ensures, c.put-3.ensures, c.put-2.ensures, c.put.ensures, ← c.self.view_is)
    (filled c.put_stack.new.words i.set1 i.set2 i.conditions i.control i.position i.stack i.dividers words long.0 long.1 long.2 long.3 long.4 c.put_stack.ensures.within c.put_stack.ensures.stack)
