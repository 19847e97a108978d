-- `all_held` meets its contract: the test of each number is whether the register at its place can hold it. Assumes nothing.
use Rattle.std.proofs.Common.{rules, ◌∙◌, tests}
use Rattle.std.proofs.lemmas.Iterator.{YieldsList-from_slice}
use Rattle.std.proofs.lemmas.Iterator.Consumers.{YieldsList-from_enumerate}
use Rattle.std.proofs.lemmas.Iterator.Search.{all_from_yields_List}
use Rattle.machine.proofs.Tests.{held, held_listed}
use Rattle.machine.proofs.questions.all_held.Goals as goal

pub returns : goal.returns
returns c =
    all_from_yields_List held _ _ c.all.result c.all.ensures.ran (YieldsList-from_enumerate (YieldsList-from_slice c.args.registers.now (cc)) (cc)) (λ x b q k. search (rules, tests))
    ∙ held_listed 0 c.args.registers.now
