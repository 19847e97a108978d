-- `all_below` meets its contract: the test of each number is whether it is below the bound, and all numbers are asked, be it by a slice. Assumes nothing.
use Rattle.std.proofs.Common.{rules, ◌∙◌, ap, refl, ltb, tests, take_all}
use Rattle.std.proofs.lemmas.Iterator.{YieldsList-from_slice}
use Rattle.std.proofs.lemmas.Iterator.Search.{all_from_yields_List}
use Rattle.machine.specs.Questions.{all_below}
use Rattle.machine.proofs.Tests.{below_listed}
use Rattle.machine.proofs.questions.all_below.Goals as goal

pub returns : goal.returns
returns c =
    all_from_yields_List (λ x. ltb x c.args.top) _ _ c.all.result c.all.ensures.ran (YieldsList-from_slice _ refl) (λ x b q k. search (rules, tests))
    ∙ below_listed c.args.top _
    ∙ ap (all_below c.args.top) (search (rules, take_all))
