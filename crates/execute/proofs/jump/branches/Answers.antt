-- `jump::branches` meets its contract: taken where the condition holds. Assumes nothing.
use Rattle.std.proofs.Common.{rules, arith}
use Rattle.word.specs.Choice.{choose◌then◌else◌}
use Rattle.execute.specs.View.{view}
use Rattle.execute.specs.Execute.{branch}
use Rattle.execute.proofs.Alike.{branches_are}
use Rattle.execute.proofs.jump.branches.Goals as goal

pub returns-then-holds-clause-does : goal.returns-then-holds-clause-does
unfolding choose◌then◌else◌ view branch
returns-then-holds-clause-does c x y p memory =
    let i = c.args.i in
    rw (branches_are (view p _) i x y i.opcode (omega arith) (omega arith), ← c.condition.ensures, ← c.from_number.ensures, ← c.holds.ensures, c.if-holds.true) (search rules)
