-- `stack_in` meets its contract: one entry more is read. Assumes nothing.
use Rattle.std.proofs.Common.{rules, arith}
use Rattle.machine.proofs.Filled.{read_more}
use Rattle.machine.proofs.words.stack_in.Goals as goal

pub loop-i-preserved : goal.loop-i-preserved
loop-i-preserved c =
    (search rules, read_more c.loop-i.entries c.args.words.now c.loop-i.i (omega (arith, c.loop-i.invariant.0, c.loop-i-test.true)) c.loop-i.invariant.1)
