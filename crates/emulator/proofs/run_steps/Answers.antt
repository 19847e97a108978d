-- After a step the loop goes on as the definition does, and a stop ends it as there. Assumes nothing.
use Rattle.std.proofs.Common.{rules}
use Rattle.emulator.proofs.Running.{step_kept, step_more, step_stop}
use Rattle.emulator.proofs.run_steps.Goals as goal

pub returns-in-Err : goal.returns-in-Err
returns-in-Err c = step_stop _ _ _ _ _ _ _ _ _ _ _ _ c.in-Err.is c.step.ensures c.loop-done.invariant.1 (search rules) c.loop-done-test.true

pub loop-done-preserved : goal.loop-done-preserved
loop-done-preserved c = (
  step_kept _ _ _ _ _ _ _ c.step.ensures c.loop-done.invariant.0,
  step_more _ _ _ _ _ _ _ _ _ _ _ _ c.in_default.is c.step.ensures c.loop-done.invariant.1 (search rules) c.loop-done-test.true,
)
