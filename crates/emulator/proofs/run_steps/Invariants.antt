-- What is left of the limit goes on from the state as the whole limit does from the first. Assumes nothing.
use mathlib.Core.Path.{◌≡◌}
use mathlib.Core.Bool.{true}
use Prim.Native.Nat.{◌-◌}
use Rattle.machine.specs.Machine.{memory_of, state_of}
use Rattle.machine.specs.Questions.{well_formed}
use Rattle.emulator.specs.Run.{result_from}
use Rattle.emulator.proofs.run_steps.Given as goal

abbrev pub invariant-loop-done : goal.invariant-loop-done
invariant-loop-done l =
    (well_formed l.m ≡ true)
    × (result_from l.program l.requests (l.limit - l.done) l.done (state_of l.m (memory_of l.cells)) ≡ result_from l.program l.requests l.limit 0 (state_of l.initial.m (memory_of l.initial.cells)))
