-- The call that gives the image of the machine at reset (Manual 8.3, 9.4), for a first run call. Assumes nothing.
use Rattle.std.specs.Prelude.{List, ℕ}
use Rattle.machine.specs.Control.{reset}
use Rattle.emulator.specs.Outcome.{ImageOutcome, image_call}

unfoldable pub reset_call : (buffer : List ℕ) → ImageOutcome
reset_call buffer = image_call reset buffer

-- to unfold it
unfoldable pub resetting : Unit {0}
unfolding reset_call
resetting = tt
