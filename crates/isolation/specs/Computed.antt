-- To unfold `sessions` is to unfold all definitions of this crate and of `emulator`; each file ends with its own.
use Rattle.emulator.specs.Computed.{runs}
use Rattle.isolation.specs.Isolation.{isolating}

unfoldable pub sessions : Unit {0}
unfolding runs isolating
sessions = tt
