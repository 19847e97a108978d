-- To unfold `clocks` is to unfold all definitions of this crate and of `machine`; each file ends with its own.
use Rattle.machine.specs.Computed.{machines}
use Rattle.timer.specs.Timer.{ticking}
use Rattle.timer.specs.Clock.{clocking}

unfoldable pub clocks : Unit {0}
unfolding machines ticking clocking
clocks = tt
