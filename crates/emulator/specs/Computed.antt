-- To unfold `runs` is to unfold all definitions of this crate, of `image` and of `step`; each file ends with its own.
use Rattle.image.specs.Computed.{images}
use Rattle.step.specs.Computed.{steps}
use Rattle.emulator.specs.Run.{running}
use Rattle.emulator.specs.Outcome.{imaging}
use Rattle.emulator.specs.Reset.{resetting}
use Rattle.emulator.specs.CarryOver.{carrying}
use Rattle.emulator.specs.Questions.{asking}
use Rattle.emulator.specs.Closure.{closing}

unfoldable pub runs : Unit {0}
unfolding images steps running imaging resetting carrying asking closing
runs = tt
