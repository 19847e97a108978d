-- To unfold `steps` is to unfold all definitions of this crate and of `execute`, and the bytes of numbers; each file ends with its own.
use Rattle.codec.specs.Number.{bytes_of}
use Rattle.timer.specs.Computed.{clocks}
use Rattle.execute.specs.Computed.{decisions}
use Rattle.step.specs.Interrupt.{interrupting}
use Rattle.step.specs.Step.{stepping}
use Rattle.step.specs.Search.{searching}

unfoldable pub steps : Unit {0}
unfolding bytes_of clocks decisions interrupting stepping searching
steps = tt
