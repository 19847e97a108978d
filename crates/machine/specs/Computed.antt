-- To unfold `machines` is to unfold all definitions of this crate and of `isa`.
use Rattle.isa.specs.Computed.{instructions}
use Rattle.machine.specs.Machine.{states}
use Rattle.machine.specs.Control.{controls}
use Rattle.machine.specs.Stack.{stacks}
use Rattle.machine.specs.Words.{layout}
use Rattle.machine.specs.Apply.{applying}
use Rattle.machine.specs.Questions.{questions}

unfoldable pub machines : Unit {0}
unfolding instructions states controls stacks layout applying questions
machines = tt
