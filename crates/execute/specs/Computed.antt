-- To unfold `decisions` is to unfold all definitions of this crate and of `machine`; each file ends with its own.
use Rattle.machine.specs.Computed.{machines}
use Rattle.execute.specs.View.{seeing}
use Rattle.execute.specs.Execute.{executing}
use Rattle.execute.specs.Decide.{deciding}

unfoldable pub decisions : Unit {0}
unfolding machines seeing executing deciding
decisions = tt
