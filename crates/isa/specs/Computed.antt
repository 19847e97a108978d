-- To unfold `instructions` is to unfold all definitions of this crate and of `word`; each file ends with its own.
use Rattle.word.specs.Computed.{words}
use Rattle.isa.specs.Text.{spelling}
use Rattle.isa.specs.Operation.{table}
use Rattle.isa.specs.Condition.{conditioning}
use Rattle.isa.specs.Format.{formats}
use Rattle.isa.specs.Decode.{decoding}
use Rattle.isa.specs.Shown.{showing}
use Rattle.isa.specs.Used.{bits_used}
use Rattle.isa.specs.Places.{placing}

unfoldable pub instructions : Unit {0}
unfolding words spelling table conditioning formats decoding showing bits_used placing
instructions = tt
