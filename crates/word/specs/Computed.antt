-- To unfold `words` is to unfold all definitions of this crate; each file ends with its own.
use Rattle.word.specs.Choice.{choices}
use Rattle.word.specs.Word.{readings}
use Rattle.word.specs.Arithmetic.{arithmetic}
use Rattle.word.specs.Flags.{flag_sets}

unfoldable pub words : Unit {0}
unfolding choices readings arithmetic flag_sets
words = tt
