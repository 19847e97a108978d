-- To unfold `texts` is to unfold all definitions of this crate; each file ends with its own.
use Rattle.console.specs.Digits.{numerals}
use Rattle.console.specs.Limit.{limit_reading}
use Rattle.console.specs.Line.{line_writing}

unfoldable pub texts : Unit {0}
unfolding numerals limit_reading line_writing
texts = tt
