-- To unfold `encodings` is to unfold all definitions of this crate, and those of `isa` and `word`.
use Rattle.isa.specs.Computed.{instructions}
use Rattle.encoder.specs.Encode.{encoding}
use Rattle.encoder.specs.Fields.{fitting}

unfoldable pub encodings : Unit {0}
unfolding instructions encoding fitting
encodings = tt
