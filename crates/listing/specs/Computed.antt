-- To unfold `listings` is to unfold all definitions of this crate and of those that it uses; each file ends with its own.
use Rattle.isa.specs.Computed.{instructions}
use Rattle.console.specs.Digits.{numerals}
use Rattle.listing.specs.Line.{lines}
use Rattle.listing.specs.Parts.{parts}
use Rattle.listing.specs.Listing.{call_listing}

unfoldable pub listings : Unit {0}
unfolding instructions numerals lines parts call_listing
listings = tt
