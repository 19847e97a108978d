-- To unfold `images` is to unfold all definitions of this crate and of `machine`, and the bytes of numbers.
use Rattle.codec.specs.Number.{numbers_of, bytes_of}
use Rattle.machine.specs.Computed.{machines}
use Rattle.image.specs.Image.{sections}
use Rattle.image.specs.Earlier.{earlier_layout}
use Rattle.image.specs.RoundTrip.{round_trip}

unfoldable pub images : Unit {0}
unfolding numbers_of bytes_of machines sections earlier_layout round_trip
images = tt
