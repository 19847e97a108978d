-- What an image is to its machine: its length, and that reading and writing undo each other (Manual 8). Assumes nothing.
use Rattle.std.specs.Prelude.{◌≡◌, true, List, ℕ, ◌+◌, ◌*◌, ◌<◌, length, get_or}
use Rattle.machine.specs.Machine.{Machine}
use Rattle.machine.specs.Questions.{well_formed, Accepted}
use Rattle.image.specs.Image.{write_image, image_bytes, SHORTEST, LONGEST, read_image}

-- an image's length: 516 bytes, 16 for each entry, and 12 for the dividers' section
unfoldable pub ImageLength : Type 0
ImageLength = (m : Machine) → well_formed m ≡ true → length (write_image m) ≡ image_bytes (length m.stack)

-- the image of a well-formed machine is one for which 2 to 5 are all yes, and says that machine
unfoldable pub ReadBack : Type 0
ReadBack = (m : Machine) → well_formed m ≡ true → read_image (write_image m) ≡ Accepted m

-- an image, bytes, for which 2 to 5 are all yes is the one that its machine is written as
unfoldable pub WrittenBack : Type 0
WrittenBack = (image : List ℕ) (m : Machine) → ((i : ℕ) → get_or image i 0 < 256) → read_image image ≡ Accepted m → write_image m ≡ image

-- an image has 528 bytes, 16 more for each entry, and 720 at most
pub record ImageSizes : Type 0 where
  pub shortest : SHORTEST ≡ 528
  pub entry : (n : ℕ) → image_bytes n ≡ SHORTEST + 16 * n
  pub longest : LONGEST ≡ 720

-- to unfold all of these
unfoldable pub round_trip : Unit {0}
unfolding ImageLength ReadBack WrittenBack
round_trip = tt
