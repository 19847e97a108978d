-- Images of the earlier layout, without the last section (Manual 8.3 and 9.4). Assumes nothing.
use Rattle.std.specs.Prelude.{◌≡◌, Bool, true, List, ◌∷◌, ◌++◌, ℕ, ◌<◌, get_or}
use Rattle.codec.specs.Number.{numbers_of, bytes_of}
use Rattle.machine.specs.Machine.{Machine}
use Rattle.machine.specs.Words.{TIMERS, ZEROS}
use Rattle.machine.specs.Questions.{all, number_tests, question3, well_formed, Read, Refused, Accepted}
use Rattle.image.specs.Image.{section_numbers, machine_with, fits_to_stack, question2, write_image, read_where, read_image}

-- the machine that such an image's numbers say, with dividers 0
unfoldable pub earlier_in : (numbers : List ℕ) → Machine
earlier_in ns = machine_with ZEROS ns

-- question 2 of the earlier layout: nothing behind the stack
unfoldable pub earlier2 : (image : List ℕ) → Bool
earlier2 image = fits_to_stack 0 image

-- questions 2 to 5 of the earlier layout; 3 asks nothing more of dividers that are 0 (EarlierAsked)
abbrev pub read_earlier : (image : List ℕ) → Read
read_earlier image = read_where (earlier2 image) (earlier_in (numbers_of image))

-- the image with the last section behind it: dividers 0, all else the same
abbrev pub extended : (image : List ℕ) → List ℕ
extended image = image ++ bytes_of (TIMERS ∷ ZEROS)

-- ---- what is proved

-- question 3 is the earlier layout's, the tests of all but the dividers; 4 and 5 ask nothing of dividers
abbrev pub EarlierAsked : Type 0
EarlierAsked = (ns : List ℕ) → question3 (earlier_in ns) ≡ all (number_tests (earlier_in ns))

-- the image that the earlier layout gave of a well-formed machine is read as that machine
abbrev pub EarlierReadBack : Type 0
EarlierReadBack = (m : Machine) → well_formed m ≡ true → m.dividers ≡ ZEROS → read_earlier (bytes_of (section_numbers m)) ≡ Accepted m

-- what is written of a machine that was read from an earlier image
pub record Extended (image : List ℕ) (m : Machine) : Type 0 where
  pub bytes : write_image m ≡ extended image
  pub read : read_image (extended image) ≡ Accepted m
  pub zeros : m.dividers ≡ ZEROS

abbrev pub EarlierExtended : Type 0
EarlierExtended = (image : List ℕ) (m : Machine) → ((i : ℕ) → get_or image i 0 < 256) → read_earlier image ≡ Accepted m → Extended image m

-- no image is one of both layouts: each reader refuses the other's with 2
pub record Apart (image : List ℕ) : Type 0 where
  pub earlier : earlier2 image ≡ true → read_image image ≡ Refused 2
  pub now : question2 image ≡ true → read_earlier image ≡ Refused 2

abbrev pub LayoutsApart : Type 0
LayoutsApart = (image : List ℕ) → Apart image

-- to unfold all of these
unfoldable pub earlier_layout : Unit {0}
unfolding earlier_in earlier2
earlier_layout = tt
