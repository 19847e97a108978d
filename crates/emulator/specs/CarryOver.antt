-- The call that carries over an image of the earlier layout (Manual 9.4). Assumes nothing.
use Rattle.std.specs.Prelude.{◌≡◌, Bool, true, List, [], ◌∷◌, ℕ, ◌≤◌, ◌<◌, length, get_or}
use Rattle.codec.specs.Number.{numbers_of, over}
use Rattle.machine.specs.Machine.{Machine}
use Rattle.machine.specs.Questions.{question3, question4, question5, Read, Refused, Accepted}
use Rattle.image.specs.Image.{LONGEST, write_image}
use Rattle.image.specs.Earlier.{earlier_in, earlier2, read_earlier, extended, Extended}
use Rattle.emulator.specs.Outcome.{ImageOutcome, image_outcome, image_call}
use Rattle.emulator.specs.Questions.{FirstNoAt}

-- a refusal by 2 to 5, or else question 8 and the image
unfoldable pub carried_by : Read → (buffer : List ℕ) → ImageOutcome
carried_by (Refused n) buffer = image_outcome n buffer
carried_by (Accepted m) buffer = image_call m buffer

-- an image of the earlier layout is asked 2 to 5 by that layout, then 8 is asked, and then it is carried over
unfoldable pub carry_over_call : (image buffer : List ℕ) → ImageOutcome
carry_over_call image buffer = carried_by (read_earlier image) buffer

-- ---- what is proved

-- the answers to the questions 2 to 5 of the earlier layout; 1 is not asked
abbrev pub earlier_answers : (image : List ℕ) → List Bool
earlier_answers image =
    let m = earlier_in (numbers_of image) in
    true ∷ earlier2 image ∷ question3 m ∷ question4 m ∷ question5 m ∷ []

-- the first no of 2 to 5 gives the number, 8 is asked last, a refusal changes nothing, and every other image is carried over
pub data CarriedAs (image buffer : List ℕ) : ImageOutcome → Type 0 where
  not_read : (n : ℕ) → 2 ≤ n → n ≤ 5 → FirstNoAt (earlier_answers image) n → CarriedAs image buffer (image_outcome n buffer)
  no_room : (m : Machine) → read_earlier image ≡ Accepted m → length buffer < LONGEST → CarriedAs image buffer (image_outcome 8 buffer)
  written : (m : Machine) → read_earlier image ≡ Accepted m → LONGEST ≤ length buffer → CarriedAs image buffer (image_outcome 0 (over (write_image m) buffer))

abbrev pub CarryAnswers : Type 0
CarryAnswers = (image buffer : List ℕ) → CarriedAs image buffer (carry_over_call image buffer)

-- with dividers 0, and all else the same: the bytes of the image, and the last section behind them; they say the machine that the image said
abbrev pub Carried : Type 0
Carried =
    (image buffer : List ℕ) (m : Machine) → ((i : ℕ) → get_or image i 0 < 256) → read_earlier image ≡ Accepted m → LONGEST ≤ length buffer
    → (carry_over_call image buffer ≡ image_outcome 0 (over (extended image) buffer)) × Extended image m

-- to unfold all of these
unfoldable pub carrying : Unit {0}
unfolding carried_by carry_over_call
carrying = tt
