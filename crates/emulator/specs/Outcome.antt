-- What a call leaves that only writes an image. Assumes nothing.
use Rattle.std.specs.Prelude.{List, ℕ, length, leb}
use Rattle.word.specs.Choice.{choose◌then◌else◌}
use Rattle.codec.specs.Number.{over}
use Rattle.machine.specs.Machine.{Machine}
use Rattle.image.specs.Image.{LONGEST, write_image}

-- its answer, 0 or the number of the refusal, and the caller's buffer after it
pub record ImageOutcome : Type 0 where
  pub answer : ℕ
  pub buffer : List ℕ

abbrev pub image_outcome : (answer : ℕ) (buffer : List ℕ) → ImageOutcome
image_outcome answer buffer = record { answer = answer; buffer = buffer }

-- question 8: the buffer has at least 720 bytes. Then the image is at its front, and the bytes behind it keep their values
unfoldable pub image_call : Machine → (buffer : List ℕ) → ImageOutcome
image_call m buffer = choose leb LONGEST (length buffer) then image_outcome 0 (over (write_image m) buffer) else image_outcome 8 buffer

-- to unfold it
unfoldable pub imaging : Unit {0}
unfolding image_call
imaging = tt
