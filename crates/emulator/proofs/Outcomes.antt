-- A call that only writes an image: by the room that its buffer has. Assumes nothing.
use mathlib.Core.Path.{◌≡◌}
use mathlib.Core.List.{List}
use Prim.Native.Nat.{ℕ, ◌≤◌, ◌<◌}
use lib.ListN.{length}
use borrow.Author.Tests.{le-leb, lt-leb}
use Rattle.word.specs.Choice.{choose◌then◌else◌}
use Rattle.codec.specs.Number.{over}
use Rattle.machine.specs.Machine.{Machine}
use Rattle.image.specs.Image.{LONGEST, write_image}
use Rattle.emulator.specs.Outcome.{image_outcome, image_call}

module _ (m : Machine) (buffer : List ℕ) where
  pub room_none : length buffer < LONGEST → image_outcome 8 buffer ≡ image_call m buffer
  unfolding image_call choose◌then◌else◌
  room_none h = rw (lt-leb LONGEST (length buffer) h)

  pub room_there : LONGEST ≤ length buffer → image_outcome 0 (over (write_image m) buffer) ≡ image_call m buffer
  unfolding image_call choose◌then◌else◌
  room_there h = rw (le-leb LONGEST (length buffer) h)
