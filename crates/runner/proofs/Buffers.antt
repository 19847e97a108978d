-- The buffers of the run program: an image at the front of one, and the program counter that it says. Assumes nothing.
use mathlib.Core.Path.{◌≡◌, sym, ap, ◌∙◌}
use mathlib.Core.List.{List}
use Prim.Native.Nat.{ℕ, ◌*◌}
use native.Mathlib.Omega.{arith}
use lib.Dec.{lit<}
use lib.ListN.{length, get_or, take}
use Rattle.codec.specs.Number.{number_at, numbers_of, over}
use Rattle.codec.proofs.Laws.{get_d_numbers_of, take_over}
use Rattle.machine.specs.Control.{reset}
use Rattle.machine.specs.Words.{PLACES, position_of}
use Rattle.machine.proofs.Flat.{section_at}
use Rattle.image.specs.Image.{write_image, POSITION_AT, SHORTEST, LONGEST, machine_with, machine_in}
use Rattle.runner.specs.Report.{pc_of}
use Rattle.machine.proofs.Formed.{formed_counts, reset_formed}
use Rattle.image.proofs.Image.{image_length}

-- the program counter of the machine that numbers say is one of them
pub pc_at : (numbers : List ℕ) → (machine_in numbers).position.pc ≡ get_or numbers POSITION_AT 0
unfolding machine_in machine_with position_of
pc_at numbers = section_at numbers POSITION_AT PLACES 0 (lit< tt)

-- and is read from a buffer at its place
pub pc_read : (buffer : List ℕ) → length buffer ≡ LONGEST → number_at buffer (4 * POSITION_AT) ≡ pc_of buffer
unfolding pc_of
pc_read buffer h = sym (pc_at (numbers_of buffer) ∙ get_d_numbers_of buffer POSITION_AT (omega arith))

-- the image at reset has 528 bytes: no entries of the interrupt stack
pub reset_length : length (write_image reset) ≡ SHORTEST
unfolding reset
reset_length = image_length (formed_counts reset_formed)

-- it is the front of a buffer that it was laid over
pub reset_front : (b buffer : List ℕ) → b ≡ over (write_image reset) buffer → take SHORTEST b ≡ write_image reset
reset_front b buffer e = ap (take SHORTEST) e ∙ rw (← reset_length) (take_over (write_image reset) buffer)
