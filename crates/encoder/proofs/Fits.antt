-- What fits the field of an operand. Assumes nothing.
use mathlib.Core.Path.{◌≡◌}
use Prim.Native.Nat.{ℕ, ◌<◌}
use lib.IntN.{ℤ}
use Rattle.isa.specs.declared.operation.Operation.{Operation}
use Rattle.isa.specs.declared.width.Width.{Width}
use Rattle.isa.specs.declared.width.Width.TheVariants.{Narrow}
use Rattle.isa.specs.Operation.{operation_of}
use Rattle.isa.specs.Places.{field_at, field_with}
use Rattle.isa.proofs.Places.{field_is}
use Rattle.encoder.specs.Encode.{operand_part, part_fits}
use Rattle.encoder.specs.Fields.{field_fits}
use Rattle.encoder.specs.Theorems.{NarrowBits}

-- by the numbers of the field
pub field_fits_law : (width : Width) (o : Operation) (k : ℕ) → k < 4 → (z : ℤ) → field_fits (field_at width o k) z ≡ part_fits (operand_part width o k z)
unfolding part_fits field_with
field_fits_law width o k h z = rw (field_is width o k h).bits

-- registers of 16-bit words
pub narrow_bits : NarrowBits
narrow_bits n k h l e = (field_is Narrow (operation_of n) k l).three e
