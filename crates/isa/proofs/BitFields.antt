-- What a listing shows of exbfi, whose immediate is in two pieces. Assumes nothing.
use mathlib.Core.Path.{◌≡◌, ap, ◌∙◌}
use Prim.Native.Nat.{ℕ, ◌+◌, ◌*◌, ◌<◌}
use native.Mathlib.Nat.{mul-one, add-zero}
use native.Mathlib.Omega.{arith}
use lib.IntN.{pos}
use Rattle.word.specs.Choice.{choose◌then◌else◌}
use Rattle.word.specs.Word.{bits◌to◌, field_of, mod_z, word_of}
use Rattle.word.proofs.Bounds.{field_below}
use Rattle.isa.specs.declared.width.Width.TheVariants.{Wide}
use Rattle.isa.specs.Operation.{operations, operation_of, properties}
use Rattle.isa.specs.Format.{fields_width, fields_of, layout_of}
use Rattle.isa.specs.Decode.{immediate_of, operands_of, opcode_of, assembled, decode}
use Rattle.isa.specs.Shown.{shown_value}
use Rattle.isa.specs.Theorems.{BitFieldShown}

-- its immediate is length × 32 + position
pieces : (word : ℕ) → immediate_of (layout_of Wide (properties (operation_of 63)).form).immediate word ≡ pos (field_of (bits 24 to 19) word * 32 + field_of (bits 4 to 0) word)
unfolding operation_of operations properties layout_of immediate_of fields_of fields_width choose◌then◌else◌
pieces word = simp (mul-one, add-zero)

bit_field : (word : ℕ) → opcode_of Wide word ≡ 63 → (decode Wide word).immediate ≡ pos (field_of (bits 24 to 19) word * 32 + field_of (bits 4 to 0) word)
unfolding decode assembled operands_of
bit_field word e = ap (λ (n : ℕ). immediate_of (layout_of Wide (properties (operation_of n)).form).immediate word) e ∙ pieces word

-- the two parts of such a number
pub length_position : (x y : ℕ) → x < 64 → y < 32 → (field_of (bits 10 to 5) (word_of 32 (pos (x * 32 + y))) ≡ x) × (field_of (bits 4 to 0) (word_of 32 (pos (x * 32 + y))) ≡ y)
unfolding field_of mod_z
length_position x y h k = (omega arith, omega arith)

pub bit_field_shown : BitFieldShown
unfolding shown_value
bit_field_shown word e =
    let p = length_position (field_of (bits 24 to 19) word) (field_of (bits 4 to 0) word) (field_below (bits 24 to 19) word) (field_below (bits 4 to 0) word) in
    rw (bit_field word e) (ap pos p.0, ap pos p.1)
