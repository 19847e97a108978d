-- Choices and words worked by hand: antt computes both sides. Assumes nothing.
use mathlib.Core.Path.{◌≡◌, refl}
use mathlib.Core.Bool.{true, false}
use mathlib.Core.List.{List, [], ◌∷◌, map}
use Prim.Native.Nat.{ℕ}
use lib.IntN.{ℤ, pos, negsuc}
use Rattle.isa.specs.declared.width.Width.TheVariants.{Narrow, Wide}
use Rattle.isa.specs.Used.{cleared}
use Rattle.encoder.specs.Encode.{Choice, guard_by, Encoding, Encodes, RefusedWith, encode_of}
use Rattle.encoder.specs.Computed.{encodings}

-- without a condition, whose numbers are then any
abbrev plain : (operation : ℕ) → (a b c d : ℤ) → Choice
plain n a b c d = record { operation = n; guard = guard_by false 8 9; first = a; second = b; third = c; fourth = d }

-- with a condition of a register
abbrev under : (creg condition operation : ℕ) → (a b c d : ℤ) → Choice
under creg condition n a b c d = record { operation = n; guard = guard_by true creg condition; first = a; second = b; third = c; fourth = d }

-- ---- choices and what is answered

unfoldable cases32 : List (Choice × Encoding)
cases32 =
    (plain 1 (pos 1) (pos 2) (pos 3) (pos 0), Encodes 0x0400_0443) ∷  -- add R1 R2 R3
    (under 7 1 1 (pos 31) (pos 30) (pos 29) (pos 0), Encodes 0x07C8_7FDD) ∷  -- egt C7 add R31 R30 R29
    (under 0 0 1 (pos 1) (pos 2) (pos 3) (pos 0), Encodes 0x0600_0443) ∷  -- c C0 add R1 R2 R3
    (under 8 1 1 (pos 31) (pos 30) (pos 29) (pos 0), RefusedWith 19) ∷  -- egt C8 add, no such register
    (under 7 8 1 (pos 31) (pos 30) (pos 29) (pos 0), RefusedWith 19) ∷  -- condition 8
    (plain 1 (pos 32) (pos 30) (pos 29) (pos 0), RefusedWith 19) ∷  -- add R32 R30 R29
    (plain 1 (pos 1) (pos 2) (pos 3) (pos 1), RefusedWith 19) ∷  -- a fourth operand
    (plain 18 (pos 2) (pos 1) (negsuc 0) (pos 0), Encodes 0x4807_883F) ∷  -- addi R2 R1 -1
    (plain 18 (pos 2) (pos 1) (pos 255) (pos 0), Encodes 0x4803_883F) ∷  -- addi R2 R1 255
    (plain 18 (pos 2) (pos 1) (negsuc 255) (pos 0), Encodes 0x4804_0820) ∷  -- addi R2 R1 -256
    (plain 18 (pos 2) (pos 1) (pos 256) (pos 0), RefusedWith 19) ∷  -- addi R2 R1 256
    (plain 18 (pos 2) (pos 1) (negsuc 256) (pos 0), RefusedWith 19) ∷  -- addi R2 R1 -257
    (plain 19 (pos 2) (pos 1) (pos 511) (pos 0), Encodes 0x4C07_883F) ∷  -- addiu R2 R1 511
    (plain 19 (pos 2) (pos 1) (negsuc 0) (pos 0), RefusedWith 19) ∷  -- addiu R2 R1 -1
    (plain 40 (pos 7) (negsuc 2097151) (pos 0) (pos 0), Encodes 0xA1E0_0000) ∷  -- bc C7 -2097152
    (plain 40 (pos 8) (pos 0) (pos 0) (pos 0), RefusedWith 19) ∷  -- bc C8 0
    (plain 36 (negsuc 16777215) (pos 0) (pos 0) (pos 0), Encodes 0x9100_0000) ∷  -- jmp -16777216
    (plain 36 (pos 16777216) (pos 0) (pos 0) (pos 0), RefusedWith 19) ∷  -- jmp 16777216
    (plain 32 (pos 3) (pos 1) (pos 2) (pos 0), Encodes 0x80C0_0022) ∷  -- cmp C3 R1 R2
    (under 9 1 32 (pos 3) (pos 1) (pos 2) (pos 0), RefusedWith 18) ∷  -- cmp under a condition, though C9 does not fit: 18 first
    (plain 59 (pos 4) (pos 2) (pos 1) (pos 0), Encodes 0xEC00_1022) ∷  -- conh R4 R2 R1
    (plain 63 (pos 31) (pos 31) (pos 63) (pos 31), Encodes 0xFDF8_7FFF) ∷  -- exbfi R31 R31 63 31
    (plain 63 (pos 31) (pos 31) (pos 64) (pos 31), RefusedWith 19) ∷  -- exbfi R31 R31 64 31
    (under 0 0 63 (pos 31) (pos 31) (pos 63) (pos 31), RefusedWith 18) ∷  -- exbfi under a condition
    (plain 54 (pos 1) (pos 0) (pos 0) (pos 0), Encodes 0xD800_0001) ∷  -- swm 1
    (plain 54 (pos 2) (pos 0) (pos 0) (pos 0), RefusedWith 19) ∷  -- swm 2
    (plain 0 (pos 0) (pos 0) (pos 0) (pos 0), Encodes 0x0000_0000) ∷  -- nop 0 0 0 0
    (plain 64 (pos 0) (pos 0) (pos 0) (pos 0), RefusedWith 18) ∷  -- no operation 64
    []

unfoldable cases16 : List (Choice × Encoding)
cases16 =
    (plain 3 (pos 25) (pos 26) (pos 0) (pos 0), Encodes 0x0C11) ∷  -- sub R25 R26
    (plain 3 (pos 23) (pos 26) (pos 0) (pos 0), RefusedWith 19) ∷  -- sub R23 R26
    (plain 3 (pos 32) (pos 26) (pos 0) (pos 0), RefusedWith 19) ∷  -- sub R32 R26
    (plain 27 (pos 24) (pos 31) (negsuc 7) (pos 0), Encodes 0x6E38) ∷  -- ld R24 R31 -8
    (plain 27 (pos 24) (pos 31) (pos 8) (pos 0), RefusedWith 19) ∷  -- ld R24 R31 8
    (plain 32 (pos 25) (pos 26) (pos 0) (pos 0), Encodes 0x800A) ∷  -- cmp R25 R26
    (plain 23 (pos 24) (pos 32) (pos 0) (pos 0), RefusedWith 19) ∷  -- slli R24 32
    (plain 47 (negsuc 511) (pos 0) (pos 0) (pos 0), Encodes 0xBE00) ∷  -- bnc -512
    (plain 34 (pos 24) (pos 0) (pos 0) (pos 0), RefusedWith 18) ∷  -- lli
    (plain 63 (pos 0) (pos 0) (pos 0) (pos 0), RefusedWith 18) ∷  -- exbfi
    (under 0 0 1 (pos 25) (pos 26) (pos 0) (pos 0), RefusedWith 18) ∷  -- add under a condition
    []

worked_32 : map (λ (r : Choice × Encoding). encode_of Wide r.0) cases32 ≡ map (λ (r : Choice × Encoding). r.1) cases32
unfolding encodings cases32
worked_32 = refl

worked_16 : map (λ (r : Choice × Encoding). encode_of Narrow r.0) cases16 ≡ map (λ (r : Choice × Encoding). r.1) cases16
unfolding encodings cases16
worked_16 = refl

-- ---- ignored bits

-- add, trap, jmp with bit 25 at 1; 16-bit cmp, slli
worked_cleared : (map (cleared Wide) (0x05FF_FC43 ∷ 0xDFFF_FFFF ∷ 0x9200_FFFF ∷ []) ≡ 0x0400_7C43 ∷ 0xDC00_001F ∷ 0x9000_FFFF ∷ [])
    × (map (cleared Narrow) (0x83FF ∷ 0x5FFF ∷ []) ≡ 0x803F ∷ 0x5CFF ∷ [])
unfolding encodings
worked_cleared = (refl, refl)
