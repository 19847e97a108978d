-- The condition registers, all taken from a word. Assumes nothing.
use Rattle.std.proofs.Common.{◌≡◌, refl, ℕ, ◌/◌, ◌%◌, [], ◌∷◌}
use native.Mathlib.Nat.{div-div-eq-div-mul}
use Rattle.machine.specs.Apply.{unpacked}

-- the eight registers at once
pub divided : (x : ℕ) → x % 8 ∷ x / 0x8 % 8 ∷ x / 0x40 % 8 ∷ x / 0x200 % 8 ∷ x / 0x1000 % 8 ∷ x / 0x8000 % 8 ∷ x / 0x4_0000 % 8 ∷ x / 0x20_0000 % 8 ∷ [] ≡ unpacked 8 x
unfolding unpacked
divided x = simp div-div-eq-div-mul refl
