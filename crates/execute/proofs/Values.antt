-- Values that operations move: low bits of an immediate, condition registers in a word, a stack that is empty or not. Assumes nothing.
use mathlib.Core.Path.{◌≡◌, refl}
use mathlib.Core.Bool.{true, false}
use mathlib.Core.List.{List, [], ◌∷◌}
use Prim.Native.Nat.{ℕ, zero, suc, ◌+◌, ◌*◌, ◌%◌, ◌^◌, ◌≤◌, ◌<◌}
use native.Mathlib.Omega.{arith}
use lib.IntN.{ℤ}
use lib.ListN.{length, get_or, drop, drop_of_length-le}
use lib.Seq.{drop-cons}
use Rattle.word.specs.Word.{word_of}
use Rattle.word.proofs.Integers.{word_low}
use Rattle.execute.specs.View.{nested_by}
use Rattle.execute.specs.Execute.{packed}

-- ---- the low bits of an immediate's word

pub low_bit : (z : ℤ) → word_of 32 z % 2 ≡ word_of 1 z
low_bit = word_low 31 1

pub low_two : (z : ℤ) → word_of 32 z % 4 ≡ word_of 2 z
low_two = word_low 30 2

pub low_five : (z : ℤ) → word_of 32 z % 32 ≡ word_of 5 z
low_five = word_low 27 5

pub low_half : (z : ℤ) → word_of 32 z % 65536 ≡ word_of 16 z
low_half = word_low 16 16

-- ---- condition registers: three bits each

pub packed_below : (k : ℕ) (l : List ℕ) → length l ≤ k → packed l < 8 ^ k
unfolding packed
packed_below zero [] h = omega arith
packed_below (suc k) [] h = let p = packed_below k [] (omega arith) in omega arith
packed_below zero (c ∷ cs) h = absurd (omega arith)
packed_below (suc k) (c ∷ cs) h = let p = packed_below k cs (omega arith) in omega arith

-- none from the end on
pub packed_none : (l : List ℕ) (n : ℕ) → length l ≤ n → packed (drop n l) ≡ 0
unfolding packed
packed_none l n h = rw (drop_of_length-le l {i = n} h)

-- one more, below the others
pub packed_from : (l : List ℕ) (n : ℕ) → n < length l → packed (drop n l) ≡ get_or l n 0 % 8 + 8 * packed (drop (suc n) l)
unfolding packed
packed_from l n h = rw (drop-cons l n 0 h)

-- ---- the stack

module _ {A : Type 0} where
  pub nested_none : (es : List A) → length es ≡ 0 → nested_by es ≡ false
  unfolding nested_by
  nested_none [] h = refl
  nested_none (e ∷ es) h = absurd (omega arith)

  pub nested_some : (es : List A) → (length es ≡ 0 → ⊥) → nested_by es ≡ true
  unfolding nested_by
  nested_some [] h = absurd (h refl)
  nested_some (e ∷ es) h = refl
