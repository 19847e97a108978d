-- Words of k bits, the integers they stand for in two's complement, and their fields. Assumes nothing.
use Rattle.std.specs.Prelude.{ℕ, zero, suc, ◌+◌, ◌-◌, ◌*◌, ◌/◌, ◌%◌, ◌^◌, Bool, true, false, ℤ, pos, negsuc, ◌-ℤ◌, ◌==◌, nat_lt}
use Rattle.word.specs.Choice.{choose◌then◌else◌}

-- ---- bits and fields

-- the `width` bits from bit `place` up
pub record Field : Type 0 where
  pub place : ℕ
  pub width : ℕ

infixl 90 bits◌to◌
-- the bits from `high` down to `low`
abbrev pub bits◌to◌ : (high low : ℕ) → Field
bits high to low = record { place = low; width = high + 1 - low }

unfoldable pub field_of : Field → (word : ℕ) → ℕ
field_of f word = word / 2 ^ f.place % 2 ^ f.width

-- bit n; bit 0 is the lowest
abbrev pub bit_at : (n word : ℕ) → Bool
bit_at n word = word / 2 ^ n % 2 == 1

-- 1 for yes, 0 for no
abbrev pub bit_of : Bool → ℕ
bit_of true = 1
bit_of false = 0

-- ---- signed numbers

-- a word of k bits read as signed: n below half of 2 ^ k, and n - 2 ^ k from there on
unfoldable pub signed_of : (k n : ℕ) → ℤ
signed_of k n = choose nat_lt n (2 ^ (k - 1)) then pos n else (pos n -ℤ pos (2 ^ k))

-- the quotient of z by m, rounded down; negsuc n is -(n + 1)
unfoldable pub div_z : (z : ℤ) (m : ℕ) → ℤ
div_z (pos n) m = pos (n / m)
div_z (negsuc n) m = negsuc (n / m)

-- its remainder: z modulo m, from 0 up
unfoldable pub mod_z : (z : ℤ) (m : ℕ) → ℕ
mod_z (pos n) m = n % m
mod_z (negsuc n) m = m - suc (n % m)

-- the word of k bits that holds z, modulo 2 ^ k
abbrev pub word_of : (k : ℕ) (z : ℤ) → ℕ
word_of k z = mod_z z (2 ^ k)

-- the k lowest bits of a word, their sign extended to 32 bits
unfoldable pub extend_of : (k word : ℕ) → ℕ
extend_of k word = word_of 32 (signed_of k (word % 2 ^ k))

-- z is an address of 32 bits: from 0 to FFFFFFFFh
unfoldable pub is_address : ℤ → Bool
is_address (pos n) = nat_lt n (2 ^ 32)
is_address (negsuc n) = false

-- ---- bit by bit

-- the word of k bits whose bit at each place is f of the two bits there
unfoldable pub bitwise_of : (f : ℕ → ℕ → ℕ) (k a b : ℕ) → ℕ
bitwise_of f zero a b = 0
bitwise_of f (suc k) a b = bitwise_of f k (a / 2) (b / 2) * 2 + f (a % 2) (b % 2)

-- to unfold all of these
unfoldable pub readings : Unit {0}
unfolding field_of signed_of div_z mod_z extend_of is_address bitwise_of
readings = tt
