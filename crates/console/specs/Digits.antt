-- Numbers as text. A character is its ASCII code. Assumes nothing.
use Rattle.std.specs.Prelude.{List, [], ◌∷◌, ◌++◌, ℕ, zero, suc, ◌+◌, ◌/◌, ◌%◌, nat_lt, if◌then◌else◌}

abbrev pub blank : ℕ
blank = 32

abbrev pub newline : ℕ
newline = 10

-- the character of a digit: 0 to 9, then the capitals A to F
unfoldable pub digit_of : (d : ℕ) → ℕ
digit_of d = if nat_lt d 10 then 48 + d else 55 + d

-- the `count` lowest digits of a number in a base, the highest first
unfoldable pub digits_of : (base count n : ℕ) → List ℕ
digits_of base zero n = []
digits_of base (suc count) n = digits_of base count (n / base) ++ digit_of (n % base) ∷ []

-- how many decimal digits a number has, at most `more` besides the first: 1 below 10, else one more than its tenth has
unfoldable pub places_from : (more n : ℕ) → ℕ
places_from zero n = 1
places_from (suc more) n = if nat_lt n 10 then 1 else suc (places_from more (n / 10))

-- ten digits are enough for 32 bits
abbrev pub places_of : (n : ℕ) → ℕ
places_of n = places_from 9 n

-- a number of 32 bits in decimal, without leading zeros; for these it is what std prints (proofs/Digits: decimal_std)
abbrev pub decimal : (n : ℕ) → List ℕ
decimal n = digits_of 10 (places_of n) n

-- a number of 32 bits in hexadecimal, always 8 digits
abbrev pub hex8 : (n : ℕ) → List ℕ
hex8 n = digits_of 16 8 n

-- to unfold all of these
unfoldable pub numerals : Unit {0}
unfolding digit_of digits_of places_from
numerals = tt
