-- 32-bit numbers as bytes, high byte first, as program memory and images hold them (Manual 1, Manual 8). Assumes nothing.
use Rattle.std.specs.Prelude.{List, [], ◌∷◌, ◌++◌, ℕ, ◌+◌, ◌*◌, ◌/◌, ◌%◌, ◌^◌, length, get_or, take, drop}

-- ---- one number

-- the number that four bytes stand for
abbrev pub number_of : (a b c d : ℕ) → ℕ
number_of a b c d = ((a * 256 + b) * 256 + c) * 256 + d

-- the number in the four bytes from a place on
abbrev pub number_at : (bytes : List ℕ) (at : ℕ) → ℕ
number_at s at = number_of (get_or s at 0) (get_or s (at + 1) 0) (get_or s (at + 2) 0) (get_or s (at + 3) 0)

-- the four bytes of a number
abbrev pub bytes_of_number : ℕ → List ℕ
bytes_of_number n = n / 2 ^ 24 % 256 ∷ n / 2 ^ 16 % 256 ∷ n / 2 ^ 8 % 256 ∷ n % 256 ∷ []

-- ---- many numbers

-- the numbers of a list of bytes, four bytes each; bytes that do not make four are left out
unfoldable pub numbers_of : (bytes : List ℕ) → List ℕ
numbers_of [] = []
numbers_of (a ∷ []) = []
numbers_of (a ∷ b ∷ []) = []
numbers_of (a ∷ b ∷ c ∷ []) = []
numbers_of (a ∷ b ∷ c ∷ d ∷ s) = number_of a b c d ∷ numbers_of s

-- the bytes of a list of numbers
unfoldable pub bytes_of : (numbers : List ℕ) → List ℕ
bytes_of [] = []
bytes_of (n ∷ ns) = bytes_of_number n ++ bytes_of ns

-- ---- lent memory

-- a list with others in place of its elements from a place on
abbrev pub put_at : (s : List ℕ) (at : ℕ) (t : List ℕ) → List ℕ
put_at s at t = take at s ++ t ++ drop (at + length t) s

-- a list laid over the front of another, whose further elements stay
abbrev pub over : (front s : List ℕ) → List ℕ
over front s = front ++ drop (length front) s
