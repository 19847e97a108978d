-- The step limit that limit.txt says (Manual 15). Assumes nothing.
use Rattle.std.specs.Prelude.{Bool, ◌&&◌, List, [], ◌∷◌, ℕ, ◌+◌, ◌-◌, ◌*◌, Option, Some, None, length, get_or, take, nat_le, ◌==◌, if◌then◌else◌}
use Rattle.std.specs.Option.{unwrap_or}
use Rattle.console.specs.Digits.{newline}

-- the characters 0 to 9
unfoldable pub is_digit : (character : ℕ) → Bool
is_digit b = nat_le 48 b && nat_le b 57

-- the number that decimal digits say, `value` being that of the digits before them; none where a character is no digit
unfoldable pub decimal_from : (value : ℕ) (text : List ℕ) → Option ℕ
decimal_from value [] = Some value
decimal_from value (b ∷ s) = if is_digit b then decimal_from (value * 10 + (b - 48)) s else None

-- the number that 1 to 7 digits say; any other text says none
unfoldable pub decimal_of : (text : List ℕ) → Option ℕ
decimal_of s = if nat_le 1 (length s) && nat_le (length s) 7 then decimal_from 0 s else None

-- how many characters stand before an optional newline at the end
unfoldable pub line_length : (text : List ℕ) → ℕ
line_length text =
    let last = length text - 1 in
    if get_or text last 0 == newline then last else length text

-- the step limit that a text says: 1 to 7 digits and an optional newline
unfoldable pub limit_of : (text : List ℕ) → Option ℕ
limit_of text = decimal_of (take (line_length text) text)

-- what stands for no limit where a number is wanted: question 7 refuses it, and no seven digits say it
abbrev pub bad_limit : ℕ
bad_limit = 0xFFFF_FFFF

-- the step limit as a number for the run call
abbrev pub limit_number : (text : List ℕ) → ℕ
limit_number text = unwrap_or (limit_of text) bad_limit

-- to unfold all of these
unfoldable pub limit_reading : Unit {0}
unfolding is_digit decimal_from decimal_of line_length limit_of
limit_reading = tt
