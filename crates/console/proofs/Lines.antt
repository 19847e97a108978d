-- Laws of the line that is printed. Assumes nothing.
use Rattle.std.proofs.Common.{rules, arith, ◌≡◌, ℕ, suc, zero, ◌/◌, ◌<◌, List, [], ◌∷◌, ◌++◌, replicate}
use Rattle.std.specs.Str.{IsAscii, IsUtf8}
use Rattle.std.proofs.lemmas.Str.{IsUtf8-from_ascii, IsAscii-append}
use Rattle.codec.specs.Number.{put_at}
use Rattle.console.specs.Digits.{newline, digit_of, digits_of, hex8}

-- eight hex digits and a newline fill nine bytes
pub hex_written : (l : List ℕ) (n : ℕ) → l ≡ put_at (replicate 9 0) 0 (hex8 n ++ newline ∷ []) → l ≡ hex8 n ++ newline ∷ []
unfolding digits_of
hex_written l n e = e

-- the digits of a base up to 16 are ASCII
ascii_one : (a : ℕ) → a < 128 → IsAscii (a ∷ [])
ascii_one a h i = search rules

digits_ascii : (count n : ℕ) → IsAscii (digits_of 16 count n)
unfolding digits_of digit_of
digits_ascii zero n = λ i. search rules
digits_ascii (suc count) n = IsAscii-append (digits_of 16 count (n / 16)) _ (digits_ascii count (n / 16)) (ascii_one _ (search rules))

pub hex_text : (l : List ℕ) (n : ℕ) → l ≡ put_at (replicate 9 0) 0 (hex8 n ++ newline ∷ []) → IsUtf8 l
hex_text l n e = rw (hex_written l n e) (IsUtf8-from_ascii _ (IsAscii-append (hex8 n) (newline ∷ []) (digits_ascii 8 n) (ascii_one newline (omega arith))))
