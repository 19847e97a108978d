-- The line that the run program prints (Manual 15). Assumes nothing.
use Rattle.std.specs.Prelude.{List, [], ◌∷◌, ◌++◌, ℕ}
use Rattle.console.specs.Digits.{blank, newline, decimal, hex8}

-- a call that ran: steps, ending and PC, the last in 8 hex digits, with single blanks between and a newline after
unfoldable pub ran_text : (steps ending pc : ℕ) → List ℕ
ran_text steps ending pc = decimal steps ++ blank ∷ decimal ending ++ blank ∷ hex8 pc ++ newline ∷ []

-- a refusal: its number alone and a newline
unfoldable pub refusal_text : (number : ℕ) → List ℕ
refusal_text number = decimal number ++ newline ∷ []

-- to unfold both
unfoldable pub line_writing : Unit {0}
unfolding ran_text refusal_text
line_writing = tt
