-- Operands as the code writes them. Assumes nothing.
use Rattle.std.specs.Prelude.{List, [], ◌∷◌, ◌++◌, ℕ}
use Rattle.console.specs.Digits.{blank}

-- texts with a blank before each
unfoldable pub spaced : List (List ℕ) → List ℕ
spaced [] = []
spaced (t ∷ ts) = (blank ∷ t) ++ spaced ts

-- to unfold it
unfoldable pub parts : Unit {0}
unfolding spaced
parts = tt
