-- Texts worked by hand: antt computes both sides. Assumes nothing.
use Rattle.std.proofs.Common.{◌≡◌, refl, ℕ, List, [], ◌∷◌, Some, None}
use Rattle.std.specs.Prelude.{map}
use Rattle.console.specs.Limit.{limit_of}
use Rattle.console.specs.Line.{ran_text, refusal_text}
use Rattle.console.specs.Computed.{texts}

-- texts of limit.txt, and the limits that they say
unfoldable inputs : List (List ℕ)
inputs =
    (51 ∷ []) ∷  -- "3"
    (51 ∷ 10 ∷ []) ∷  -- "3\n"
    (48 ∷ 48 ∷ 48 ∷ 48 ∷ 48 ∷ 48 ∷ 48 ∷ 10 ∷ []) ∷  -- "0000000\n"
    (49 ∷ 48 ∷ 48 ∷ 48 ∷ 48 ∷ 48 ∷ 48 ∷ []) ∷  -- "1000000"
    (57 ∷ 57 ∷ 57 ∷ 57 ∷ 57 ∷ 57 ∷ 57 ∷ 10 ∷ []) ∷  -- "9999999\n"
    [] ∷  -- ""
    (10 ∷ []) ∷  -- "\n"
    (48 ∷ 48 ∷ 48 ∷ 48 ∷ 48 ∷ 48 ∷ 48 ∷ 51 ∷ []) ∷  -- "00000003"
    (51 ∷ 10 ∷ 10 ∷ []) ∷  -- "3\n\n"
    (51 ∷ 32 ∷ []) ∷  -- "3 "
    (43 ∷ 51 ∷ []) ∷  -- "+3"
    (47 ∷ []) ∷  -- "/"
    (58 ∷ []) ∷  -- ":"
    (51 ∷ 13 ∷ 10 ∷ []) ∷  -- "3\r\n"
    []

limits : map limit_of inputs ≡ Some 3 ∷ Some 3 ∷ Some 0 ∷ Some 1000000 ∷ Some 9999999 ∷ None ∷ None ∷ None ∷ None ∷ None ∷ None ∷ None ∷ None ∷ None ∷ []
unfolding texts inputs
limits = refl

-- the whole output "3 0 00000000"
pub whole_output : ran_text 3 0 0 ≡ 51 ∷ 32 ∷ 48 ∷ 32 ∷ 48 ∷ 48 ∷ 48 ∷ 48 ∷ 48 ∷ 48 ∷ 48 ∷ 48 ∷ 10 ∷ []
unfolding texts
whole_output = refl

-- "1000000 15 89ABCDEF"
ran_long : ran_text 1000000 15 0x89AB_CDEF ≡ 49 ∷ 48 ∷ 48 ∷ 48 ∷ 48 ∷ 48 ∷ 48 ∷ 32 ∷ 49 ∷ 53 ∷ 32 ∷ 56 ∷ 57 ∷ 65 ∷ 66 ∷ 67 ∷ 68 ∷ 69 ∷ 70 ∷ 10 ∷ []
unfolding texts
ran_long = refl

-- a limit of 1,000,001 prints "7"
refusal : refusal_text 7 ≡ 55 ∷ 10 ∷ []
unfolding texts
refusal = refl
