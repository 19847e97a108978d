-- What a step or a stop was. Assumes nothing.
use Rattle.std.specs.Prelude.{ℕ, List, [], ◌∷◌}

pub data Kind : Type 0 where
  Ordinary : Kind  -- an instruction, and none of the others
  Interrupt : Kind  -- one was accepted
  SystemCall : Kind  -- scall
  InterruptReturn : Kind  -- reti
  Exception : (code : ℕ) → Kind
  Reset : Kind  -- a step whose clock reset the core (Manual 4.12)
  Stop : (number : ℕ) → Kind

-- the numbers of stops (Manual 4.10)
abbrev pub STOPS : List ℕ
STOPS = 11 ∷ 12 ∷ 13 ∷ 14 ∷ 15 ∷ 20 ∷ []
