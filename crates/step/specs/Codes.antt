-- The codes of exceptions: what is proved of them. Assumes nothing.
use Rattle.std.specs.Prelude.{◌≡◌, ◌≢◌, Bool, true, ◌||◌, List, ℕ, eqb}
use Rattle.isa.specs.Theorems.{between}
use Rattle.machine.specs.Machine.{State}
use Rattle.machine.specs.Kind.{Exception}
use Rattle.step.specs.Step.{step}

-- the codes of exceptions: 00h, 02h to 09h, and E0h + n for trap n (Manual 4.9)
unfoldable pub is_code : ℕ → Bool
is_code c = (eqb c 0x00 || between 0x02 0x09 c) || between 224 255 c

-- an exception has one of these, whatever the program, the state and the requests
abbrev pub ExceptionCodes : Type 0
ExceptionCodes = (program : List ℕ) (s : State) (requests c : ℕ) → (step program s requests).kind ≡ Exception c → is_code c ≡ true

-- all 64 operations are known, so code 01h, of an unknown one, never occurs (Manual 4.4)
abbrev pub Never01h : Type 0
Never01h = (program : List ℕ) (s : State) (requests : ℕ) → (step program s requests).kind ≢ Exception 0x01
