-- Conditions 0 to 7, and the flags that they are tested against (Manual 2.6). Assumes nothing.
use Rattle.std.specs.Prelude.{Bool, not, ◌&&◌, ◌||◌, List, [], ◌∷◌, ℕ, get_or}
use Rattle.word.specs.Word.{bit_at}
use Rattle.isa.specs.Text.{bytes}
use Rattle.isa.specs.declared.condition.Condition.{Condition}
use Rattle.isa.specs.declared.condition.Condition.TheVariants.{Carry, EqualOrGreater, EqualOrLess, Equal, Greater, Less, NotEqual, NoCarry}

-- by number, 0 to 7
unfoldable pub conditions : List Condition
conditions = Carry ∷ EqualOrGreater ∷ EqualOrLess ∷ Equal ∷ Greater ∷ Less ∷ NotEqual ∷ NoCarry ∷ []

-- the condition of a number
unfoldable pub condition_of : ℕ → Condition
condition_of n = get_or conditions n NoCarry

-- its name, as bytes
unfoldable pub name_of : Condition → List ℕ
name_of Carry = bytes "c"
name_of EqualOrGreater = bytes "egt"
name_of EqualOrLess = bytes "elt"
name_of Equal = bytes "eq"
name_of Greater = bytes "gt"
name_of Less = bytes "lt"
name_of NotEqual = bytes "ne"
name_of NoCarry = bytes "nc"

-- the flags of a condition register: Z × 4 + N × 2 + C
abbrev pub carry : ℕ → Bool
carry flags = bit_at 0 flags

abbrev pub negative : ℕ → Bool
negative flags = bit_at 1 flags

abbrev pub zero_flag : ℕ → Bool
zero_flag flags = bit_at 2 flags

-- whether a condition holds of a condition register: lt is N; eq is Z; elt is N or Z; gt is neither; egt is not N
unfoldable pub holds : Condition → (flags : ℕ) → Bool
holds Carry flags = carry flags
holds EqualOrGreater flags = not (negative flags)
holds EqualOrLess flags = negative flags || zero_flag flags
holds Equal flags = zero_flag flags
holds Greater flags = not (negative flags) && not (zero_flag flags)
holds Less flags = negative flags
holds NotEqual flags = not (zero_flag flags)
holds NoCarry flags = not (carry flags)

-- to unfold all of these
unfoldable pub conditioning : Unit {0}
unfolding conditions condition_of name_of holds
conditioning = tt
