-- The words that can be reached (Manual 13): what a reader has to believe of them, whatever way they are found. Assumes nothing.
use Rattle.std.specs.Prelude.{◌≡◌, ◌⊎◌, List, [], ◌∷◌, ℕ}
use Rattle.isa.specs.declared.width.Width.{Width}
use Rattle.reach.specs.Successors.{successors, slots}

-- b is an element of a list; a type, so that what is reached can be one
abbrev pub Among : (b : ℕ) → List ℕ → Type 0
Among b [] = ⊥
Among b (a ∷ s) = (b ≡ a) ⊎ Among b s

-- b is reached in full: it is the start, or a word that is reached in full leads to it
pub data InFull (edges : ℕ → List ℕ) (start : ℕ) : ℕ → Type 0 where
  first : InFull edges start start
  further : {a b : ℕ} → InFull edges start a → Among b (edges a) → InFull edges start b

-- b is a slot of a word that is reached in full; a word that is reached only as a slot leads nowhere
pub record AsSlot (edges slots_of : ℕ → List ℕ) (start b : ℕ) : Type 0 where
  pub word : ℕ
  pub reached : InFull edges start word
  pub slot : Among b (slots_of word)

-- b is a word that can be reached from a start address in one width, in full or as a slot
abbrev pub Reachable : Width → (program : List ℕ) (start b : ℕ) → Type 0
Reachable width program start b = InFull (successors width program) start b ⊎ AsSlot (successors width program) (slots width program) start b
