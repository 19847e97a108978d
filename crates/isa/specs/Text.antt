-- Texts as bytes. Assumes nothing.
use mathlib.Core.List as list
use Rattle.std.specs.Prelude.{List, ℕ}
use Prim.Native.Char.{code}
use Prim.Native.String.{String, [], ◌∷◌}

-- the codes of a text's characters; those of ASCII are bytes
unfoldable pub bytes : String → List ℕ
bytes [] = list.[]
bytes (c ∷ cs) = list.◌∷◌ (code c) (bytes cs)

-- to unfold it
unfoldable pub spelling : Unit {0}
unfolding bytes
spelling = tt
