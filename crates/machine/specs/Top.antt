-- The top of the stack, if there is one. Assumes nothing.
use Rattle.std.specs.Prelude.{List, [], ◌∷◌, ℕ, ◌<◌, Option, Some, None, IfSome}
use Rattle.word.specs.Flags.{without_flag}
use Rattle.machine.specs.declared.stack.Entry.{Entry}

abbrev pub top_of : List Entry → Option Entry
top_of [] = None
top_of (e ∷ es) = Some e

-- an entry's source is one of the bits of a word
abbrev pub SourceFits : Option Entry → Type 0
SourceFits o = IfSome o (λ (e : Entry). e.source < 32)

-- flags in service without that of an entry that leaves the stack, if one does
abbrev pub flags_left : (flags : ℕ) → Option Entry → ℕ
flags_left flags None = flags
flags_left flags (Some e) = without_flag e.source flags
