-- Programs worked by hand, and the words of them that are reached: antt computes both sides. Assumes nothing.
use mathlib.Core.Path.{◌≡◌, refl}
use mathlib.Core.List.{List, [], ◌∷◌, ◌++◌, map}
use Prim.Native.Nat.{ℕ, ◌+◌, ◌-◌}
use lib.ListN.{length, replicate}
use Rattle.codec.specs.Number.{bytes_of}
use Rattle.isa.specs.declared.width.Width.{Width}
use Rattle.isa.specs.declared.width.Width.TheVariants.{Narrow, Wide}
use Rattle.isa.specs.Decode.{word_bytes}
use Rattle.reach.specs.Call.{Mapped, mapped, reach_call}
use Rattle.reach.specs.Computed.{reaching}

-- a program, a start, and a mark for each of its words
record Case : Type 0 where
  width : Width
  program : List ℕ
  start : ℕ
  marks : List ℕ

-- the map is two bytes longer than the program, and all its bytes are 7 before the call
unfoldable called : Case → Mapped
called c = reach_call c.width c.program c.start (replicate (length c.program + 2) 7)

-- bytes of words, the first of each as marked
unfoldable spread : Width → List ℕ → List ℕ
spread width [] = []
spread width (m ∷ ms) = (m ∷ replicate (word_bytes width - 1) 0) ++ spread width ms

-- bytes of the program after its last whole word
unfoldable rest : Case → List ℕ
rest c = replicate (length c.program - length (spread c.width c.marks)) 0

unfoldable expected : Case → Mapped
expected c = mapped 0 (spread c.width c.marks ++ rest c ++ 7 ∷ 7 ∷ [])

-- jmp, whose slot is a jmp that is not followed; beq to the retu two words on; reti, of whose three slots that is the first
unfoldable slots_only : List ℕ
slots_only = bytes_of (0x9000_0006 ∷ 0x9000_0006 ∷ 0 ∷ 0 ∷ 0xAC00_0002 ∷ 0xC800_0000 ∷ 0xC400_0000 ∷ 0 ∷ 0 ∷ 0 ∷ [])

-- jal, with a jmp back in its slot, beq, scall, a conditional jmpr, a swm that keeps the width, reti, with a jmp in its first slot, trap
unfoldable every : List ℕ
every =
    bytes_of
    (0x9400_0006 ∷ 0x91FF_FFFE ∷ 0xAC00_0002 ∷ 0xC000_0000 ∷ 0x9A18_03E0 ∷ 0xD800_0001 ∷ 0 ∷ 0 ∷ 0xC800_0000 ∷ 0x9000_0004 ∷ 0 ∷ 0 ∷ 0xDC00_0003 ∷ 0 ∷ [])

-- 16-bit words, two to a number: bc, jalr, lli, which has no form, swm to 32-bit words, retu, jmp back; and a byte that belongs to no word
unfoldable narrow : List ℕ
narrow = bytes_of (0xA003_9C08 ∷ 0x8800_D801 ∷ 0xC400_93FA ∷ []) ++ 0 ∷ 0 ∷ 0 ∷ []

-- 32-bit words: jalr and scall with a condition, jmpr without one, a swm to 16-bit words
unfoldable conditional : List ℕ
conditional = bytes_of (0x9E00_0000 ∷ 0 ∷ 0xC200_0000 ∷ 0 ∷ 0x9800_0000 ∷ 0 ∷ 0xD800_0000 ∷ 0 ∷ 0 ∷ 0 ∷ [])

-- 16-bit words: scall, two nops, a swm that keeps the width, two nops, trap
unfoldable narrow_switch : List ℕ
narrow_switch = bytes_of (0xC000_0000 ∷ 0x0000_D800 ∷ 0x0000_0000 ∷ 0xDC00_0000 ∷ [])

-- targets: a misaligned word, below 0, the last word, one past it, far outside
unfoldable targets : List ℕ
targets = bytes_of (0xA000_0001 ∷ 0xA03F_FFFA ∷ 0xA000_0006 ∷ 0x9400_0006 ∷ 0xDC00_0000 ∷ 0x90FF_FFFF ∷ 0 ∷ [])

unfoldable cases : List Case
cases =
    record { width = Wide; program = slots_only; start = 0; marks = 1 ∷ 1 ∷ 0 ∷ 0 ∷ 1 ∷ 1 ∷ 1 ∷ 1 ∷ 1 ∷ 0 ∷ [] } ∷
    record { width = Wide; program = slots_only; start = 0x24; marks = 0 ∷ 0 ∷ 0 ∷ 0 ∷ 0 ∷ 0 ∷ 0 ∷ 0 ∷ 0 ∷ 1 ∷ [] } ∷
    record { width = Wide; program = every; start = 0; marks = 1 ∷ 1 ∷ 1 ∷ 1 ∷ 1 ∷ 1 ∷ 1 ∷ 1 ∷ 1 ∷ 1 ∷ 1 ∷ 1 ∷ 0 ∷ 0 ∷ [] } ∷
    record { width = Wide; program = every; start = 0x30; marks = 0 ∷ 0 ∷ 0 ∷ 0 ∷ 0 ∷ 0 ∷ 0 ∷ 0 ∷ 0 ∷ 0 ∷ 0 ∷ 0 ∷ 1 ∷ 0 ∷ [] } ∷
    record { width = Narrow; program = narrow; start = 0; marks = 1 ∷ 1 ∷ 1 ∷ 1 ∷ 1 ∷ 1 ∷ 0 ∷ [] } ∷
    record { width = Narrow; program = narrow; start = 0x0C; marks = 0 ∷ 0 ∷ 0 ∷ 0 ∷ 0 ∷ 0 ∷ 1 ∷ [] } ∷
    record { width = Wide; program = conditional; start = 0; marks = 1 ∷ 1 ∷ 1 ∷ 1 ∷ 1 ∷ 1 ∷ 0 ∷ 0 ∷ 0 ∷ 0 ∷ [] } ∷
    record { width = Wide; program = conditional; start = 0x18; marks = 0 ∷ 0 ∷ 0 ∷ 0 ∷ 0 ∷ 0 ∷ 1 ∷ 1 ∷ 1 ∷ 0 ∷ [] } ∷
    record { width = Narrow; program = narrow_switch; start = 0; marks = 1 ∷ 1 ∷ 1 ∷ 1 ∷ 1 ∷ 1 ∷ 1 ∷ 0 ∷ [] } ∷
    record { width = Wide; program = targets; start = 0; marks = 1 ∷ 1 ∷ 1 ∷ 1 ∷ 1 ∷ 1 ∷ 1 ∷ [] } ∷
    record { width = Wide; program = targets; start = 0x14; marks = 0 ∷ 0 ∷ 0 ∷ 0 ∷ 0 ∷ 1 ∷ 1 ∷ [] } ∷
    []

worked : map called cases ≡ map expected cases
unfolding reaching bytes_of called spread rest expected slots_only every narrow conditional narrow_switch targets cases
worked = refl

-- start 2 in 32-bit words: 28 where the map is one byte short, else 27
worked_refused : (reach_call Wide slots_only 2 (replicate 39 7) ≡ mapped 28 (replicate 39 7)) × (reach_call Wide slots_only 2 (replicate 40 7) ≡ mapped 27 (replicate 40 7))
unfolding reaching bytes_of slots_only
worked_refused = (refl, refl)
