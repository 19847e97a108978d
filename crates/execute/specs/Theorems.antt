-- What is proved of the fetch and of the words after an instruction. Assumes nothing.
use Rattle.std.specs.Prelude.{◌≡◌, ◌≢◌, List, ℕ, ◌+◌, ◌≤◌, ◌<◌, length}
use Rattle.isa.specs.declared.width.Width.{Width}
use Rattle.isa.specs.Decode.{word_bytes, word_at, opcode_of}
use Rattle.machine.specs.Machine.{State, width_of}
use Rattle.execute.specs.View.{Attempt, Found, Raises, Stops, bytes_at, View, view, nops_after}

-- where all bytes of the word at an address are there, a fetch that is not refused finds `word_at`'s word, the one that a listing shows (Manual 11.1)
abbrev pub FetchedWord : Type 0
FetchedWord = (width : Width) (program : List ℕ) (a : ℕ) → a + word_bytes width ≤ length program → bytes_at program (word_bytes width) a 0 ≡ Found (word_at width program a)

-- ---- the nops that must follow an instruction (Manual 4.6)

-- the k-th word after it is there, not protected from the mode, and a nop
pub record NopAt (v : View) (k : ℕ) : Type 0 where
  pub word : ℕ
  pub there : v.following k ≡ Found word
  pub nop : opcode_of (width_of v.status) word ≡ 0

-- it is not, and this comes of it: 00h in user mode for a protected byte, stop 11 for an absent one, stop 20 for an operation other than 0
pub data NotNopAt (v : View) (k : ℕ) : Attempt (Unit {0}) → Type 0 where
  protected : v.following k ≡ Raises 0x00 → NotNopAt v k (Raises 0x00)
  absent : v.following k ≡ Stops 11 → NotNopAt v k (Stops 11)
  other : (w : ℕ) → v.following k ≡ Found w → opcode_of (width_of v.status) w ≢ 0 → NotNopAt v k (Stops 20)

-- the first of so many words that is no nop, and what comes of it
pub record FirstOther (v : View) (from count : ℕ) (a : Attempt (Unit {0})) : Type 0 where
  pub k : ℕ
  pub least : from ≤ k
  pub most : k < from + count
  pub earlier : (j : ℕ) → from ≤ j → j < k → NopAt v j
  pub other : NotNopAt v k a

-- the words are looked at in order: all of so many words are nops, or the first that is none decides
pub data Checked (v : View) (from count : ℕ) (a : Attempt (Unit {0})) : Type 0 where
  all_nops : ((k : ℕ) → from ≤ k → k < from + count → NopAt v k) → a ≡ Found tt → Checked v from count a
  not_all : FirstOther v from count a → Checked v from count a

abbrev pub CheckedInOrder : Type 0
CheckedInOrder = (program : List ℕ) (s : State) (count : ℕ) → let v = view program s in Checked v 1 count (nops_after v count)
