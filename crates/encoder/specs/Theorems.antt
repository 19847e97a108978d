-- What is proved of writing words: the statements, each with the rule that it says (Manual 12). Assumes nothing.
use Rattle.std.specs.Prelude.{◌≡◌, Bool, true, false, not, ◌&&◌, ◌||◌, List, [], ◌∷◌, ◌++◌, ℕ, ◌+◌, ◌-◌, ◌*◌, ◌%◌, ◌^◌, ◌≤◌, ◌<◌, leb, ltb, eqb, ℤ, pos, negsuc}
use Rattle.word.specs.Word.{Field, word_of}
use Rattle.isa.specs.declared.width.Width.{Width}
use Rattle.isa.specs.declared.width.Width.TheVariants.{Narrow}
use Rattle.isa.specs.Operation.{operation_of, width_by}
use Rattle.isa.specs.Format.{fields_width, fields_of, lie_below, separate}
use Rattle.isa.specs.Decode.{word_bytes, decode}
use Rattle.isa.specs.Shown.{has_form}
use Rattle.isa.specs.declared.form.Reading.TheVariants.{Natural, Signed, High}
use Rattle.isa.specs.Used.{shown_fields, least_of, shown_reading, cleared}
use Rattle.isa.specs.Theorems.{between}
use Rattle.isa.specs.declared.instruction.Instruction.{Instruction}
use Rattle.listing.specs.Line.{operands_text, name_text, condition_text}
use Rattle.encoder.specs.Encode.{Choice, choice_of, Part, parts_of, fits, all_fit, written, given, chosen_form, Encodes, RefusedWith, encode_of}

-- ---- what fits is shown from the places and widths of fields, and not field by field

-- the pieces of all parts
unfoldable pub pieces_of : List Part → List Field
pieces_of [] = []
pieces_of (p ∷ ps) = p.fields ++ pieces_of ps

-- each part's pieces hold its number, as many bits of it as they are
unfoldable pub AllHold : List Part → (word : ℕ) → Type 0
AllHold [] word = Unit {0}
AllHold (p ∷ ps) word = (fields_of p.fields word ≡ word_of 32 p.number % 2 ^ fields_width p.fields) × AllHold ps word

-- numbers written into pieces that share no bit are read back
abbrev pub WrittenRead : Type 0
WrittenRead = (ps : List Part) → separate (pieces_of ps) ≡ true → AllHold ps (written ps)

-- and the word has no more bits than they reach
abbrev pub WrittenBelow : Type 0
WrittenBelow = (k : ℕ) (ps : List Part) → lie_below k (pieces_of ps) ≡ true → separate (pieces_of ps) ≡ true → written ps < 2 ^ k

-- both hold of the parts of a choice
pub record Apart (width : Width) (ps : List Part) : Type 0 where
  pub inside : lie_below (8 * word_bytes width) (pieces_of ps) ≡ true
  pub disjoint : separate (pieces_of ps) ≡ true

abbrev pub PartsApart : Type 0
PartsApart = (width : Width) (c : Choice) → chosen_form width c.operation (given c.guard) ≡ true → Apart width (parts_of width c)

-- of the numbers that fit k bits only one has given bits
abbrev pub FitsOne : Type 0
FitsOne = (k : ℕ) (least y z : ℤ) → k ≤ 32 → fits k least y ≡ true → fits k least z ≡ true → word_of 32 y % 2 ^ k ≡ word_of 32 z % 2 ^ k → y ≡ z

-- which numbers fit, by the reading of their bits; negsuc n is -(n + 1). Of no bits only 0 does
pub record Ranges (k n : ℕ) : Type 0 where
  pub none : fits 0 (least_of Natural 0) (pos n) ≡ eqb n 0
  pub natural : fits k (least_of Natural k) (pos n) ≡ ltb n (2 ^ k)
  pub natural_below : fits k (least_of Natural k) (negsuc n) ≡ false
  pub signed : 0 < k → fits k (least_of Signed k) (pos n) ≡ ltb n (2 ^ (k - 1))
  pub signed_below : 0 < k → fits k (least_of Signed k) (negsuc n) ≡ ltb n (2 ^ (k - 1))
  pub high : fits k (least_of High k) (pos n) ≡ leb 24 n && ltb n (24 + 2 ^ k)
  pub high_below : fits k (least_of High k) (negsuc n) ≡ false

abbrev pub RangesAre : Type 0
RangesAre = (k n : ℕ) → Ranges k n

-- registers of 16-bit words are given as 24 to 31: they have three bits
abbrev pub NarrowBits : Type 0
NarrowBits = (n k : ℕ) → n < 64 → k < 4 → shown_reading Narrow (operation_of n) k ≡ High → fields_width (shown_fields Narrow (operation_of n) k) ≡ 3

-- ---- the two ways between choices and words

-- the operation of a word has a form in its width
abbrev pub word_has_form : Width → (word : ℕ) → Bool
word_has_form width word = has_form width (operation_of (decode width word).opcode)

-- the word is read as the operation, condition and operands that it was made from; it is a word of its width, and ignored bits are 0
pub record ReadBack (width : Width) (c : Choice) (word : ℕ) : Type 0 where
  pub choice : choice_of width word ≡ c
  pub form : word_has_form width word ≡ true
  pub size : word < 2 ^ (8 * word_bytes width)
  pub ignored : cleared width word ≡ word

abbrev pub EncodeDecode : Type 0
EncodeDecode = (width : Width) (c : Choice) (word : ℕ) → encode_of width c ≡ Encodes word → ReadBack width c word

-- a word that came in with other ignored bits is written with zeros: every choice that a listing shows has a word, and it is this
abbrev pub DecodeEncode : Type 0
DecodeEncode = (width : Width) (word : ℕ) → word_has_form width word ≡ true → encode_of width (choice_of width word) ≡ Encodes (cleared width word)

-- each such choice has one written word: two words that are read as the same choice, with their ignored bits 0, are one
abbrev pub OneWord : Type 0
OneWord = (width : Width) (word other : ℕ) → word_has_form width word ≡ true → choice_of width word ≡ choice_of width other → cleared width word ≡ word
    → cleared width other ≡ other → word ≡ other

-- and a second writing alters nothing
pub record WrittenAgain (width : Width) (word : ℕ) : Type 0 where
  pub choice : choice_of width (cleared width word) ≡ choice_of width word
  pub again : encode_of width (choice_of width (cleared width word)) ≡ Encodes (cleared width word)
  pub ignored : cleared width (cleared width word) ≡ cleared width word

abbrev pub SecondWriting : Type 0
SecondWriting = (width : Width) (word : ℕ) → word_has_form width word ≡ true → WrittenAgain width word

-- ---- as a listing shows them (Manual 11)

-- what a listing shows of two instructions
pub record ShownAlike (width : Width) (i j : Instruction) : Type 0 where
  pub condition : condition_text i ≡ condition_text j
  pub name : name_text width (operation_of i.opcode) ≡ name_text width (operation_of j.opcode)
  pub operands : operands_text width i ≡ operands_text width j

-- it is the same of words that are read as the same choice
abbrev pub ChoiceShown : Type 0
ChoiceShown = (width : Width) (word other : ℕ) → choice_of width word ≡ choice_of width other → ShownAlike width (decode width word) (decode width other)

-- ---- refusals

-- 18 where the operation has no such form in the width, or no conditional form and a condition is given: by the numbers of operations (Manual 3.1)
abbrev pub ChosenFormIs : Type 0
ChosenFormIs = (wide : Bool) (n : ℕ) (conditional : Bool)
    → chosen_form (width_by wide) n conditional
    ≡ (ltb n 64 && not ((between 34 35 n || leb 63 n) && not wide))
    && (not conditional || wide && (((between 1 31 n || between 38 39 n) || eqb n 48) || between 58 62 n))

-- it is asked first; then 19, where an operand or a part of the condition does not fit its bits, or an operand has none and is not 0; every other
-- choice has a word
pub record Asked (width : Width) (c : Choice) : Type 0 where
  pub formless : chosen_form width c.operation (given c.guard) ≡ false → encode_of width c ≡ RefusedWith 18
  pub unfit : chosen_form width c.operation (given c.guard) ≡ true → all_fit (parts_of width c) ≡ false → encode_of width c ≡ RefusedWith 19
  pub others : chosen_form width c.operation (given c.guard) ≡ true → all_fit (parts_of width c) ≡ true → encode_of width c ≡ Encodes (written (parts_of width c))

abbrev pub AskedInOrder : Type 0
AskedInOrder = (width : Width) (c : Choice) → Asked width c
