-- What is proved of listings (Manual 11): the statements, each below the rule that it says. Assumes nothing.
use Rattle.std.specs.Prelude.{◌≡◌, false, ◌≢◌, List, [], ◌∷◌, ◌++◌, ℕ, suc, ◌*◌, ◌%◌, ◌≤◌, ◌<◌, length, take, drop}
use Rattle.isa.specs.Text.{bytes}
use Rattle.isa.specs.declared.width.Width.{Width}
use Rattle.isa.specs.Operation.{operation_of}
use Rattle.isa.specs.Decode.{word_bytes, word_at, decode}
use Rattle.isa.specs.Shown.{has_form}
use Rattle.isa.specs.declared.instruction.Instruction.{Instruction}
use Rattle.machine.specs.Machine.{MOST_MEMORY}
use Rattle.console.specs.Digits.{blank, newline, digits_of, hex8}
use Rattle.listing.specs.Line.{operands_text, name_text, condition_text, padded, WORD_COLUMN, CONDITION_COLUMN, NAME_COLUMN, OPERANDS_COLUMN, word_line}
use Rattle.listing.specs.Listing.{LINE_BYTES, words_in, listed, listing_call}

-- ---- a line

-- a text fits its columns, and stands there with blanks on its right and one more character after them
pub record ColumnIs (line : List ℕ) (first count : ℕ) (text : List ℕ) (next : ℕ) : Type 0 where
  pub fits : length text ≤ count
  pub shown : take (suc count) (drop first line) ≡ padded count text ++ next ∷ []

-- a line has 47 characters and a newline: address and word in 8 columns each, condition in 6, name in 8, operands in 13, a blank between any two
pub record Columns (width : Width) (a w : ℕ) : Type 0 where
  pub size : length (word_line width a w) ≡ LINE_BYTES
  pub address : ColumnIs (word_line width a w) 0 8 (hex8 a) blank
  pub word : ColumnIs (word_line width a w) WORD_COLUMN 8 (digits_of 16 (2 * word_bytes width) w) blank
  pub condition : ColumnIs (word_line width a w) CONDITION_COLUMN 6 (condition_text (decode width w)) blank
  pub name : ColumnIs (word_line width a w) NAME_COLUMN 8 (name_text width (operation_of (decode width w).opcode)) blank
  pub operands : ColumnIs (word_line width a w) OPERANDS_COLUMN 13 (operands_text width (decode width w)) newline

abbrev pub LineColumns : Type 0
LineColumns = (width : Width) (address word : ℕ) → Columns width address word

-- an operation that words of the width do not have is shown as ? and without operands
pub record Formless (width : Width) (i : Instruction) : Type 0 where
  pub name : name_text width (operation_of i.opcode) ≡ bytes "?"
  pub operands : operands_text width i ≡ []

abbrev pub FormlessShown : Type 0
FormlessShown = (width : Width) (i : Instruction) → has_form width (operation_of i.opcode) ≡ false → Formless width i

-- ---- a call

-- a call that is refused changes no lent memory (Manual 9)
abbrev pub RefusedKeeps : Type 0
RefusedKeeps = (width : Width) (program text : List ℕ) → (listing_call width program text).answer ≢ 0 → (listing_call width program text).text ≡ text

-- what a call that is not refused has been given
pub record Listable (width : Width) (program text : List ℕ) : Type 0 where
  pub size : length program ≤ MOST_MEMORY
  pub whole : length program % word_bytes width ≡ 0
  pub room : LINE_BYTES * words_in width program ≤ length text

-- what it leaves: a line for each word, and the bytes past the lines as they were
pub record Lines (width : Width) (program before after : List ℕ) : Type 0 where
  pub size : length after ≡ length before
  pub line : (n : ℕ) → n < words_in width program
      → take LINE_BYTES (drop (LINE_BYTES * n) after) ≡ word_line width (word_bytes width * n) (word_at width program (word_bytes width * n))
  pub beyond : drop (LINE_BYTES * words_in width program) after ≡ drop (LINE_BYTES * words_in width program) before

abbrev pub ListedLines : Type 0
ListedLines = (width : Width) (program text : List ℕ) → (listing_call width program text).answer ≡ 0
    → Listable width program text × Lines width program text (listing_call width program text).text

-- 1 for a program that is too long; else 16 where its bytes are no whole number of words; else 17 where the text has fewer than 48 bytes for each
-- word; every other call is answered 0
pub record Asked (width : Width) (program text : List ℕ) : Type 0 where
  pub too_long : MOST_MEMORY < length program → listing_call width program text ≡ listed 1 text
  pub not_whole : length program ≤ MOST_MEMORY → length program % word_bytes width ≢ 0 → listing_call width program text ≡ listed 16 text
  pub too_short : length program ≤ MOST_MEMORY → length program % word_bytes width ≡ 0 → length text < LINE_BYTES * words_in width program
      → listing_call width program text ≡ listed 17 text
  pub others : Listable width program text → (listing_call width program text).answer ≡ 0

abbrev pub AskedInOrder : Type 0
AskedInOrder = (width : Width) (program text : List ℕ) → Asked width program text
