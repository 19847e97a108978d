-- The call that lists a program (Manual 11). Assumes nothing.
use Rattle.std.specs.Prelude.{not, List, [], ◌++◌, ℕ, zero, suc, ◌+◌, ◌*◌, ◌/◌, ◌%◌, nat_le, nat_eq, length, if◌then◌else◌}
use Rattle.codec.specs.Number.{over}
use Rattle.isa.specs.declared.width.Width.{Width}
use Rattle.isa.specs.Decode.{word_bytes, word_at}
use Rattle.machine.specs.Machine.{MOST_MEMORY}
use Rattle.listing.specs.Line.{word_line}

-- bytes of a line: 47 characters and a newline
abbrev pub LINE_BYTES : ℕ
LINE_BYTES = 48

-- the lines of `count` words, from an address on
unfoldable pub lines_from : Width → (program : List ℕ) (address count : ℕ) → List ℕ
lines_from width program a zero = []
lines_from width program a (suc count) = word_line width a (word_at width program a) ++ lines_from width program (a + word_bytes width) count

-- how many words a program has
abbrev pub words_in : Width → (program : List ℕ) → ℕ
words_in width program = length program / word_bytes width

-- the answer, 0 or the number of the refusal, and the lent text after the call
pub record Listed : Type 0 where
  pub answer : ℕ
  pub text : List ℕ

abbrev pub listed : (answer : ℕ) (text : List ℕ) → Listed
listed answer text = record { answer = answer; text = text }

-- 1 for a program that is too long, 16 for one that is not made of whole words, 17 for a text with less room than a line for each word, in this
-- order; else the lines stand at the text's front, and each byte past them is as it was
unfoldable pub listing_call : Width → (program text : List ℕ) → Listed
listing_call width program text =
    let words = words_in width program in
    if not (nat_le (length program) MOST_MEMORY) then listed 1 text
    else (if not (nat_eq (length program % word_bytes width) 0) then listed 16 text
    else (if not (nat_le (LINE_BYTES * words) (length text)) then listed 17 text
    else listed 0 (over (lines_from width program 0 words) text)))

-- to unfold all of these
unfoldable pub call_listing : Unit {0}
unfolding lines_from listing_call
call_listing = tt
