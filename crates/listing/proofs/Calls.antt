-- The listing call: its questions, and the lines one after the other. Assumes nothing.
use mathlib.Core.Path.{◌≡◌, sym, ap, ◌∙◌}
use mathlib.Core.Logic.{◌≢◌}
use mathlib.Core.List.{List, ◌++◌}
use Prim.Native.Nat.{ℕ, suc, ◌+◌, ◌-◌, ◌*◌, ◌/◌, ◌%◌, ◌≤◌, ◌<◌}
use native.Mathlib.Omega.{arith}
use lib.ListN.{length}
use borrow.Author.Tests.{le-leb, lt-leb, eq-eqb, ne_eqb}
use Rattle.codec.specs.Number.{put_at, over}
use Rattle.codec.proofs.Laws.{put_at_nothing, put_at_append}
use Rattle.isa.specs.declared.width.Width.{Width}
use Rattle.isa.specs.declared.width.Width.TheVariants.{Narrow, Wide}
use Rattle.isa.specs.Decode.{word_bytes, word_at}
use Rattle.machine.specs.Machine.{MOST_MEMORY}
use Rattle.listing.specs.Line.{word_line}
use Rattle.listing.specs.Listing.{LINE_BYTES, lines_from, words_in, listed, listing_call}
use Rattle.listing.proofs.Lines.{length_line}

-- ---- the questions

module _ (width : Width) (program text : List ℕ) where
  pub too_long_law : MOST_MEMORY < length program → listed 1 text ≡ listing_call width program text
  unfolding listing_call
  too_long_law h = rw (lt-leb (length program) MOST_MEMORY h)

  module _ (size : length program ≤ MOST_MEMORY) where
    pub not_whole_law : length program % word_bytes width ≢ 0 → listed 16 text ≡ listing_call width program text
    unfolding listing_call
    not_whole_law d = rw (le-leb (length program) MOST_MEMORY size, ne_eqb (length program % word_bytes width) 0 d)

    module _ (whole : length program % word_bytes width ≡ 0) where
      pub too_short_law : length text < LINE_BYTES * words_in width program → listed 17 text ≡ listing_call width program text
      unfolding listing_call
      too_short_law h =
          rw (le-leb (length program) MOST_MEMORY size, eq-eqb (length program % word_bytes width) 0 whole, lt-leb (LINE_BYTES * words_in width program) (length text) h)

      pub listable : LINE_BYTES * words_in width program ≤ length text → listed 0 (over (lines_from width program 0 (words_in width program)) text) ≡ listing_call width program text
      unfolding listing_call
      listable h =
          rw (le-leb (length program) MOST_MEMORY size, eq-eqb (length program % word_bytes width) 0 whole, le-leb (LINE_BYTES * words_in width program) (length text) h)

-- ---- the words

-- word n of a program lies in it
pub inside : (width : Width) (size n : ℕ) → n < size / word_bytes width → word_bytes width * n + word_bytes width ≤ size
unfolding word_bytes
inside Narrow size n h = omega arith
inside Wide size n h = omega arith

-- where the one after it begins
pub next_word : (width : Width) (n : ℕ) → word_bytes width * n + word_bytes width ≡ word_bytes width * (n + 1)
unfolding word_bytes
next_word Narrow n = omega arith
next_word Wide n = omega arith

-- no more words than bytes
pub words_le : (width : Width) (size : ℕ) → size / word_bytes width ≤ size
unfolding word_bytes
words_le Narrow size = omega arith
words_le Wide size = omega arith

-- ---- the lines

module _ (width : Width) (program : List ℕ) where
  -- the lines of the words from word n on
  abbrev pub lines_at : (n : ℕ) → List ℕ
  lines_at n = lines_from width program (word_bytes width * n) (words_in width program - n)

  -- the line of word n
  abbrev pub line_at : (n : ℕ) → List ℕ
  line_at n = word_line width (word_bytes width * n) (word_at width program (word_bytes width * n))

  pub lines_next : (n : ℕ) → n < words_in width program → lines_at n ≡ line_at n ++ lines_at (n + 1)
  unfolding lines_from
  lines_next n h =
      let words = words_in width program in
      let e : words - n ≡ suc (words - (n + 1)) = omega arith in
      ap (lines_from width program (word_bytes width * n)) e ∙ ap (λ (a : ℕ). line_at n ++ lines_from width program a (words - (n + 1))) (next_word width n)

  -- line n is written, and the lines after it are left
  pub line_written : (n : ℕ) (text goal : List ℕ) → n < words_in width program → 48 * n + 48 ≤ length text → put_at text (48 * n) (lines_at n) ≡ goal
      → put_at (put_at text (48 * n) (line_at n)) (48 * (n + 1)) (lines_at (n + 1)) ≡ goal
  line_written n text goal h room g =
      let k : 48 * (n + 1) ≡ 48 * n + length (line_at n) = omega (arith, length_line width (word_bytes width * n) (word_at width program (word_bytes width * n))) in
      ap (λ (k : ℕ). put_at (put_at text (48 * n) (line_at n)) k (lines_at (n + 1))) k
      ∙ put_at_append text (48 * n) (line_at n) (lines_at (n + 1)) (omega arith)
      ∙ ap (λ (t : List ℕ). put_at text (48 * n) t) (sym (lines_next n h))
      ∙ g

  -- past the last none is left
  pub lines_written : (n : ℕ) (text : List ℕ) → words_in width program ≤ n → put_at text (48 * n) (lines_at n) ≡ text
  unfolding lines_from
  lines_written n text h =
      let e : words_in width program - n ≡ 0 = omega arith in
      ap (λ (count : ℕ). put_at text (48 * n) (lines_from width program (word_bytes width * n) count)) e ∙ put_at_nothing text (48 * n)
