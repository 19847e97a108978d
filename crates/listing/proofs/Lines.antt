-- A line, from its parts. Assumes nothing.
use mathlib.Core.Path.{◌≡◌, sym, ap, ◌∙◌}
use mathlib.Core.List.{List, [], ◌∷◌}
use Prim.Native.Nat.{ℕ, ◌-◌, ◌*◌, ◌≤◌, ◌<◌}
use native.Mathlib.Omega.{arith}
use lib.ListN.{length}
use Rattle.codec.specs.Number.{put_at}
use Rattle.isa.specs.declared.width.Width.{Width}
use Rattle.isa.specs.declared.width.Width.TheVariants.{Narrow, Wide}
use Rattle.isa.specs.Operation.{operation_of}
use Rattle.isa.specs.Decode.{word_bytes, decode}
use Rattle.isa.proofs.Decoded.{in_range}
use Rattle.console.specs.Digits.{digits_of, hex8}
use Rattle.console.proofs.Digits.{length_digits_of}
use Rattle.listing.specs.Line.{joined, shown_texts, operands_text, name_text, condition_text, WORD_COLUMN, CONDITION_COLUMN, NAME_COLUMN, OPERANDS_COLUMN, columns, word_line}
use Rattle.listing.specs.Parts.{spaced}
use Rattle.listing.proofs.Texts.{condition_fits, name_fits}
use Rattle.listing.proofs.Rooms.{operands_fit}
use Rattle.listing.proofs.Columns.{Fit, length_columns, spaced_joined, first, from_right, put_address, put_word, put_condition, put_name, put_operands}

-- ---- the parts fit their columns

-- the word in hexadecimal
abbrev pub word_text : Width → (word : ℕ) → List ℕ
word_text width word = digits_of 16 (2 * word_bytes width) word

pub address_fits : (address : ℕ) → length (hex8 address) ≤ 8
address_fits address = omega (arith, length_digits_of 16 8 address)

pub word_fits : (width : Width) (word : ℕ) → length (word_text width word) ≤ 8
unfolding word_bytes
word_fits Narrow word = omega (arith, length_digits_of 16 4 word)
word_fits Wide word = omega (arith, length_digits_of 16 8 word)

pub creg_below : (width : Width) (word : ℕ) → (decode width word).creg < 8
creg_below width word = (in_range width word).creg

-- ---- the line

-- the parts of a word put one after the other into an empty line
pub line_put : (width : Width) (address word : ℕ) (l₁ l₂ l₃ l₄ l₅ : List ℕ) → l₁ ≡ put_at (columns [] [] [] [] []) 0 (hex8 address)
    → l₂ ≡ put_at l₁ WORD_COLUMN (word_text width word) → l₃ ≡ put_at l₂ CONDITION_COLUMN (condition_text (decode width word))
    → l₄ ≡ put_at l₃ NAME_COLUMN (name_text width (operation_of (decode width word).opcode)) → l₅ ≡ put_at l₄ (OPERANDS_COLUMN - 1) (spaced (shown_texts width (decode width word)))
    → l₅ ≡ word_line width address word
unfolding word_line operands_text
line_put width address word l₁ l₂ l₃ l₄ l₅ e₁ e₂ e₃ e₄ e₅ =
    let i = decode width word in
    let a = hex8 address in
    let w = word_text width word in
    let c = condition_text i in
    let n = name_text width (operation_of i.opcode) in
    let ha = address_fits address in
    let hw = word_fits width word in
    let hc = condition_fits i (in_range width word).creg in
    let hn = name_fits width i.opcode in
    let c₁ : l₁ ≡ first a [] [] [] [] = e₁ ∙ ap (λ (s : List ℕ). put_at s 0 a) (from_right [] [] [] [] []) ∙ put_address a ha in
    let c₂ : l₂ ≡ first a w [] [] [] = e₂ ∙ ap (λ (s : List ℕ). put_at s WORD_COLUMN w) c₁ ∙ put_word a w ha hw in
    let c₃ : l₃ ≡ first a w c [] [] = e₃ ∙ ap (λ (s : List ℕ). put_at s CONDITION_COLUMN c) c₂ ∙ put_condition a w c ha hw hc in
    let c₄ : l₄ ≡ first a w c n [] = e₄ ∙ ap (λ (s : List ℕ). put_at s NAME_COLUMN n) c₃ ∙ put_name a w c n ha hw hc hn in
    e₅ ∙ ap (λ (s : List ℕ). put_at s (OPERANDS_COLUMN - 1) (spaced (shown_texts width i))) c₄
    ∙ put_operands a w c n (shown_texts width i) ha hw hc hn (operands_fit width word)
    ∙ sym (from_right a w c n (joined (shown_texts width i)))

-- ---- its columns

-- operands with single blanks between them take one column less than with a blank before each
joined_fits : (ts : List (List ℕ)) → length (spaced ts) ≤ 14 → length (joined ts) ≤ 13
unfolding joined
joined_fits [] h = omega arith
joined_fits (t ∷ ts) h = omega (arith, ap length (spaced_joined t ts))

pub parts_fit : (width : Width) (address word : ℕ) →
    let i = decode width word in
    Fit (hex8 address) (word_text width word) (condition_text i) (name_text width (operation_of i.opcode)) (operands_text width i)
unfolding operands_text
parts_fit width address word =
    let i = decode width word in
    record {
      address = address_fits address;
      word = word_fits width word;
      condition = condition_fits i (in_range width word).creg;
      name = name_fits width i.opcode;
      operands = joined_fits (shown_texts width i) (operands_fit width word);
    }

pub length_line : (width : Width) (address word : ℕ) → length (word_line width address word) ≡ 48
unfolding word_line
length_line width address word = length_columns _ _ _ _ _ (parts_fit width address word)
