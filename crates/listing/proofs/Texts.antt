-- Laws of the texts in a line. Assumes nothing.
use mathlib.Core.Path.{◌≡◌, refl, sym, ap, ◌∙◌}
use mathlib.Core.Bool.{true, false}
use mathlib.Core.List.{List, [], ◌∷◌, ◌++◌, append_assoc}
use Prim.Native.Nat.{ℕ, suc, ◌+◌, ◌-◌, ◌/◌, ◌%◌, ◌^◌, ◌≤◌, ◌<◌}
use native.Mathlib.Omega.{arith}
use lib.IntN.{ℤ, pos, negsuc}
use lib.ListN.{length, replicate, length-append, length-replicate}
use lib.Signed.{mag}
use mir.Syntax.{w32}
use mir.Val.{to_z, of_z}
use borrow.Author.Rules.{rules}
use Rattle.word.specs.Choice.{choose◌then◌else◌}
use Rattle.std.specs.Fmt.{signed_decimal}
use Rattle.std.proofs.lemmas.Fmt.{decimal_digit, decimal_step}
use Rattle.word.specs.Word.{word_of, signed_of}
use Rattle.word.proofs.Tests.{either}
use Rattle.word.proofs.Bounds.{word_below}
use Rattle.word.proofs.Integers.{signed_word}
use Rattle.codec.specs.Number.{put_at}
use Rattle.codec.proofs.Laws.{put_at_append}
use Rattle.isa.specs.Text.{bytes}
use Rattle.isa.specs.declared.width.Width.{Width}
use Rattle.isa.specs.declared.condition.Condition.{Condition}
use Rattle.isa.specs.declared.condition.Condition.TheVariants.{Carry, EqualOrGreater, EqualOrLess, Equal, Greater, Less, NotEqual, NoCarry}
use Rattle.isa.specs.declared.instruction.Instruction.{Instruction}
use Rattle.isa.specs.declared.form.Role.TheVariants.{Creg}
use Rattle.isa.specs.Condition.{condition_of, name_of}
use Rattle.isa.specs.Operation.{operation_of}
use Rattle.isa.specs.Shown.{has_form, shown_value}
use Rattle.isa.proofs.Rules.{mnemonic_short}
use Rattle.console.specs.Digits.{blank, places_of}
use Rattle.console.proofs.Digits.{length_digits_of, places_le, decimal_std}
use Rattle.listing.specs.Line.{integer_text, prefix_of, operand_text, joined, name_text, condition_text, padded, CONDITION_COLUMN}

-- a text that fits its columns fills them
pub length_padded : (n : ℕ) (t : List ℕ) → length t ≤ n → length (padded n t) ≡ n
unfolding padded
length_padded n t h = length-append t (replicate (n - length t) blank) ∙ omega (arith, length-replicate (n - length t) blank)

-- ---- operands

-- a number that is not negative, and how far from 0 a word can be
signed_small : (n : ℕ) → n < 2 ^ 31 → signed_of 32 n ≡ pos n
unfolding signed_of choose◌then◌else◌
signed_small n h = search rules

signed_most : (n : ℕ) → n < 2 ^ 32 → mag (signed_of 32 n) ≤ 2 ^ 31
unfolding signed_of choose◌then◌else◌
signed_most n h = search rules

-- std writes the same of a 32-bit integer
integer_std : (z : ℤ) → mag z ≤ 2 ^ 31 → signed_decimal z ≡ integer_text z
unfolding integer_text bytes
integer_std (pos n) h = rw (decimal_std n (omega arith)) refl
integer_std (negsuc n) h = rw (decimal_std (suc n) (omega arith)) refl

-- the integer of a word
signed_cast : (n : ℕ) → n < 2 ^ 32 → to_z w32 n ≡ signed_of 32 n
unfolding signed_of choose◌then◌else◌
signed_cast n h = search rules

-- what std writes of a word that is read as an integer
pub word_std : (n : ℕ) → n < 2 ^ 32 → signed_decimal (to_z w32 (of_z w32 (to_z w32 n))) ≡ integer_text (signed_of 32 n)
unfolding integer_text bytes
word_std n h =
    let e : to_z w32 (of_z w32 (to_z w32 n)) ≡ signed_of 32 n = search (rules, signed_cast n h) in
    rw e (integer_std (signed_of 32 n) (signed_most n h))

-- of one digit or two
pub one_digit : (n : ℕ) → n < 10 → integer_text (signed_of 32 n) ≡ (48 + n) ∷ []
unfolding integer_text
one_digit n h = rw (signed_small n (omega arith)) (decimal_std n (omega arith) ∙ decimal_digit n h)

pub two_digits : (n : ℕ) → 10 ≤ n → n < 100 → integer_text (signed_of 32 n) ≡ (48 + n / 10) ∷ (48 + n % 10) ∷ []
unfolding integer_text
two_digits n l h =
    rw (signed_small n (omega arith))
    (decimal_std n (omega arith) ∙ decimal_step n l (omega arith) ∙ ap (λ (t : List ℕ). t ++ (48 + n % 10) ∷ []) (decimal_digit (n / 10) (omega arith)))

-- a value that was passed on as a word
pub value_passed : (v : ℤ) → mag v < 2 ^ 31 → signed_of 32 (word_of 32 v) ≡ v
value_passed v h = signed_word 32 (omega arith) v h

-- what std writes of a value that was passed on as a word
pub operand_std : (v : ℤ) → mag v < 2 ^ 31 → signed_decimal (to_z w32 (of_z w32 (to_z w32 (word_of 32 v)))) ≡ integer_text v
operand_std v h = word_std (word_of 32 v) (word_below 32 v) ∙ ap integer_text (value_passed v h)

pub ruleset text_rules = (length-append, append_assoc)

pub ruleset operand_rules = (operand_std, value_passed, length-append, append_assoc)

-- the condition register: a prefix and a digit
pub length_creg : (i : Instruction) → i.creg < 8 → length (operand_text i Creg) ≤ 2
unfolding operand_text prefix_of bytes integer_text shown_value
length_creg i h = omega (arith, length_digits_of 10 (places_of i.creg) i.creg, places_le 9 0 i.creg (omega arith))

pub creg_small : (i : Instruction) → i.creg < 8 → mag (shown_value i Creg) < 2 ^ 31
unfolding shown_value
creg_small i h = omega arith

-- ---- names

pub condition_short : (c : Condition) → length (name_of c) ≤ 3
unfolding name_of bytes
condition_short Carry = omega arith
condition_short EqualOrGreater = omega arith
condition_short EqualOrLess = omega arith
condition_short Equal = omega arith
condition_short Greater = omega arith
condition_short Less = omega arith
condition_short NotEqual = omega arith
condition_short NoCarry = omega arith

pub name_fits : (width : Width) (n : ℕ) → length (name_text width (operation_of n)) ≤ 8
unfolding name_text bytes
name_fits width n = either (has_form width (operation_of n)) (λ e. rw e (mnemonic_short n)) (λ e. rw e (omega arith))

-- ---- the condition of an instruction, where it is conditional and where it is not

pub condition_given : (i : Instruction) → i.conditional ≡ true → condition_text i ≡ name_of (condition_of i.condition) ++ (blank ∷ operand_text i Creg)
unfolding condition_text joined
condition_given i t = rw t refl

pub condition_none : (i : Instruction) → i.conditional ≡ false → condition_text i ≡ []
unfolding condition_text
condition_none i t = rw t refl

-- the name, and the register after it
pub condition_written : (line : List ℕ) (i : Instruction) → i.conditional ≡ true → CONDITION_COLUMN ≤ length line
    → put_at (put_at line CONDITION_COLUMN (name_of (condition_of i.condition))) (CONDITION_COLUMN + length (name_of (condition_of i.condition))) (blank ∷ operand_text i Creg)
    ≡ put_at line CONDITION_COLUMN (condition_text i)
condition_written line i t h =
    put_at_append line CONDITION_COLUMN (name_of (condition_of i.condition)) (blank ∷ operand_text i Creg) h ∙ ap (λ (s : List ℕ). put_at line CONDITION_COLUMN s) (sym (condition_given i t))

pub condition_fits : (i : Instruction) → i.creg < 8 → length (condition_text i) ≤ 6
condition_fits i h =
    let name = name_of (condition_of i.condition) in
    either i.conditional
    (λ e. omega (arith, ap length (condition_given i e), length-append name (blank ∷ operand_text i Creg), condition_short (condition_of i.condition), length_creg i h))
    (λ e. omega (arith, ap length (condition_none i e)))
