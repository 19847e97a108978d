-- An instruction word from its operation, condition and operands (Manual 12). Assumes nothing.
use Rattle.std.specs.Prelude.{Bool, true, false, not, ◌&&◌, ◌||◌, Option, Some, None, Result, Ok, Err, List, [], ◌∷◌, ◌++◌, ℕ, ◌+◌, ◌^◌, leb, ltb, ℤ, pos, negsuc, ◌-ℤ◌, slice_index_or}
use Rattle.word.specs.Choice.{choose◌then◌else◌}
use Rattle.word.specs.Word.{Field, word_of}
use Rattle.isa.specs.declared.operation.Operation.{Operation}
use Rattle.isa.specs.declared.width.Width.{Width}
use Rattle.isa.specs.Operation.{operation_of, properties}
use Rattle.isa.specs.declared.form.Role.{Role}
use Rattle.isa.specs.Format.{fields_width, placed_in, operation_field, conditional_field, creg_field, condition_field}
use Rattle.isa.specs.Decode.{decode}
use Rattle.isa.specs.Shown.{has_form, shown_value}
use Rattle.isa.specs.Used.{shown_role, shown_fields, least_of, shown_reading}
use Rattle.isa.specs.declared.instruction.Instruction.{Instruction}
use Rattle.machine.specs.Refusal.{number_of}
use Rattle.machine.specs.declared.refusal.Refusal.{Refusal}
use Rattle.encoder.specs.declared.Guard.{Guard}
use Rattle.encoder.specs.declared.Choice as code

-- ---- what is chosen

-- an operation by its number, a condition, as in `egt C7`, and the operands in the order in which a listing shows them, 0 for each that there is not
pub record Choice : Type 0 where
  pub operation : ℕ
  pub guard : Option Guard
  pub first : ℤ
  pub second : ℤ
  pub third : ℤ
  pub fourth : ℤ

-- the same as the code has it
abbrev pub chosen : code.Choice → Choice
chosen c =
    record {
      operation = c.operation;
      guard = c.condition;
      first = slice_index_or c.operands 0 (pos 0);
      second = slice_index_or c.operands 1 (pos 0);
      third = slice_index_or c.operands 2 (pos 0);
      fourth = slice_index_or c.operands 3 (pos 0);
    }

-- a condition in numbers; without one, creg and condition are no part of it
unfoldable pub guard_by : (conditional : Bool) (creg condition : ℕ) → Option Guard
guard_by conditional creg condition = choose conditional then Some (record { creg = creg; condition = condition }) else None

-- ---- the choice that a word is read as

-- the condition of an instruction that is conditional
unfoldable pub guard_of : Instruction → Option Guard
guard_of i = guard_by i.conditional i.creg i.condition

-- the value of an operand, where there is one
unfoldable pub value_for : Instruction → Option Role → ℤ
value_for i None = pos 0
value_for i (Some r) = shown_value i r

-- of operand k, from 0 on
abbrev pub value_at : Width → Instruction → (k : ℕ) → ℤ
value_at width i k = value_for i (shown_role width (operation_of i.opcode) k)

unfoldable pub choice_of : Width → (word : ℕ) → Choice
choice_of width word =
    let i = decode width word in
    record {
      operation = i.opcode;
      guard = guard_of i;
      first = value_at width i 0;
      second = value_at width i 1;
      third = value_at width i 2;
      fourth = value_at width i 3;
    }

-- ---- the parts of a word

-- a number that is written into the pieces of a word, and the least number that they can hold
pub record Part : Type 0 where
  pub fields : List Field
  pub least : ℤ
  pub number : ℤ

abbrev pub natural : List Field → (n : ℕ) → Part
natural fs n = record { fields = fs; least = pos 0; number = pos n }

-- the condition's: a conditional bit where the operation may be conditional; register and number of a condition that is given
unfoldable pub guard_parts : Width → Operation → Option Guard → List Part
guard_parts width o None = choose (properties o).conditional then natural (conditional_field width) 0 ∷ [] else []
guard_parts width o (Some g) = natural (conditional_field width) 1 ∷ natural (creg_field width) g.creg ∷ natural (condition_field width) g.condition ∷ []

-- operand k; an absent one has no bits
abbrev pub operand_part : Width → Operation → (k : ℕ) → ℤ → Part
operand_part width o k z =
    let fs = shown_fields width o k in
    record { fields = fs; least = least_of (shown_reading width o k) (fields_width fs); number = z }

unfoldable pub parts_of : Width → Choice → List Part
parts_of width c =
    let o = operation_of c.operation in
    natural (operation_field width) c.operation
    ∷ guard_parts width o c.guard
    ++ (operand_part width o 0 c.first
    ∷ operand_part width o 1 c.second
    ∷ operand_part width o 2 c.third
    ∷ operand_part width o 3 c.fourth
    ∷ [])

-- ---- the word

-- z is one of 0 to m - 1
unfoldable pub is_below : (m : ℕ) (z : ℤ) → Bool
is_below m (pos n) = ltb n m
is_below m (negsuc n) = false

-- z is one of the 2 ^ k numbers from `least` on; of no bits only `least` itself
unfoldable pub fits : (k : ℕ) (least z : ℤ) → Bool
fits k least z = is_below (2 ^ k) (z -ℤ least)

-- a part, and every one of some
unfoldable pub part_fits : Part → Bool
part_fits p = fits (fields_width p.fields) p.least p.number

unfoldable pub all_fit : List Part → Bool
all_fit [] = true
all_fit (p ∷ ps) = part_fits p && all_fit ps

-- the word with the lowest bits of every number in its pieces: a negative one in two's complement, and of register 24 + n those of n; ignored
-- bits are 0
unfoldable pub written : List Part → ℕ
written [] = 0
written (p ∷ ps) = placed_in p.fields (word_of 32 p.number) + written ps

-- a condition is given
unfoldable pub given : Option Guard → Bool
given None = false
given (Some g) = true

-- the operation may be conditional, and words of this width have a conditional bit
unfoldable pub conditional_form : Width → Operation → Bool
conditional_form width o = (properties o).conditional && leb 1 (fields_width (conditional_field width))

-- an operation, by its number, has this form in this width, with or without a condition
unfoldable pub chosen_form : Width → (operation : ℕ) (conditional : Bool) → Bool
chosen_form width n conditional = (ltb n 64 && has_form width (operation_of n)) && (not conditional || conditional_form width (operation_of n))

-- what is answered
pub data Encoding : Type 0 where
  Encodes : (word : ℕ) → Encoding
  RefusedWith : (number : ℕ) → Encoding

-- the code's answer, a refusal by its number
unfoldable pub encoding_of : Result ℕ Refusal → Encoding
encoding_of (Ok w) = Encodes w
encoding_of (Err why) = RefusedWith (number_of why)

-- 18 where the operation has no such form in the width, or no conditional form and a condition is given, asked first; 19 where an operand or a
-- part of the condition does not fit its bits, or an operand has none and is not 0
unfoldable pub encode_of : Width → Choice → Encoding
encode_of width c =
    choose not (chosen_form width c.operation (given c.guard)) then RefusedWith 18
    else choose not (all_fit (parts_of width c)) then RefusedWith 19
    else Encodes (written (parts_of width c))

-- to unfold all of these
unfoldable pub encoding : Unit {0}
unfolding guard_by guard_of value_for choice_of guard_parts parts_of is_below fits part_fits all_fit written given conditional_form chosen_form encoding_of encode_of
encoding = tt
