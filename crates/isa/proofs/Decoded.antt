-- The fields of a decoded instruction are in range, and the length of a word. Assumes nothing.
use mathlib.Core.Path.{◌≡◌, refl}
use mathlib.Core.Logic.{◌⊎◌, inl, inr}
use mathlib.Core.Bool.{true}
use mathlib.Core.List.{List, [], ◌∷◌}
use Prim.Native.Nat.{ℕ, ◌^◌, ◌≤◌, ◌<◌}
use native.Mathlib.Nat.{lt_of_lt_of_le}
use native.Mathlib.Omega.{arith}
use borrow.Author.Tests.{leb-true}
use lib.Pow.{pow_mono}
use lib.Signed.{mag}
use Rattle.word.specs.Choice.{choose◌then◌else◌}
use Rattle.word.specs.Word.{Field}
use Rattle.word.proofs.Tests.{either, and_parts}
use Rattle.word.proofs.Integers.{signed_range}
use Rattle.isa.specs.declared.width.Width.{Width}
use Rattle.isa.specs.declared.width.Width.TheVariants.{Narrow, Wide}
use Rattle.isa.specs.Format.{fields_width, fields_of, operation_field, creg_field, condition_field, Immediate}
use Rattle.isa.specs.Decode.{word_bytes, register_of, immediate_of, operands_of, opcode_of, assembled, decode}
use Rattle.isa.specs.Theorems.{NarrowRegisters}
use Rattle.isa.specs.declared.instruction.Instruction.{Instruction}
use Rattle.isa.proofs.Fields.{fields_below}
use Rattle.isa.proofs.Rows.{register_width, immediate_fits, rows_sound}

-- what pieces of at most k bits hold
fields_short : (k : ℕ) (fs : List Field) (word : ℕ) → fields_width fs ≤ k → fields_of fs word < 2 ^ k
fields_short k fs word h = lt_of_lt_of_le (fields_below fs word) (pow_mono h)

register_below : (width : Width) (fs : List Field) (word : ℕ) → fields_width fs ≤ register_width width → register_of width fs word < 32
unfolding register_of register_width
register_below Wide fs word h = fields_short 5 fs word h
register_below Narrow [] word h = omega arith
register_below Narrow (f ∷ fs) word h = let l = fields_short 3 (f ∷ fs) word h in omega arith

-- one that is there is 24 or more in 16-bit words
pub register_there : (f : Field) (fs : List Field) (word : ℕ) → 24 ≤ register_of Narrow (f ∷ fs) word
unfolding register_of
register_there f fs word = omega arith

register_high : (fs : List Field) (word : ℕ) → (register_of Narrow fs word ≡ 0) ⊎ (24 ≤ register_of Narrow fs word)
unfolding register_of
register_high [] word = inl refl
register_high (f ∷ fs) word = inr (register_there f fs word)

immediate_below : (i : Immediate) (word : ℕ) → immediate_fits i ≡ true → mag (immediate_of i word) < 2 ^ 24
unfolding immediate_fits immediate_of choose◌then◌else◌
immediate_below i word e =
    let k = fields_width i.fields in
    either i.signed
    (λ s.
    let t = and_parts _ _ (rw s at e) in
    let l : 1 ≤ k = leb-true 1 k t.0 in
    let h : k ≤ 25 = leb-true k 25 t.1 in
    rw s (lt_of_lt_of_le (signed_range k l (fields_of i.fields word) (fields_below i.fields word)) (pow_mono {j = 24} (omega arith))))
    (λ s. rw s (fields_short 24 i.fields word (leb-true k 24 (rw s at e))))

pub record InRange (i : Instruction) : Type 0 where
  pub opcode : i.opcode < 64
  pub creg : i.creg < 8
  pub condition : i.condition < 8
  pub dreg : i.dreg < 32
  pub sreg1 : i.sreg1 < 32
  pub sreg2 : i.sreg2 < 32
  pub immediate : mag i.immediate < 2 ^ 24

-- at most six bits are an operation's, and three a condition's
heads : (width : Width) → (fields_width (operation_field width) ≤ 6) × (fields_width (creg_field width) ≤ 3) × (fields_width (condition_field width) ≤ 3)
unfolding operation_field creg_field condition_field fields_width
heads Narrow = (omega arith, omega arith, omega arith)
heads Wide = (omega arith, omega arith, omega arith)

-- 64 operations
pub opcode_below : (width : Width) (word : ℕ) → opcode_of width word < 64
unfolding opcode_of
opcode_below width word = fields_short 6 (operation_field width) word (heads width).0

pub in_range : (width : Width) (word : ℕ) → InRange (decode width word)
unfolding decode assembled operands_of
in_range width word =
    let row = rows_sound width (opcode_of width word) in
    record {
      opcode = opcode_below width word;
      creg = fields_short 3 (creg_field width) word (heads width).1;
      condition = fields_short 3 (condition_field width) word (heads width).2;
      dreg = register_below width _ word row.dreg;
      sreg1 = register_below width _ word row.sreg1;
      sreg2 = register_below width _ word row.sreg2;
      immediate = immediate_below _ word row.immediate;
    }

pub narrow_registers : NarrowRegisters
unfolding decode assembled operands_of
narrow_registers word = record { dreg = register_high _ word; sreg1 = register_high _ word; sreg2 = register_high _ word }

-- ---- the length of a word

pub bytes_positive : (width : Width) → 0 < word_bytes width
unfolding word_bytes
bytes_positive Narrow = omega arith
bytes_positive Wide = omega arith

pub bytes_most : (width : Width) → word_bytes width ≤ 4
unfolding word_bytes
bytes_most Narrow = omega arith
bytes_most Wide = omega arith
