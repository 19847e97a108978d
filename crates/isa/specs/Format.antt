-- Where the fields of an instruction word stand, and which operands a listing shows (Manual 2; COFFEE Core user manual (July 2007), section 6.2).
-- Assumes nothing.
use Rattle.std.specs.Prelude.{Bool, true, false, ◌&&◌, ◌||◌, List, [], ◌∷◌, ℕ, ◌+◌, ◌-◌, ◌*◌, ◌/◌, ◌%◌, ◌^◌, leb, ltb, take, drop}
use Rattle.word.specs.Word.{Field, bits◌to◌, field_of}
use Rattle.isa.specs.declared.width.Width.{Width}
use Rattle.isa.specs.declared.width.Width.TheVariants.{Narrow, Wide}
use Rattle.isa.specs.declared.form.Role.{Role}
use Rattle.isa.specs.declared.form.Role.TheVariants.{Dreg, Sreg1, Sreg2, Creg, Imm, Length, Position}
use Rattle.isa.specs.declared.form.Form.{Form}
use Rattle.isa.specs.declared.form.Form.TheVariants.{NoOperands, ThreeRegisters, ReversedRegisters, TwoRegisters, Destination, Source, CompareRegisters, CompareImmediate, SignedImmediate, UnsignedImmediate, Count, BitField, Memory, Halfword, Jump, Branch, LowBits}

-- ---- fields in pieces: the first piece above the others. No pieces: there is no such field, and it reads 0

-- how many bits the pieces are
unfoldable pub fields_width : List Field → ℕ
fields_width [] = 0
fields_width (f ∷ fs) = f.width + fields_width fs

-- the number that the pieces hold in a word
unfoldable pub fields_of : List Field → (word : ℕ) → ℕ
fields_of [] word = 0
fields_of (f ∷ fs) word = field_of f word * 2 ^ fields_width fs + fields_of fs word

-- the word with a number in the pieces, its lowest bits in the last one, and zeros elsewhere
unfoldable pub placed_in : List Field → (n : ℕ) → ℕ
placed_in [] n = 0
placed_in (f ∷ fs) n = n / 2 ^ fields_width fs % 2 ^ f.width * 2 ^ f.place + placed_in fs n

-- a word with zeros outside the pieces
unfoldable pub kept_in : List Field → (word : ℕ) → ℕ
kept_in [] word = 0
kept_in (f ∷ fs) word = field_of f word * 2 ^ f.place + kept_in fs word

-- bit n is one of the pieces'
unfoldable pub has_bit : (n : ℕ) → List Field → Bool
has_bit n [] = false
has_bit n (f ∷ fs) = (leb f.place n && ltb n (f.place + f.width)) || has_bit n fs

-- all pieces lie below bit k
unfoldable pub lie_below : (k : ℕ) → List Field → Bool
lie_below k [] = true
lie_below k (f ∷ fs) = leb (f.place + f.width) k && lie_below k fs

-- two share no bit
unfoldable pub disjoint : Field → Field → Bool
disjoint f g = leb (f.place + f.width) g.place || leb (g.place + g.width) f.place

unfoldable pub disjoint_from : Field → List Field → Bool
disjoint_from f [] = true
disjoint_from f (g ∷ gs) = disjoint f g && disjoint_from f gs

-- no two of a list share a bit
unfoldable pub separate : List Field → Bool
separate [] = true
separate (f ∷ fs) = disjoint_from f fs && separate fs

-- ---- fields of every word of a width

unfoldable pub operation_field : Width → List Field
operation_field Wide = bits 31 to 26 ∷ []
operation_field Narrow = bits 15 to 10 ∷ []

-- the conditional bit
unfoldable pub conditional_field : Width → List Field
conditional_field Wide = bits 25 to 25 ∷ []
conditional_field Narrow = []

-- the condition register: tested by a conditional operation or a branch, written by cmp and cmpi; in 16-bit words always C0
unfoldable pub creg_field : Width → List Field
creg_field Wide = bits 24 to 22 ∷ []
creg_field Narrow = []

unfoldable pub condition_field : Width → List Field
condition_field Wide = bits 21 to 19 ∷ []
condition_field Narrow = []

-- ---- operands

pub record Immediate : Type 0 where
  pub signed : Bool
  pub fields : List Field

-- the fields of the operands by role (creg's are creg_field), and the operands in the order in which the core's manual writes them, each field once
pub record Layout : Type 0 where
  pub dreg : List Field
  pub sreg1 : List Field
  pub sreg2 : List Field
  pub immediate : Immediate
  pub shown : List Role

abbrev signed : List Field → Immediate
signed fs = record { signed = true; fields = fs }

abbrev unsigned : List Field → Immediate
unsigned fs = record { signed = false; fields = fs }

abbrev absent : Immediate
absent = unsigned []

abbrev layout : (dreg sreg1 sreg2 : List Field) → Immediate → (shown : List Role) → Layout
layout d s₁ s₂ i l = record { dreg = d; sreg1 = s₁; sreg2 = s₂; immediate = i; shown = l }

-- 32-bit words
abbrev d : List Field
d = bits 14 to 10 ∷ []

abbrev s₁ : List Field
s₁ = bits 9 to 5 ∷ []

abbrev s₂ : List Field
s₂ = bits 4 to 0 ∷ []

-- a 9-bit immediate is bits 18..15 above bits 4..0
abbrev imm9 : List Field
imm9 = bits 18 to 15 ∷ bits 4 to 0 ∷ []

-- 16-bit words
abbrev sr : List Field
sr = bits 5 to 3 ∷ []

abbrev dr : List Field
dr = bits 2 to 0 ∷ []

abbrev imm7 : List Field
imm7 = bits 9 to 3 ∷ []

-- both
abbrev low : ℕ → List Field
low n = bits n - 1 to 0 ∷ []

-- dreg, sreg1, sreg2, immediate; shown.
-- 16-bit: the first source is sr, the second is dr; with an immediate, but for ld and st, dr is source and target
unfoldable pub layout_of : Width → Form → Layout
layout_of Wide NoOperands = layout [] [] [] absent []
layout_of Wide ThreeRegisters = layout d s₁ s₂ absent (Dreg ∷ Sreg1 ∷ Sreg2 ∷ [])
layout_of Wide ReversedRegisters = layout d s₁ s₂ absent (Dreg ∷ Sreg2 ∷ Sreg1 ∷ [])
layout_of Wide TwoRegisters = layout d s₁ [] absent (Dreg ∷ Sreg1 ∷ [])
layout_of Wide Destination = layout d [] [] absent (Dreg ∷ [])
layout_of Wide Source = layout [] s₁ [] absent (Sreg1 ∷ [])
layout_of Wide CompareRegisters = layout [] s₁ s₂ absent (Creg ∷ Sreg1 ∷ Sreg2 ∷ [])
layout_of Wide CompareImmediate = layout [] s₁ [] (signed imm9) (Creg ∷ Sreg1 ∷ Imm ∷ [])
layout_of Wide SignedImmediate = layout d s₁ [] (signed imm9) (Dreg ∷ Sreg1 ∷ Imm ∷ [])
layout_of Wide UnsignedImmediate = layout d s₁ [] (unsigned imm9) (Dreg ∷ Sreg1 ∷ Imm ∷ [])
layout_of Wide (Count n) = layout d s₁ [] (unsigned (low n)) (Dreg ∷ Sreg1 ∷ Imm ∷ [])
layout_of Wide BitField = layout d s₁ [] (unsigned (bits 24 to 19 ∷ bits 4 to 0 ∷ [])) (Dreg ∷ Sreg1 ∷ Length ∷ Position ∷ [])
layout_of Wide Memory = layout d s₁ [] (signed imm9) (Dreg ∷ Sreg1 ∷ Imm ∷ [])
layout_of Wide Halfword = layout (bits 20 to 16 ∷ []) [] [] (unsigned (bits 15 to 0 ∷ [])) (Dreg ∷ Imm ∷ [])
layout_of Wide Jump = layout [] [] [] (signed (bits 24 to 0 ∷ [])) (Imm ∷ [])
layout_of Wide Branch = layout [] [] [] (signed (bits 21 to 0 ∷ [])) (Creg ∷ Imm ∷ [])
layout_of Wide (LowBits n) = layout [] [] [] (unsigned (low n)) (Imm ∷ [])
layout_of Narrow NoOperands = layout [] [] [] absent []
layout_of Narrow ThreeRegisters = layout dr sr dr absent (Dreg ∷ Sreg1 ∷ [])
layout_of Narrow ReversedRegisters = layout dr sr dr absent (Dreg ∷ Sreg1 ∷ [])
layout_of Narrow TwoRegisters = layout dr sr [] absent (Dreg ∷ Sreg1 ∷ [])
layout_of Narrow Destination = layout dr [] [] absent (Dreg ∷ [])
layout_of Narrow Source = layout [] sr [] absent (Sreg1 ∷ [])
layout_of Narrow CompareRegisters = layout [] sr dr absent (Sreg1 ∷ Sreg2 ∷ [])
layout_of Narrow CompareImmediate = layout [] dr [] (signed imm7) (Sreg1 ∷ Imm ∷ [])
layout_of Narrow SignedImmediate = layout dr dr [] (signed imm7) (Dreg ∷ Imm ∷ [])
layout_of Narrow UnsignedImmediate = layout dr dr [] (unsigned imm7) (Dreg ∷ Imm ∷ [])
layout_of Narrow (Count n) = layout dr dr [] (unsigned (bits n + 2 to 3 ∷ [])) (Dreg ∷ Imm ∷ [])
layout_of Narrow BitField = layout [] [] [] absent []
layout_of Narrow Memory = layout dr sr [] (signed (bits 9 to 6 ∷ [])) (Dreg ∷ Sreg1 ∷ Imm ∷ [])
layout_of Narrow Halfword = layout [] [] [] absent []
layout_of Narrow Jump = layout [] [] [] (signed (bits 9 to 0 ∷ [])) (Imm ∷ [])
layout_of Narrow Branch = layout [] [] [] (signed (bits 9 to 0 ∷ [])) (Imm ∷ [])
layout_of Narrow (LowBits n) = layout [] [] [] (unsigned (low n)) (Imm ∷ [])

-- the fields of an operand
unfoldable pub operand_fields : Width → Form → Role → List Field
operand_fields width form Dreg = (layout_of width form).dreg
operand_fields width form Sreg1 = (layout_of width form).sreg1
operand_fields width form Sreg2 = (layout_of width form).sreg2
operand_fields width form Creg = creg_field width
operand_fields width form Imm = (layout_of width form).immediate.fields
operand_fields width form Length = take 1 (layout_of width form).immediate.fields
operand_fields width form Position = drop 1 (layout_of width form).immediate.fields

-- to unfold all of these
unfoldable pub formats : Unit {0}
unfolding fields_width fields_of placed_in kept_in has_bit lie_below disjoint disjoint_from separate operation_field conditional_field creg_field condition_field layout_of operand_fields
formats = tt
