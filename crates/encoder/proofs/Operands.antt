-- Each operand that is shown of a word fits the bits of its fields, and they are what its fields hold. Assumes nothing.
use mathlib.Core.Path.{◌≡◌, refl, sym, ap, ◌∙◌, subst}
use mathlib.Core.Bool.{Bool, true, false, not, ◌&&◌, true≢false}
use mathlib.Core.List.{List, [], ◌∷◌}
use Rattle.std.specs.Prelude.{Option, Some}
use Rattle.std.specs.List.{slice_get}
use Prim.Native.Nat.{ℕ, zero, suc, ◌+◌, ◌*◌, ◌^◌, ◌≤◌, ◌<◌}
use native.Mathlib.Omega.{arith}
use lib.Dec.{leb, eqb}
use lib.IntN.{ℤ, pos}
use lib.ListN.{take, drop}
use borrow.Author.Tests.{leb-true, eqb-true, not-true}
use Rattle.word.specs.Choice.{choose◌then◌else◌}
use Rattle.word.specs.Word.{Field, bits◌to◌, field_of, word_of}
use Rattle.word.proofs.Tests.{either, and_parts, if_false}
use Rattle.word.proofs.Bounds.{field_below}
use Rattle.isa.specs.declared.width.Width.{Width}
use Rattle.isa.specs.declared.width.Width.TheVariants.{Narrow, Wide}
use Rattle.isa.specs.declared.form.Form.{Form}
use Rattle.isa.specs.Operation.{operation_of, properties}
use Rattle.isa.specs.declared.form.Role.{Role}
use Rattle.isa.specs.declared.form.Role.TheVariants.{Dreg, Sreg1, Sreg2, Creg, Imm, Length, Position}
use Rattle.isa.specs.Format.{fields_width, fields_of, operation_field, conditional_field, creg_field, condition_field, Immediate, layout_of, operand_fields}
use Rattle.isa.specs.Decode.{register_of, immediate_of, operands_of, opcode_of, assembled, decode}
use Rattle.isa.specs.Shown.{shown_roles, shown_value}
use Rattle.isa.specs.Used.{shown_role, fields_for, least_of, register_reading, immediate_reading, reading_for}
use Rattle.isa.specs.Computed.{instructions}
use Rattle.isa.proofs.Fields.{fields_below}
use Rattle.isa.proofs.Table.{values, by_number}
use Rattle.isa.proofs.Rows.{immediate_fits, rows_sound}
use Rattle.isa.proofs.BitFields.{length_position}
use Rattle.encoder.specs.Encode.{value_for}
use Rattle.encoder.proofs.Values.{Held, natural_held, high_held, signed_held}

-- ---- the bits of a register, of an immediate and of its two parts

-- a register of 16-bit words has three
unfoldable register_bits : Width → List Field → Bool
register_bits Wide fs = leb (fields_width fs) 32
register_bits Narrow fs = eqb (fields_width fs) 3

register_held : (width : Width) (fs : List Field) (word : ℕ) → register_bits width fs ≡ true
    → Held (fields_width fs) (least_of (register_reading width) (fields_width fs)) (pos (register_of width fs word)) (fields_of fs word)
unfolding register_bits register_of register_reading fields_width
register_held Wide fs word e = natural_held (fields_width fs) (fields_of fs word) (leb-true _ _ e) (fields_below fs word)
register_held Narrow [] word e = absurd (true≢false (sym e))
register_held Narrow (f ∷ fs) word e =
    let n = fields_of (f ∷ fs) word in
    let three : fields_width (f ∷ fs) ≡ 3 = eqb-true _ _ e in
    let b : n < 2 ^ 3 = subst (λ (k : ℕ). n < 2 ^ k) three (fields_below (f ∷ fs) word) in
    subst (λ (k : ℕ). Held k (least_of (register_reading Narrow) k) (pos (register_of Narrow (f ∷ fs) word)) n) (sym three) (high_held n b)

immediate_held : (i : Immediate) (word : ℕ) → immediate_fits i ≡ true
    → Held (fields_width i.fields) (least_of (immediate_reading i) (fields_width i.fields)) (immediate_of i word) (fields_of i.fields word)
unfolding immediate_fits immediate_of immediate_reading choose◌then◌else◌
immediate_held i word e =
    let k = fields_width i.fields in
    let n = fields_of i.fields word in
    either i.signed
    (λ s.
    let t = and_parts _ _ (rw s at e) in
    let l : 1 ≤ k = leb-true 1 k t.0 in
    let h : k ≤ 25 = leb-true k 25 t.1 in
    rw s (signed_held k n l (omega arith) (fields_below i.fields word)))
    (λ s.
    let h : k ≤ 24 = leb-true k 24 (rw s at e) in
    rw s (natural_held k n (omega arith) (fields_below i.fields word)))

-- an immediate in two parts, of six bits and of five
unfoldable two_parts : List Field → Bool
two_parts [] = false
two_parts (f ∷ []) = false
two_parts (f ∷ g ∷ []) = eqb f.width 6 && eqb g.width 5
two_parts (f ∷ g ∷ h ∷ fs) = false

unfoldable part_bits : Immediate → Bool
part_bits i = not i.signed && two_parts i.fields

natural_immediate : (i : Immediate) (word : ℕ) → not i.signed ≡ true → immediate_of i word ≡ pos (fields_of i.fields word)
unfolding immediate_of
natural_immediate i word e = if_false i.signed _ _ (not-true i.signed e)

-- the parts of what they hold
record Parts (fs : List Field) (word : ℕ) : Type 0 where
  above : field_of (bits 10 to 5) (word_of 32 (pos (fields_of fs word))) ≡ fields_of (take 1 fs) word
  low : field_of (bits 4 to 0) (word_of 32 (pos (fields_of fs word))) ≡ fields_of (drop 1 fs) word
  above_short : fields_width (take 1 fs) ≤ 32
  low_short : fields_width (drop 1 fs) ≤ 32

two_parts_law : (fs : List Field) (word : ℕ) → two_parts fs ≡ true → Parts fs word
unfolding two_parts fields_of fields_width
two_parts_law [] word e = absurd (true≢false (sym e))
two_parts_law (f ∷ []) word e = absurd (true≢false (sym e))
two_parts_law (f ∷ g ∷ []) word e =
    let t = and_parts _ _ e in
    let six : f.width ≡ 6 = eqb-true _ _ t.0 in
    let five : g.width ≡ 5 = eqb-true _ _ t.1 in
    let x = field_of f word in
    let y = field_of g word in
    let h : x < 2 ^ 6 = subst (λ (k : ℕ). x < 2 ^ k) six (field_below f word) in
    let l : y < 2 ^ 5 = subst (λ (k : ℕ). y < 2 ^ k) five (field_below g word) in
    let p = length_position x y h l in
    let whole : x * 2 ^ (g.width + 0) + (y * 2 ^ 0 + 0) ≡ x * 32 + y = ap (λ (k : ℕ). x * 2 ^ (k + 0) + (y * 2 ^ 0 + 0)) five ∙ omega arith in
    record {
      above = ap (λ (n : ℕ). field_of (bits 10 to 5) (word_of 32 (pos n))) whole ∙ p.0 ∙ omega arith;
      low = ap (λ (n : ℕ). field_of (bits 4 to 0) (word_of 32 (pos n))) whole ∙ p.1 ∙ omega arith;
      above_short = omega arith;
      low_short = omega arith;
    }
two_parts_law (f ∷ g ∷ h ∷ fs) word e = absurd (true≢false (sym e))

-- ---- by role

unfoldable readable : Width → Form → Role → Bool
readable width form Dreg = register_bits width (layout_of width form).dreg
readable width form Sreg1 = register_bits width (layout_of width form).sreg1
readable width form Sreg2 = register_bits width (layout_of width form).sreg2
readable width form Creg = true
readable width form Imm = true
readable width form Length = part_bits (layout_of width form).immediate
readable width form Position = part_bits (layout_of width form).immediate

unfoldable all_readable : Width → Form → List Role → Bool
all_readable width form [] = true
all_readable width form (r ∷ rs) = readable width form r && all_readable width form rs

-- so it is of the operands that are shown of every word, computed
rows_readable : (width : Width) (n : ℕ) → all_readable width (properties (operation_of n)).form (shown_roles width (operation_of n)) ≡ true
unfolding instructions values register_bits two_parts part_bits readable all_readable
rows_readable width = by_number (λ o. all_readable width (properties o).form (shown_roles width o)) (λ n. true) (computed width) (λ n h. refl)
  where
    computed : (width : Width) → values (λ n. all_readable width (properties (operation_of n)).form (shown_roles width (operation_of n))) 0 64 ≡ values (λ n. true) 0 64
    computed Narrow = refl
    computed Wide = refl

-- a natural number that is what pieces hold
pub field_held : (fs : List Field) (word n : ℕ) → n ≡ fields_of fs word → fields_width fs ≤ 32 → Held (fields_width fs) (pos 0) (pos n) (fields_of fs word)
unfolding least_of
field_held fs word n e h = rw e (natural_held (fields_width fs) (fields_of fs word) h (fields_below fs word))

-- the fields of every word are short
pub record Short (width : Width) : Type 0 where
  pub operation : fields_width (operation_field width) ≤ 32
  pub conditional : fields_width (conditional_field width) ≤ 1
  pub creg : fields_width (creg_field width) ≤ 32
  pub condition : fields_width (condition_field width) ≤ 32

pub short : (width : Width) → Short width
unfolding fields_width operation_field conditional_field creg_field condition_field
short Narrow = record { operation = omega arith; conditional = omega arith; creg = omega arith; condition = omega arith }
short Wide = record { operation = omega arith; conditional = omega arith; creg = omega arith; condition = omega arith }

module _ (width : Width) (word : ℕ) where
  abbrev form : Form
  form = (properties (operation_of (opcode_of width word))).form

  -- an operand's value fits its fields, and its bits are what they hold
  abbrev HeldFor : Option Role → Type 0
  HeldFor r =
      let fs = fields_for width form r in
      Held (fields_width fs) (least_of (reading_for width form r) (fields_width fs)) (value_for (decode width word) r) (fields_of fs word)

  role_held : (r : Role) → readable width form r ≡ true → HeldFor (Some r)
  unfolding readable part_bits fields_for operand_fields reading_for value_for shown_value least_of decode assembled operands_of
  role_held Dreg e = register_held width (layout_of width form).dreg word e
  role_held Sreg1 e = register_held width (layout_of width form).sreg1 word e
  role_held Sreg2 e = register_held width (layout_of width form).sreg2 word e
  role_held Creg e = field_held (creg_field width) word (fields_of (creg_field width) word) refl (short width).creg
  role_held Imm e = immediate_held (layout_of width form).immediate word (rows_sound width (opcode_of width word)).immediate
  role_held Length e =
      let i = (layout_of width form).immediate in
      let t = and_parts _ _ e in
      let p = two_parts_law i.fields word t.1 in
      field_held (take 1 i.fields) word _ (ap (λ (z : ℤ). field_of (bits 10 to 5) (word_of 32 z)) (natural_immediate i word t.0) ∙ p.above) p.above_short
  role_held Position e =
      let i = (layout_of width form).immediate in
      let t = and_parts _ _ e in
      let p = two_parts_law i.fields word t.1 in
      field_held (drop 1 i.fields) word _ (ap (λ (z : ℤ). field_of (bits 4 to 0) (word_of 32 z)) (natural_immediate i word t.0) ∙ p.low) p.low_short

  at : (rs : List Role) (k : ℕ) → all_readable width form rs ≡ true → HeldFor (slice_get rs k)
  unfolding all_readable fields_for reading_for value_for fields_width fields_of
  at [] k e = natural_held 0 0 (omega arith) (omega arith)
  at (r ∷ rs) zero e = role_held r (and_parts (readable width form r) (all_readable width form rs) e).0
  at (r ∷ rs) (suc k) e = at rs k (and_parts (readable width form r) (all_readable width form rs) e).1

  -- operand k of a word
  pub operand_held : (k : ℕ) → HeldFor (shown_role width (operation_of (opcode_of width word)) k)
  operand_held k = at (shown_roles width (operation_of (opcode_of width word))) k (rows_readable width (opcode_of width word))
