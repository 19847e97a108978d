-- A word with its ignored bits 0: it is read alike, and its bits. Assumes nothing.
use mathlib.Core.Path.{◌≡◌, refl, sym, ap, ◌∙◌, subst}
use mathlib.Core.Bool.{Bool, true, ◌&&◌, and-false}
use mathlib.Core.List.{List, [], ◌∷◌, ◌++◌}
use Prim.Native.Nat.{ℕ, ◌+◌}
use lib.Dec.{eqb}
use lib.IntN.{pos}
use Rattle.word.specs.Choice.{choose◌then◌else◌}
use Rattle.word.specs.Word.{Field, signed_of}
use Rattle.word.proofs.Tests.{either, and_parts, and_both}
use Rattle.isa.specs.declared.operation.Operation.{Operation}
use Rattle.isa.specs.declared.width.Width.{Width}
use Rattle.isa.specs.declared.width.Width.TheVariants.{Narrow, Wide}
use Rattle.isa.specs.Operation.{operation_of, properties}
use Rattle.isa.specs.Format.{fields_width, fields_of, operation_field, conditional_field, creg_field, condition_field, Immediate, Layout, layout_of}
use Rattle.isa.specs.Decode.{register_of, immediate_of, operands_of, opcode_of, assembled, decode}
use Rattle.isa.specs.Used.{guard_fields, used_fields, cleared}
use Rattle.isa.specs.Theorems.{ClearedRead, ClearedBit}
use Rattle.isa.proofs.Rows.{is_one, are_among, read_fields, rows_sound}
use Rattle.isa.proofs.Pieces.{kept_bit, kept_fields}

among_append : (fs gs hs : List Field) → are_among (fs ++ gs) hs ≡ true → (are_among fs hs ≡ true) × (are_among gs hs ≡ true)
unfolding are_among
among_append [] gs hs e = (refl, e)
among_append (f ∷ fs) gs hs e =
    let t = and_parts (is_one f hs) (are_among (fs ++ gs) hs) e in
    let r = among_append fs gs hs t.1 in
    (and_both (is_one f hs) (are_among fs hs) t.0 r.0, r.1)

-- a register and an immediate, by what their pieces hold
register_same : (width : Width) (fs : List Field) (word other : ℕ) → fields_of fs word ≡ fields_of fs other → register_of width fs word ≡ register_of width fs other
unfolding register_of
register_same Wide fs word other e = e
register_same Narrow [] word other e = refl
register_same Narrow (f ∷ fs) word other e = ap (λ (n : ℕ). n + 24) e

immediate_same : (i : Immediate) (word other : ℕ) → fields_of i.fields word ≡ fields_of i.fields other → immediate_of i word ≡ immediate_of i other
unfolding immediate_of
immediate_same i word other e = ap (λ (n : ℕ). choose i.signed then signed_of (fields_width i.fields) n else pos n) e

module _ (width : Width) (word : ℕ) where
  abbrev o : Operation
  o = operation_of (opcode_of width word)

  abbrev l : Layout
  l = layout_of width (properties o).form

  abbrev given : Bool
  given = (decode width word).conditional

  abbrev fs : List Field
  fs = used_fields width o given

  -- what some of the pieces used hold
  kept : (gs : List Field) → are_among gs fs ≡ true → fields_of gs (cleared width word) ≡ fields_of gs word
  unfolding cleared decode assembled
  kept gs e = kept_fields gs fs word ((rows_sound width (opcode_of width word)).used given).apart e

  among : are_among (operation_field width ++ (guard_fields width o given ++ (l.dreg ++ (l.sreg1 ++ (l.sreg2 ++ l.immediate.fields))))) fs ≡ true
  unfolding read_fields
  among = ((rows_sound width (opcode_of width word)).used given).read

  abbrev operands : List Field
  operands = l.dreg ++ (l.sreg1 ++ (l.sreg2 ++ l.immediate.fields))

  after_operation : (are_among (operation_field width) fs ≡ true) × (are_among (guard_fields width o given ++ operands) fs ≡ true)
  after_operation = among_append (operation_field width) (guard_fields width o given ++ operands) fs among

  after_guard : (are_among (guard_fields width o given) fs ≡ true) × (are_among operands fs ≡ true)
  after_guard = among_append (guard_fields width o given) operands fs after_operation.1

  after_dreg : (are_among l.dreg fs ≡ true) × (are_among (l.sreg1 ++ (l.sreg2 ++ l.immediate.fields)) fs ≡ true)
  after_dreg = among_append l.dreg (l.sreg1 ++ (l.sreg2 ++ l.immediate.fields)) fs after_guard.1

  after_sreg1 : (are_among l.sreg1 fs ≡ true) × (are_among (l.sreg2 ++ l.immediate.fields) fs ≡ true)
  after_sreg1 = among_append l.sreg1 (l.sreg2 ++ l.immediate.fields) fs after_dreg.1

  after_sreg2 : (are_among l.sreg2 fs ≡ true) × (are_among l.immediate.fields fs ≡ true)
  after_sreg2 = among_append l.sreg2 l.immediate.fields fs after_sreg1.1

  opcode_same : opcode_of width (cleared width word) ≡ opcode_of width word
  unfolding opcode_of
  opcode_same = kept (operation_field width) after_operation.0

  -- the condition's fields, where the operation may be conditional
  guard_among : (properties o).conditional ≡ true → (g : Bool) → given ≡ g
      → are_among (conditional_field width ++ (choose g then creg_field width ++ condition_field width else [])) fs ≡ true
  unfolding guard_fields choose◌then◌else◌
  guard_among t g e =
      subst (λ (b : Bool). are_among (conditional_field width ++ (choose b then creg_field width ++ condition_field width else [])) fs ≡ true) e (rw t at after_guard.0)

  conditional_same : (decode width (cleared width word)).conditional ≡ (decode width word).conditional
  unfolding decode assembled
  conditional_same =
      ap (λ (n : ℕ). eqb (fields_of (conditional_field width) (cleared width word)) 1 && (properties (operation_of n)).conditional) opcode_same
      ∙ either (properties o).conditional
      (λ t. ap (λ (n : ℕ). eqb n 1 && (properties o).conditional) (kept (conditional_field width) (among_append (conditional_field width) _ fs (guard_among t given refl)).0))
      (λ t. rw (t, and-false (eqb (fields_of (conditional_field width) (cleared width word)) 1), and-false (eqb (fields_of (conditional_field width) word) 1)))

  condition_same : given ≡ true
      → (fields_of (creg_field width) (cleared width word) ≡ fields_of (creg_field width) word) × (fields_of (condition_field width) (cleared width word) ≡ fields_of (condition_field width) word)
  unfolding decode assembled choose◌then◌else◌
  condition_same e =
      let p = (and_parts (eqb (fields_of (conditional_field width) word) 1) (properties o).conditional e).1 in
      let both = (among_append (conditional_field width) (creg_field width ++ condition_field width) fs (guard_among p true e)).1 in
      let t = among_append (creg_field width) (condition_field width) fs both in
      (kept (creg_field width) t.0, kept (condition_field width) t.1)

pub cleared_read : ClearedRead
unfolding decode assembled operands_of
cleared_read width word =
    let x = cleared width word in
    let same = opcode_same width word in
    record {
      opcode = same;
      conditional = conditional_same width word;
      condition = λ e. condition_same width word (sym (conditional_same width word) ∙ e);
      dreg = ap (λ (n : ℕ). register_of width (layout_of width (properties (operation_of n)).form).dreg x) same ∙ register_same width _ x word (kept width word _ (after_dreg width word).0);
      sreg1 = ap (λ (n : ℕ). register_of width (layout_of width (properties (operation_of n)).form).sreg1 x) same ∙ register_same width _ x word (kept width word _ (after_sreg1 width word).0);
      sreg2 = ap (λ (n : ℕ). register_of width (layout_of width (properties (operation_of n)).form).sreg2 x) same ∙ register_same width _ x word (kept width word _ (after_sreg2 width word).0);
      immediate = ap (λ (n : ℕ). immediate_of (layout_of width (properties (operation_of n)).form).immediate x) same ∙ immediate_same _ x word (kept width word _ (after_sreg2 width word).1);
    }

pub cleared_bit : ClearedBit
unfolding cleared
cleared_bit width word n =
    let i = decode width word in
    kept_bit (used_fields width (operation_of i.opcode) i.conditional) word n ((rows_sound width i.opcode).used i.conditional).apart
