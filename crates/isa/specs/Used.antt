-- The bits of a word that its operation uses: where the operands that a listing shows stand, and how their bits are read. All other bits are
-- ignored (Manual 2.5). Assumes nothing.
use Rattle.std.specs.Prelude.{Bool, Option, Some, None, List, [], ◌∷◌, ◌++◌, ℕ, ◌-◌, ◌^◌, ℤ, pos, neg_ℤ}
use Rattle.std.specs.List.{slice_get}
use Rattle.word.specs.Choice.{choose◌then◌else◌}
use Rattle.word.specs.Word.{Field}
use Rattle.isa.specs.declared.form.Reading.{Reading}
use Rattle.isa.specs.declared.form.Reading.TheVariants.{Natural, Signed, High}
use Rattle.isa.specs.declared.operation.Operation.{Operation}
use Rattle.isa.specs.declared.width.Width.{Width}
use Rattle.isa.specs.declared.width.Width.TheVariants.{Narrow, Wide}
use Rattle.isa.specs.declared.form.Form.{Form}
use Rattle.isa.specs.Operation.{operation_of, properties}
use Rattle.isa.specs.declared.form.Role.{Role}
use Rattle.isa.specs.declared.form.Role.TheVariants.{Dreg, Sreg1, Sreg2, Creg, Imm, Length, Position}
use Rattle.isa.specs.Format.{kept_in, operation_field, conditional_field, creg_field, condition_field, Immediate, layout_of, operand_fields}
use Rattle.isa.specs.Decode.{decode}
use Rattle.isa.specs.Shown.{shown_roles}

-- ---- the operands that are shown, by number from 0 on

-- operand k, where there is one
abbrev pub shown_role : Width → Operation → (k : ℕ) → Option Role
shown_role width o k = slice_get (shown_roles width o) k

-- of all, of which there are at most four
abbrev pub roles_at : Width → Operation → List (Option Role)
roles_at width o = shown_role width o 0 ∷ shown_role width o 1 ∷ shown_role width o 2 ∷ shown_role width o 3 ∷ []

-- the fields of an operand; one that is absent has none
unfoldable pub fields_for : Width → Form → Option Role → List Field
fields_for width form None = []
fields_for width form (Some r) = operand_fields width form r

abbrev pub shown_fields : Width → Operation → (k : ℕ) → List Field
shown_fields width o k = fields_for width (properties o).form (shown_role width o k)

-- the least of them
unfoldable pub least_of : Reading → (k : ℕ) → ℤ
least_of Natural k = pos 0
least_of Signed k = neg_ℤ (pos (2 ^ (k - 1)))
least_of High k = pos 24

unfoldable pub register_reading : Width → Reading
register_reading Wide = Natural
register_reading Narrow = High

unfoldable pub immediate_reading : Immediate → Reading
immediate_reading i = choose i.signed then Signed else Natural

unfoldable pub reading_for : Width → Form → Option Role → Reading
reading_for width form None = Natural
reading_for width form (Some Dreg) = register_reading width
reading_for width form (Some Sreg1) = register_reading width
reading_for width form (Some Sreg2) = register_reading width
reading_for width form (Some Creg) = Natural
reading_for width form (Some Imm) = immediate_reading (layout_of width form).immediate
reading_for width form (Some Length) = Natural
reading_for width form (Some Position) = Natural

abbrev pub shown_reading : Width → Operation → (k : ℕ) → Reading
shown_reading width o k = reading_for width (properties o).form (shown_role width o k)

-- ---- all bits used

-- those of the condition: the conditional bit of an operation that may be conditional; with a condition, its register and number too
unfoldable pub guard_fields : Width → Operation → (given : Bool) → List Field
guard_fields width o given = choose (properties o).conditional then conditional_field width ++ (choose given then creg_field width ++ condition_field width else []) else []

-- all, each once
unfoldable pub used_fields : Width → Operation → (given : Bool) → List Field
used_fields width o given =
    operation_field width
    ++ (guard_fields width o given
    ++ (shown_fields width o 0 ++ (shown_fields width o 1 ++ (shown_fields width o 2 ++ shown_fields width o 3))))

-- a word with its ignored bits 0
unfoldable pub cleared : Width → (word : ℕ) → ℕ
cleared width word =
    let i = decode width word in
    kept_in (used_fields width (operation_of i.opcode) i.conditional) word

-- to unfold all of these
unfoldable pub bits_used : Unit {0}
unfolding fields_for least_of register_reading immediate_reading reading_for guard_fields used_fields cleared
bits_used = tt
