-- The operands of a form as the code lists them are those that a listing shows of an operation. Assumes nothing.
use mathlib.Core.Path.{refl}
use native.Mathlib.Omega.{arith}
use Rattle.std.specs.Prelude.{◌≡◌, Option, Some, None, ℕ, zero, suc, ◌≤◌, ◌<◌, length, map, slice_index_or}
use Rattle.std.specs.List.{slice_get}
use Rattle.std.proofs.lemmas.Option.{slice_get_past}
use Rattle.isa.specs.declared.operation.Operation.{Operation}
use Rattle.isa.specs.declared.operation.Operation.TheVariants.{Lli}
use Rattle.isa.specs.declared.width.Width.{Width}
use Rattle.isa.specs.declared.width.Width.TheVariants.{Narrow, Wide}
use Rattle.isa.specs.declared.form.Form.{Form}
use Rattle.isa.specs.declared.form.Form.TheVariants.{NoOperands}
use Rattle.isa.specs.declared.form.Role.{Role}
use Rattle.isa.specs.declared.operands.Operand.{Operand}
use Rattle.isa.specs.Operation.{properties}
use Rattle.isa.specs.Format.{layout_of}
use Rattle.isa.specs.Shown.{shown_roles}
use Rattle.isa.specs.Used.{shown_role, roles_at, fields_for, reading_for}
use Rattle.isa.specs.Places.{field_with, field_or_none, fields_at, operand_for, operands_in, role_in}
use Rattle.isa.specs.Computed.{instructions}

-- a form that a width does not have has no operands there
shown_all : (width : Width) (o : Operation) → shown_roles width o ≡ (layout_of width (properties o).form).shown
unfolding instructions
shown_all Narrow Lli = refl
shown_all Wide Lli = refl
shown_all Narrow _ = refl
shown_all Wide _ = refl

few : (width : Width) (form : Form) → length (layout_of width form).shown ≤ 4
unfolding instructions
few Narrow NoOperands = omega arith
few Wide NoOperands = omega arith
few Narrow _ = omega arith
few Wide _ = omega arith

module _ (width : Width) (form : Form) where
  kept : (q : Option Role) → role_in (operand_for width form q) ≡ q
  unfolding role_in operand_for
  kept None = refl
  kept (Some r) = refl

  placed : (q : Option Role) → field_or_none (operand_for width form q) ≡ field_with (fields_for width form q) (reading_for width form q)
  unfolding instructions
  placed None = refl
  placed (Some r) = refl

  roles_kept : (k : ℕ) (d : Option Operand) → k < 4 → role_in (slice_index_or (operands_in width form) k d) ≡ slice_get (layout_of width form).shown k
  unfolding operands_in
  roles_kept zero d h = kept _
  roles_kept (suc zero) d h = kept _
  roles_kept (suc (suc zero)) d h = kept _
  roles_kept (suc (suc (suc zero))) d h = kept _
  roles_kept (suc (suc (suc (suc k)))) d h = absurd (omega arith)

pub role_within : (width : Width) (o : Operation) (k : ℕ) (d : Option Operand) → k < 4 → role_in (slice_index_or (operands_in width (properties o).form) k d) ≡ shown_role width o k
role_within width o k d h = rw (shown_all width o) (roles_kept width (properties o).form k d h)

pub role_past : (width : Width) (o : Operation) (k : ℕ) → 4 ≤ k → shown_role width o k ≡ None
role_past width o k h = rw (shown_all width o) (slice_get_past _ k (omega (arith, few width (properties o).form)))

pub fields_are : (width : Width) (o : Operation) → map field_or_none (operands_in width (properties o).form) ≡ fields_at width o
unfolding operands_in
fields_are width o =
    let f = (properties o).form in
    let rs = (layout_of width f).shown in
    rw (shown_all width o, placed width f (slice_get rs 0), placed width f (slice_get rs 1), placed width f (slice_get rs 2), placed width f (slice_get rs 3)) refl

pub roles_are : (width : Width) (o : Operation) → map role_in (operands_in width (properties o).form) ≡ roles_at width o
unfolding operands_in
roles_are width o =
    let f = (properties o).form in
    let rs = (layout_of width f).shown in
    rw (shown_all width o, kept width f (slice_get rs 0), kept width f (slice_get rs 1), kept width f (slice_get rs 2), kept width f (slice_get rs 3)) refl

-- one of them by its number
pub role_at : (width : Width) (o : Operation) (k : ℕ) (d : Option Role) → k < 4 → slice_index_or (roles_at width o) k d ≡ shown_role width o k
role_at width o zero d h = refl
role_at width o (suc zero) d h = refl
role_at width o (suc (suc zero)) d h = refl
role_at width o (suc (suc (suc zero))) d h = refl
role_at width o (suc (suc (suc (suc k)))) d h = absurd (omega arith)
