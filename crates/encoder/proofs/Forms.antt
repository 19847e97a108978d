-- Choices whose form there is, as the code takes them: what fits, and the sum of the parts. Assumes nothing.
use mathlib.Core.Path.{◌≡◌, refl, sym, ap, ◌∙◌, subst}
use mathlib.Core.Bool.{Bool, true, false, ◌&&◌, true≢false, and-true}
use mathlib.Core.List.{List, [], ◌∷◌}
use Rattle.std.specs.Prelude.{Option, Some, None}
use Prim.Native.Nat.{ℕ, ◌+◌, ◌^◌, ◌<◌}
use native.Mathlib.Omega.{arith}
use lib.Dec.{ltb}
use lib.IntN.{pos}
use lib.Pow.{pow_pos}
use borrow.Author.Tests.{ltb-true, lt-ltb}
use Rattle.word.specs.Choice.{choose◌then◌else◌}
use Rattle.word.specs.Word.{mod_z, word_of}
use Rattle.word.proofs.Tests.{either, and_parts, and_both}
use Rattle.word.proofs.Integers.{word_natural}
use Rattle.isa.specs.declared.operation.Operation.{Operation}
use Rattle.isa.specs.declared.width.Width.{Width}
use Rattle.isa.specs.declared.width.Width.TheVariants.{Narrow, Wide}
use Rattle.isa.specs.Operation.{operation_of, properties}
use Rattle.isa.specs.Format.{fields_width, placed_in, operation_field, conditional_field, creg_field, condition_field}
use Rattle.isa.specs.Shown.{has_form}
use Rattle.isa.proofs.Places.{field_is}
use Rattle.encoder.specs.declared.Guard.{Guard}
use Rattle.encoder.specs.Encode.{Choice, Part, natural, guard_parts, operand_part, parts_of, fits, part_fits, all_fit, written, given, conditional_form, chosen_form}
use Rattle.encoder.specs.Fields.{fields_fit, guard_fits, guard_bits, fields_bits}
use Rattle.encoder.proofs.Parts.{fit_append, written_append}
use Rattle.encoder.proofs.Values.{natural_fits}
use Rattle.encoder.proofs.Fits.{field_fits_law}
use Rattle.encoder.proofs.ReadBack.{operation_bits}

-- ---- the condition

-- a condition is given in 32-bit words only
no_condition : (n : ℕ) → chosen_form Narrow n true ≡ true → ⊥
unfolding chosen_form conditional_form conditional_field fields_width
no_condition n form =
    let p = (properties (operation_of n)).conditional in
    true≢false (sym (and_parts p false (and_parts (ltb n 64 && has_form Narrow (operation_of n)) (p && false) form).1).1)

condition_fits : (creg condition : ℕ)
    → fits (fields_width (conditional_field Wide)) (pos 0) (pos 1) && (fits (fields_width (creg_field Wide)) (pos 0) (pos creg) && (fits (fields_width (condition_field Wide)) (pos 0) (pos condition) && true))
    ≡ ltb creg 8 && ltb condition 8
unfolding fields_width conditional_field creg_field condition_field
condition_fits creg condition = rw (natural_fits 1 1, natural_fits 3 creg, natural_fits 3 condition) (ap (λ (b : Bool). ltb creg 8 && b) (and-true (ltb condition 8)))

guard_fits_law : (width : Width) (n : ℕ) (g : Option Guard) → chosen_form width n (given g) ≡ true
    → all_fit (guard_parts width (operation_of n) g) ≡ guard_fits g
unfolding guard_parts guard_fits all_fit part_fits given choose◌then◌else◌
guard_fits_law width n None form =
    let k = fields_width (conditional_field width) in
    either (properties (operation_of n)).conditional (λ t. rw (t, natural_fits k 0) (and_both _ true (lt-ltb 0 (2 ^ k) (pow_pos k)) refl)) (λ t. rw t)
guard_fits_law Narrow n (Some g) form = absurd (no_condition n form)
guard_fits_law Wide n (Some g) form = condition_fits g.creg g.condition

guard_written : (width : Width) (n : ℕ) (g : Option Guard) → chosen_form width n (given g) ≡ true
    → guard_bits g ≡ written (guard_parts width (operation_of n) g)
unfolding guard_parts guard_bits written given placed_in fields_width conditional_field creg_field condition_field mod_z choose◌then◌else◌
guard_written Narrow n None form = either (properties (operation_of n)).conditional (λ t. rw t) (λ t. rw t)
guard_written Wide n None form = either (properties (operation_of n)).conditional (λ t. rw t) (λ t. rw t)
guard_written Narrow n (Some g) form = absurd (no_condition n form)
guard_written Wide n (Some g) form = omega arith

-- ---- all parts

module _ (width : Width) (c : Choice) (form : chosen_form width c.operation (given c.guard) ≡ true) where
  abbrev n : ℕ
  n = c.operation

  abbrev o : Operation
  o = operation_of n

  abbrev guard : List Part
  guard = guard_parts width o c.guard

  abbrev operands : List Part
  operands = operand_part width o 0 c.first ∷ operand_part width o 1 c.second ∷ operand_part width o 2 c.third ∷ operand_part width o 3 c.fourth ∷ []

  operation_below : n < 64
  unfolding chosen_form
  operation_below = ltb-true n 64 (and_parts (ltb n 64) (has_form width o) (and_parts (ltb n 64 && has_form width o) _ form).0).0

  operation_fits : part_fits (natural (operation_field width) n) ≡ true
  unfolding part_fits
  operation_fits =
      natural_fits (fields_width (operation_field width)) n ∙ lt-ltb n (2 ^ fields_width (operation_field width)) (subst (λ (k : ℕ). n < 2 ^ k) (sym (operation_bits width)) operation_below)

  -- what the code asks is whether all parts fit
  pub all_fit_is : guard_fits c.guard && fields_fit width o c ≡ all_fit (parts_of width c)
  unfolding parts_of all_fit
  all_fit_is =
      rw (
        operation_fits,
        fit_append guard operands,
        guard_fits_law width n c.guard form,
        field_fits_law width o 0 (omega arith) c.first,
        field_fits_law width o 1 (omega arith) c.second,
        field_fits_law width o 2 (omega arith) c.third,
        field_fits_law width o 3 (omega arith) c.fourth,
        and-true (part_fits (operand_part width o 3 c.fourth)),
      ) refl

  -- what it writes is the sum of all parts
  pub sum_is : placed_in (operation_field width) n + guard_bits c.guard + fields_bits width o c ≡ written (parts_of width c)
  unfolding parts_of written
  sum_is =
      let small = operation_below in
      let operation = ap (placed_in (operation_field width)) (word_natural 32 n (omega arith)) in
      let others = written_append guard operands in
      let first = (field_is width o 0 (omega arith)).placed (word_of 32 c.first) in
      let second = (field_is width o 1 (omega arith)).placed (word_of 32 c.second) in
      let third = (field_is width o 2 (omega arith)).placed (word_of 32 c.third) in
      let fourth = (field_is width o 3 (omega arith)).placed (word_of 32 c.fourth) in
      let bits = guard_written width n c.guard form in
      omega arith

-- the same of an operation that is known to be the choice's
module _ (width : Width) (c : Choice) {o : Operation} (form : chosen_form width c.operation (given c.guard) ≡ true) (e : o ≡ operation_of c.operation) where
  pub fit_when : {g f : Bool} → g ≡ guard_fits c.guard → f ≡ fields_fit width o c → g && f ≡ all_fit (parts_of width c)
  fit_when h k = rw (h, k, e) (all_fit_is width c form)

  pub sum_when : placed_in (operation_field width) c.operation + guard_bits c.guard + fields_bits width o c ≡ written (parts_of width c)
  sum_when = rw e (sum_is width c form)
