-- The parts of a choice and the word: what a word is read as stands in its parts' fields, and the fields of a choice's parts are those used.
-- Assumes nothing.
use mathlib.Core.Path.{◌≡◌, refl, sym, ap, ◌∙◌}
use mathlib.Core.Bool.{Bool, true, false, ◌&&◌, and-true}
use mathlib.Core.Logic.{◌≢◌}
use mathlib.Core.List.{List, [], ◌∷◌, ◌++◌, append-nil}
use Rattle.std.specs.Prelude.{Option, Some, None}
use Prim.Native.Nat.{ℕ, ◌^◌, ◌<◌}
use native.Mathlib.Nat.{lt_of_lt_of_le}
use native.Mathlib.Omega.{arith}
use lib.Dec.{eqb}
use lib.Pow.{pow_mono}
use borrow.Author.Tests.{eqb-true, eqb-false}
use Rattle.word.specs.Choice.{choose◌then◌else◌}
use Rattle.word.specs.Word.{Field, word_of}
use Rattle.word.proofs.Tests.{either, and_parts, and_both}
use Rattle.isa.specs.declared.operation.Operation.{Operation}
use Rattle.isa.specs.declared.width.Width.{Width}
use Rattle.isa.specs.declared.width.Width.TheVariants.{Narrow, Wide}
use Rattle.isa.specs.Operation.{operation_of, properties}
use Rattle.isa.specs.Format.{fields_width, fields_of, placed_in, kept_in, operation_field, conditional_field, creg_field, condition_field}
use Rattle.isa.specs.Decode.{opcode_of, assembled, decode}
use Rattle.isa.specs.Used.{shown_fields, guard_fields, used_fields}
use Rattle.isa.proofs.Fields.{fields_below}
use Rattle.encoder.specs.declared.Guard.{Guard}
use Rattle.encoder.specs.Encode.{Choice, guard_by, guard_of, choice_of, Part, guard_parts, parts_of, part_fits, all_fit, written, given}
use Rattle.encoder.specs.Theorems.{pieces_of}
use Rattle.isa.proofs.Pieces.{placed_low, placed_held, kept_append}
use Rattle.encoder.proofs.Values.{Held}
use Rattle.encoder.proofs.Operands.{field_held, short, operand_held}

-- ---- parts whose numbers stand in a word

unfoldable pub AllHeld : List Part → (word : ℕ) → Type 0
AllHeld [] word = Unit {0}
AllHeld (p ∷ ps) word = Held (fields_width p.fields) p.least p.number (fields_of p.fields word) × AllHeld ps word

-- they fit
pub held_fit : (ps : List Part) (word : ℕ) → AllHeld ps word → all_fit ps ≡ true
unfolding AllHeld all_fit part_fits
held_fit [] word h = refl
held_fit (p ∷ ps) word h = and_both _ _ h.0.fit (held_fit ps word h.1)

-- and, written, are what their pieces hold in the word
pub held_written : (ps : List Part) (word : ℕ) → AllHeld ps word → written ps ≡ kept_in (pieces_of ps) word
unfolding AllHeld written pieces_of kept_in
held_written [] word h = refl
held_written (p ∷ ps) word h =
    let fs = p.fields in
    let first : placed_in fs (word_of 32 p.number) ≡ kept_in fs word = placed_low fs (word_of 32 p.number) ∙ ap (placed_in fs) h.0.bits ∙ placed_held fs word in
    let rest = held_written ps word h.1 in
    let both = kept_append fs (pieces_of ps) word in
    omega arith

held_append : (ps qs : List Part) (word : ℕ) → AllHeld ps word → AllHeld qs word → AllHeld (ps ++ qs) word
unfolding AllHeld
held_append [] qs word h k = k
held_append (p ∷ ps) qs word h k = (h.0, held_append ps qs word h.1 k)

-- ---- the choice that a word is read as

pub given_by : (conditional : Bool) (creg condition : ℕ) → given (guard_by conditional creg condition) ≡ conditional
unfolding given guard_by choose◌then◌else◌
given_by true creg condition = refl
given_by false creg condition = refl

module _ (width : Width) (word : ℕ) where
  abbrev o : Operation
  o = operation_of (opcode_of width word)

  abbrev bit : ℕ
  bit = fields_of (conditional_field width) word

  -- the conditional bit, where the operation may be conditional
  guard_held : (c : Bool) → eqb bit 1 && (properties o).conditional ≡ c
      → AllHeld (guard_parts width o (guard_by c (fields_of (creg_field width) word) (fields_of (condition_field width) word))) word
  unfolding AllHeld guard_parts guard_by choose◌then◌else◌
  guard_held true e =
      let one : bit ≡ 1 = eqb-true bit 1 (and_parts _ _ e).0 in (
        field_held (conditional_field width) word 1 (sym one) (omega (arith, (short width).conditional)),
        (field_held (creg_field width) word _ refl (short width).creg, (field_held (condition_field width) word _ refl (short width).condition, tt)),
      )
  guard_held false e =
      either (properties o).conditional
      (λ t.
      let other : bit ≢ 1 = eqb-false bit 1 (sym (and-true (eqb bit 1)) ∙ ap (λ (b : Bool). eqb bit 1 && b) (sym t) ∙ e) in
      let small : bit < 2 ^ 1 = lt_of_lt_of_le (fields_below (conditional_field width) word) (pow_mono (short width).conditional) in
      rw t (field_held (conditional_field width) word 0 (omega arith) (omega (arith, (short width).conditional)), tt))
      (λ t. rw t tt)

  pub choice_held : AllHeld (parts_of width (choice_of width word)) word
  unfolding AllHeld parts_of choice_of guard_of decode assembled opcode_of
  choice_held = (
    field_held (operation_field width) word _ refl (short width).operation,
    held_append (guard_parts width o (guard_of (decode width word))) _ word (guard_held (eqb bit 1 && (properties o).conditional) refl)
        (operand_held width word 0, (operand_held width word 1, (operand_held width word 2, (operand_held width word 3, tt)))),
  )

-- ---- the pieces of a choice's parts

-- a condition is given only where the operation may be conditional
guard_pieces : (width : Width) (o : Operation) (g : Option Guard) (ps : List Part) → (given g ≡ true → (properties o).conditional ≡ true)
    → pieces_of (guard_parts width o g ++ ps) ≡ guard_fields width o (given g) ++ pieces_of ps
unfolding guard_parts pieces_of guard_fields given choose◌then◌else◌ conditional_field creg_field condition_field
guard_pieces Narrow o None ps h = either (properties o).conditional (λ t. rw t) (λ t. rw t)
guard_pieces Wide o None ps h = either (properties o).conditional (λ t. rw t) (λ t. rw t)
guard_pieces Narrow o (Some g) ps h = rw (h refl)
guard_pieces Wide o (Some g) ps h = rw (h refl)

pub pieces_used : (width : Width) (c : Choice) → (given c.guard ≡ true → (properties (operation_of c.operation)).conditional ≡ true)
    → pieces_of (parts_of width c) ≡ used_fields width (operation_of c.operation) (given c.guard)
unfolding parts_of pieces_of used_fields
pieces_used width c h =
    let p = operation_of c.operation in
    ap (λ (l : List Field). operation_field width ++ l) (guard_pieces width p c.guard _ h)
    ∙ ap (λ (l : List Field). operation_field width ++ (guard_fields width p (given c.guard) ++ (shown_fields width p 0 ++ (shown_fields width p 1 ++ (shown_fields width p 2 ++ l))))) (append-nil (shown_fields width p 3))
