-- What is written is read as what it was made from, and what is read is written with its ignored bits 0. Assumes nothing.
use mathlib.Core.Path.{◌≡◌, refl, sym, ap, ◌∙◌, subst}
use mathlib.Core.Bool.{Bool, true, false, not, ◌&&◌, ◌||◌, true≢false, and-true, and-false}
use mathlib.Core.List.{List, [], ◌∷◌, ◌++◌}
use Rattle.std.specs.Prelude.{Option, Some, None}
use Prim.Native.Nat.{ℕ, ◌*◌, ◌%◌, ◌^◌, ◌<◌}
use native.Mathlib.Omega.{arith}
use lib.Dec.{ltb, eqb}
use lib.IntN.{ℤ}
use borrow.Author.Tests.{lt-ltb}
use Rattle.word.specs.Choice.{choose◌then◌else◌}
use Rattle.word.specs.Word.{Field, mod_z, word_of}
use Rattle.word.proofs.Tests.{either, and_parts, and_both, if_true, if_false}
use Rattle.isa.specs.declared.operation.Operation.{Operation}
use Rattle.isa.specs.declared.width.Width.{Width}
use Rattle.isa.specs.declared.width.Width.TheVariants.{Narrow, Wide}
use Rattle.isa.specs.Operation.{operation_of, width_by, properties}
use Rattle.isa.specs.Format.{fields_width, fields_of, kept_in, lie_below, separate, operation_field, conditional_field, creg_field, condition_field}
use Rattle.isa.specs.Decode.{word_bytes, opcode_of, assembled, decode}
use Rattle.isa.specs.Shown.{has_form}
use Rattle.isa.specs.Used.{shown_role, shown_fields, least_of, shown_reading, used_fields, cleared}
use Rattle.isa.specs.declared.instruction.Instruction.{Instruction}
use Rattle.isa.specs.Theorems.{between}
use Rattle.isa.proofs.Rules as rules
use Rattle.isa.proofs.Showing.{form_is}
use Rattle.isa.proofs.Rows.{UsedSound, rows_sound}
use Rattle.isa.proofs.Decoded.{opcode_below}
use Rattle.encoder.specs.declared.Guard.{Guard}
use Rattle.encoder.specs.Encode.{Choice, guard_by, guard_of, value_for, value_at, choice_of, Part, natural, guard_parts, operand_part, parts_of, part_fits, all_fit, written, given, conditional_form, chosen_form, Encoding, Encodes, RefusedWith, encode_of}
use Rattle.encoder.specs.Theorems.{pieces_of, AllHold, Apart, PartsApart, EncodeDecode, word_has_form, DecodeEncode, OneWord, SecondWriting, ChosenFormIs, AskedInOrder}
use Rattle.encoder.proofs.Parts.{hold_append, fit_append, written_read, written_below}
use Rattle.encoder.proofs.Values.{Held, fits_one, natural_back}
use Rattle.encoder.proofs.Operands.{operand_held}
use Rattle.encoder.proofs.Choices.{held_fit, held_written, given_by, choice_held, pieces_used}

-- ---- a choice that is accepted

record Accepted (width : Width) (c : Choice) (word : ℕ) : Type 0 where
  form : chosen_form width c.operation (given c.guard) ≡ true
  fit : all_fit (parts_of width c) ≡ true
  same : written (parts_of width c) ≡ word

unfoldable is_word : Encoding → Bool
is_word (Encodes w) = true
is_word (RefusedWith n) = false

unfoldable word_in : Encoding → ℕ
word_in (Encodes w) = w
word_in (RefusedWith n) = 0

encodes_one : {v w : ℕ} → Encodes v ≡ Encodes w → v ≡ w
unfolding word_in
encodes_one e = ap word_in e

accepted : (width : Width) (c : Choice) (word : ℕ) → encode_of width c ≡ Encodes word → Accepted width c word
unfolding encode_of choose◌then◌else◌ is_word
accepted width c word e =
    either (chosen_form width c.operation (given c.guard))
    (λ t.
    either (all_fit (parts_of width c))
    (λ u. record { form = t; fit = u; same = encodes_one (rw (t, u) at e) })
    (λ u. absurd (true≢false (sym (ap is_word (rw (t, u) at e))))))
    (λ t. absurd (true≢false (sym (ap is_word (rw t at e)))))

pub asked_in_order : AskedInOrder
unfolding encode_of choose◌then◌else◌
asked_in_order width c = record { formless = λ e. rw e; unfit = λ e f. rw (e, f); others = λ e f. rw (e, f) }

-- a condition is given only where there is a conditional form
form_conditional : (width : Width) (o : Operation) (a g : Bool) → a && (not g || conditional_form width o) ≡ true → g ≡ true → conditional_form width o ≡ true
form_conditional width o a g e t = (and_parts a (conditional_form width o) (rw t at e)).1

conditional_is : (width : Width) (o : Operation) → conditional_form width o ≡ true → (properties o).conditional ≡ true
unfolding conditional_form
conditional_is width o e = (and_parts _ _ e).0

-- ---- what is read is written

given_is : (i : Instruction) → given (guard_of i) ≡ i.conditional
unfolding guard_of
given_is i = given_by i.conditional i.creg i.condition

-- a word that is conditional has a conditional form
read_conditional : (width : Width) (word : ℕ) → (decode width word).conditional ≡ true → conditional_form width (operation_of (opcode_of width word)) ≡ true
unfolding decode assembled conditional_form conditional_field fields_of fields_width
read_conditional Narrow word e = absurd (true≢false (sym e))
read_conditional Wide word e =
    let p = (properties (operation_of (opcode_of Wide word))).conditional in
    and_both p true (and_parts (eqb (fields_of (conditional_field Wide) word) 1) p e).1 refl

read_form : (width : Width) (word : ℕ) → has_form width (operation_of (decode width word).opcode) ≡ true → chosen_form width (choice_of width word).operation (given (choice_of width word).guard) ≡ true
unfolding chosen_form choice_of decode assembled
read_form width word e =
    and_both _ _ (and_both _ _ (lt-ltb _ 64 (opcode_below width word)) e)
    (either (decode width word).conditional
    (λ t. rw (given_is (decode width word), t) (read_conditional width word t))
    (λ t. rw (given_is (decode width word), t)))

pub decode_encode : DecodeEncode
unfolding cleared choice_of decode assembled
decode_encode width word e =
    let c = choice_of width word in
    let h = choice_held width word in
    (asked_in_order width c).others (read_form width word e) (held_fit (parts_of width c) word h)
    ∙ ap Encodes (held_written (parts_of width c) word h ∙ ap (λ (fs : List Field). kept_in fs word) (used width word))
  where
    used : (width : Width) (word : ℕ) → pieces_of (parts_of width (choice_of width word)) ≡ used_fields width (operation_of (decode width word).opcode) (decode width word).conditional
    used width word =
        let i = decode width word in
        pieces_used width (choice_of width word) (λ t. conditional_is width (operation_of i.opcode) (read_conditional width word (sym (given_is i) ∙ t)))
        ∙ ap (used_fields width (operation_of i.opcode)) (given_is i)

-- ---- what is written is read

fit_parts : (p : Part) (ps : List Part) → all_fit (p ∷ ps) ≡ true → (part_fits p ≡ true) × (all_fit ps ≡ true)
unfolding all_fit
fit_parts p ps e = and_parts (part_fits p) (all_fit ps) e

pub operation_bits : (width : Width) → fields_width (operation_field width) ≡ 6
unfolding operation_field fields_width
operation_bits Narrow = refl
operation_bits Wide = refl

-- the condition that a word is read as, of an operation
abbrev guard_in : Width → Operation → (word : ℕ) → Option Guard
guard_in width o word = guard_by (eqb (fields_of (conditional_field width) word) 1 && (properties o).conditional) (fields_of (creg_field width) word) (fields_of (condition_field width) word)

guard_back : (width : Width) (o : Operation) (g : Option Guard) (word : ℕ) → (given g ≡ true → conditional_form width o ≡ true)
    → AllHold (guard_parts width o g) word → all_fit (guard_parts width o g) ≡ true → guard_in width o word ≡ g
unfolding AllHold guard_by guard_parts all_fit part_fits given conditional_form choose◌then◌else◌ fields_width conditional_field creg_field condition_field fields_of mod_z
guard_back Narrow o None word f h e = refl
guard_back Wide o None word f h e =
    either (properties o).conditional
    (λ t.
    let held : AllHold (natural (conditional_field Wide) 0 ∷ []) word = rw t at h in
    if_false _ _ None (ap (λ (n : ℕ). eqb n 1 && (properties o).conditional) held.0))
    (λ t. if_false _ _ None (ap (λ (b : Bool). eqb (fields_of (conditional_field Wide) word) 1 && b) t ∙ and-false (eqb (fields_of (conditional_field Wide) word) 1)))
guard_back Narrow o (Some g) word f h e = absurd (true≢false (sym (and_parts (properties o).conditional false (f refl)).1))
guard_back Wide o (Some g) word f h e =
    let t = (and_parts (properties o).conditional true (f refl)).0 in
    let second = natural (creg_field Wide) g.creg in
    let third = natural (condition_field Wide) g.condition in
    let e' = fit_parts second (third ∷ []) (fit_parts (natural (conditional_field Wide) 1) (second ∷ third ∷ []) e).1 in
    let creg = natural_back 3 g.creg _ (omega arith) e'.0 h.1.0 in
    let condition = natural_back 3 g.condition _ (omega arith) (fit_parts third [] e'.1).0 h.1.1.0 in
    if_true _ _ None (and_both _ _ (ap (λ (n : ℕ). eqb n 1) h.0) t) ∙ ap Some (λ i. record { creg = creg i; condition = condition i })

same_choice : (c d : Choice) → c.operation ≡ d.operation → c.guard ≡ d.guard → c.first ≡ d.first → c.second ≡ d.second → c.third ≡ d.third
    → c.fourth ≡ d.fourth → c ≡ d
same_choice c d o g p q r s = λ i. record { operation = o i; guard = g i; first = p i; second = q i; third = r i; fourth = s i }

-- a choice of a form that there is
module _ (width : Width) (c : Choice) (form : chosen_form width c.operation (given c.guard) ≡ true) where
  abbrev o : Operation
  o = operation_of c.operation

  abbrev word : ℕ
  word = written (parts_of width c)

  operands : List Part
  operands = operand_part width o 0 c.first ∷ operand_part width o 1 c.second ∷ operand_part width o 2 c.third ∷ operand_part width o 3 c.fourth ∷ []

  conditional : given c.guard ≡ true → conditional_form width o ≡ true
  unfolding chosen_form
  conditional = form_conditional width o (ltb c.operation 64 && has_form width o) (given c.guard) form

  pieces : pieces_of (parts_of width c) ≡ used_fields width o (given c.guard)
  pieces = pieces_used width c (λ t. conditional_is width o (conditional t))

  rows : UsedSound width o (given c.guard)
  rows = (rows_sound width c.operation).used (given c.guard)

  apart : Apart width (parts_of width c)
  apart = record { inside = ap (lie_below (8 * word_bytes width)) pieces ∙ rows.inside; disjoint = ap separate pieces ∙ rows.apart }

  holds : AllHold (parts_of width c) word
  holds = written_read (parts_of width c) apart.disjoint

  pub size : word < 2 ^ (8 * word_bytes width)
  size = written_below (8 * word_bytes width) (parts_of width c) apart.inside apart.disjoint

  parted : AllHold (guard_parts width o c.guard) word × AllHold operands word
  unfolding AllHold parts_of operands
  parted = hold_append (guard_parts width o c.guard) operands word holds.1

  module _ (fit : all_fit (parts_of width c) ≡ true) where
    others_fit : all_fit (guard_parts width o c.guard ++ operands) ≡ true
    unfolding parts_of operands
    others_fit = (fit_parts (natural (operation_field width) c.operation) (guard_parts width o c.guard ++ operands) fit).1

    fitting : (all_fit (guard_parts width o c.guard) ≡ true) × (all_fit operands ≡ true)
    fitting = and_parts _ _ (sym (fit_append (guard_parts width o c.guard) operands) ∙ others_fit)

    opcode_back : opcode_of width word ≡ c.operation
    unfolding opcode_of AllHold parts_of operands part_fits
    opcode_back =
        natural_back (fields_width (operation_field width)) c.operation (fields_of (operation_field width) word) (omega (arith, operation_bits width))
        (fit_parts (natural (operation_field width) c.operation) (guard_parts width o c.guard ++ operands) fit).0
        holds.0

    -- what operand k is read as
    abbrev value_in : (n k : ℕ) → ℤ
    value_in n k = value_for (decode width word) (shown_role width (operation_of n) k)

    -- a part that is written and fits is read back
    value_back : (k : ℕ) (z : ℤ) → let p = operand_part width o k z in
        fields_of p.fields word ≡ word_of 32 z % 2 ^ fields_width p.fields → part_fits p ≡ true → value_at width (decode width word) k ≡ z
    unfolding decode assembled part_fits
    value_back k z hold e =
        let held = subst
        (λ (n : ℕ).
        let fs = shown_fields width (operation_of n) k in
        Held (fields_width fs) (least_of (shown_reading width (operation_of n) k) (fields_width fs)) (value_in n k) (fields_of fs word))
        opcode_back (operand_held width word k)
        in
        ap (λ (n : ℕ). value_in n k) opcode_back ∙ fits_one _ _ (value_in c.operation k) z held.short held.fit e (held.bits ∙ hold)

    choice_back : choice_of width word ≡ c
    unfolding choice_of guard_of guard_by decode assembled AllHold operands
    choice_back =
        let h = parted.1 in
        let e = fit_parts (operand_part width o 0 c.first) _ fitting.1 in
        let e' = fit_parts (operand_part width o 1 c.second) _ e.1 in
        let e'' = fit_parts (operand_part width o 2 c.third) _ e'.1 in
        let e''' = fit_parts (operand_part width o 3 c.fourth) _ e''.1 in
        same_choice (choice_of width word) c opcode_back
        (ap (λ (n : ℕ). guard_in width (operation_of n) word) opcode_back ∙ guard_back width o c.guard word conditional parted.0 fitting.0)
        (value_back 0 c.first h.0 e.0)
        (value_back 1 c.second h.1.0 e'.0)
        (value_back 2 c.third h.1.1.0 e''.0)
        (value_back 3 c.fourth h.1.1.1.0 e'''.0)

-- the operation of a word by its choice
form_by : (width : Width) (word : ℕ) (c : Choice) → choice_of width word ≡ c → has_form width (operation_of c.operation) ≡ true → word_has_form width word ≡ true
unfolding choice_of
form_by width _ c e f = ap (λ (d : Choice). has_form width (operation_of d.operation)) e ∙ f

pub encode_decode : EncodeDecode
unfolding chosen_form
encode_decode width c word e =
    let a = accepted width c word e in
    let back = subst (λ (w : ℕ). choice_of width w ≡ c) a.same (choice_back width c a.form a.fit) in
    let f = form_by width word c back (and_parts (ltb c.operation 64) (has_form width (operation_of c.operation)) (and_parts _ _ a.form).0).1 in
    record {
      choice = back;
      form = f;
      size = subst (λ (w : ℕ). w < 2 ^ (8 * word_bytes width)) a.same (size width c a.form);
      ignored = encodes_one (sym (decode_encode width word f) ∙ ap (encode_of width) back ∙ e);
    }

pub one_word : OneWord
unfolding choice_of
one_word width word other f e p q =
    let g = form_by width other (choice_of width word) (sym e) f in
    sym p ∙ encodes_one (sym (decode_encode width word f) ∙ ap (encode_of width) e ∙ decode_encode width other g) ∙ q

pub second_writing : SecondWriting
second_writing width word f =
    let e = decode_encode width word f in
    let r = encode_decode width (choice_of width word) (cleared width word) e in
    record { choice = r.choice; again = ap (encode_of width) r.choice ∙ e; ignored = r.ignored }

pub parts_apart : PartsApart
parts_apart width c form = apart width c form

-- ---- 18, by numbers

-- a conditional form, by width
pub conditional_form_law : (wide : Bool) (n : ℕ) → conditional_form (width_by wide) (operation_of n) ≡ wide && (((between 1 31 n || between 38 39 n) || eqb n 48) || between 58 62 n)
unfolding conditional_form width_by conditional_field fields_width
conditional_form_law true n = and-true (properties (operation_of n)).conditional ∙ rules.conditional_is n
conditional_form_law false n = and-false (properties (operation_of n)).conditional

pub chosen_form_is : ChosenFormIs
unfolding chosen_form
chosen_form_is wide n conditional = rw (form_is wide n, conditional_form_law wide n)
