-- The parts of a line fit their columns. Assumes nothing.
use mathlib.Core.Path.{◌≡◌, refl}
use mathlib.Core.Bool.{Bool, true}
use mathlib.Core.List.{List, [], ◌∷◌, map}
use Prim.Native.Nat.{ℕ, suc, ◌+◌, ◌-◌, ◌^◌, ◌≤◌, ◌<◌}
use native.Mathlib.Nat.{le_trans}
use native.Mathlib.Omega.{arith}
use lib.Dec.{leb}
use lib.IntN.{ℤ, pos, negsuc}
use lib.ListN.{length, length-append}
use lib.Signed.{mag}
use borrow.Author.Tests.{leb-true}
use Rattle.word.specs.Choice.{choose◌then◌else◌}
use Rattle.word.specs.Word.{bits◌to◌, signed_of, word_of}
use Rattle.word.proofs.Tests.{either, and_parts}
use Rattle.word.proofs.Integers.{signed_range}
use Rattle.word.proofs.Bounds.{field_below}
use Rattle.isa.specs.declared.operation.Operation.{Operation}
use Rattle.isa.specs.declared.width.Width.{Width}
use Rattle.isa.specs.declared.width.Width.TheVariants.{Narrow, Wide}
use Rattle.isa.specs.Operation.{operation_of, properties}
use Rattle.isa.specs.declared.form.Role.{Role}
use Rattle.isa.specs.declared.form.Role.TheVariants.{Dreg, Sreg1, Sreg2, Creg, Imm, Length, Position}
use Rattle.isa.specs.Format.{Immediate, Layout, layout_of, fields_width, fields_of}
use Rattle.isa.specs.Text.{bytes}
use Rattle.isa.specs.Decode.{immediate_of, operands_of, opcode_of, assembled, decode}
use Rattle.isa.specs.Shown.{shown_roles, shown_value}
use Rattle.isa.proofs.Table.{values, by_number}
use Rattle.isa.proofs.Fields.{fields_below}
use Rattle.isa.proofs.Rows.{immediate_fits, rows_sound}
use Rattle.isa.proofs.Decoded.{in_range}
use Rattle.console.specs.Digits.{blank, decimal, places_of}
use Rattle.console.proofs.Digits.{length_digits_of, places_le, places_mono}
use Rattle.listing.specs.Line.{integer_text, prefix_of, operand_text, shown_texts}
use Rattle.listing.specs.Parts.{spaced}
use Rattle.listing.specs.Computed.{listings}

-- ---- how many operands

pub roles_few : (width : Width) (n : ℕ) → length (shown_roles width (operation_of n)) ≤ 4
unfolding listings values
roles_few Narrow n = leb-true _ 4 (by_number (λ o. leb (length (shown_roles Narrow o)) 4) (λ n. true) refl (λ n h. refl) n)
roles_few Wide n = leb-true _ 4 (by_number (λ o. leb (length (shown_roles Wide o)) 4) (λ n. true) refl (λ n h. refl) n)

-- ---- how long the text of each can be

-- a number of k bits: the digits of the largest; with a sign, the minus and those of the least
unfoldable immediate_room : Immediate → ℕ
immediate_room m =
    let k = fields_width m.fields in
    choose m.signed then suc (places_of (2 ^ (k - 1))) else places_of (2 ^ k - 1)

-- by role: a register has a prefix and two digits, a condition register one
unfoldable role_room : Layout → Role → ℕ
role_room l Dreg = 3
role_room l Sreg1 = 3
role_room l Sreg2 = 3
role_room l Creg = 2
role_room l Imm = immediate_room l.immediate
role_room l Length = 2
role_room l Position = 2

-- of some roles, a blank before each
unfoldable roles_room : (Role → ℕ) → List Role → ℕ
roles_room room [] = 0
roles_room room (r ∷ rs) = suc (room r) + roles_room room rs

-- no row of the table needs more than 14: a computed test for each width
abbrev fourteen : Width → Operation → Bool
fourteen width o = leb (roles_room (role_room (layout_of width (properties o).form)) (shown_roles width o)) 14

rows_fit : (width : Width) (n : ℕ) → fourteen width (operation_of n) ≡ true
unfolding listings values immediate_room role_room roles_room
rows_fit Narrow n = by_number (fourteen Narrow) (λ n. true) refl (λ n h. refl) n
rows_fit Wide n = by_number (fourteen Wide) (λ n. true) refl (λ n h. refl) n

-- digits
digits_few : (k n : ℕ) → n < 10 ^ suc k → length (decimal n) ≤ suc k
digits_few k n h = omega (arith, length_digits_of 10 (places_of n) n, places_le 9 k n h)

digits_mono : (m n : ℕ) → m ≤ n → length (decimal m) ≤ places_of n
digits_mono m n h = omega (arith, length_digits_of 10 (places_of m) m, places_mono 9 m n h)

signed_room : (k : ℕ) (z : ℤ) → mag z < 2 ^ (k - 1) → length (integer_text z) ≤ suc (places_of (2 ^ (k - 1)))
unfolding integer_text bytes
signed_room k (pos n) h = omega (arith, digits_mono n (2 ^ (k - 1)) (omega arith))
signed_room k (negsuc n) h = omega (arith, digits_mono (suc n) (2 ^ (k - 1)) (omega arith))

immediate_room_law : (m : Immediate) (word : ℕ) → immediate_fits m ≡ true → length (integer_text (immediate_of m word)) ≤ immediate_room m
unfolding immediate_room immediate_of immediate_fits integer_text choose◌then◌else◌
immediate_room_law m word e =
    let k = fields_width m.fields in
    let n = fields_of m.fields word in
    either m.signed
    (λ s.
    let l : 1 ≤ k = leb-true 1 k (and_parts _ _ (rw s at e)).0 in
    rw s (signed_room k (signed_of k n) (signed_range k l n (fields_below m.fields word))))
    (λ s. rw s (digits_mono n (2 ^ k - 1) (omega (arith, fields_below m.fields word))))

-- of the immediate that a word shows
immediate_shown : (width : Width) (word : ℕ)
    → length (integer_text (decode width word).immediate) ≤ immediate_room (layout_of width (properties (operation_of (opcode_of width word))).form).immediate
unfolding decode assembled operands_of
immediate_shown width word = immediate_room_law _ word (rows_sound width (opcode_of width word)).immediate

-- the text of each operand of a word
operand_room : (width : Width) (word : ℕ) (r : Role)
    → length (operand_text (decode width word) r) ≤ role_room (layout_of width (properties (operation_of (opcode_of width word))).form) r
unfolding operand_text prefix_of bytes integer_text shown_value role_room
operand_room width word Dreg = omega (arith, digits_few 1 (decode width word).dreg (omega (arith, (in_range width word).dreg)))
operand_room width word Sreg1 = omega (arith, digits_few 1 (decode width word).sreg1 (omega (arith, (in_range width word).sreg1)))
operand_room width word Sreg2 = omega (arith, digits_few 1 (decode width word).sreg2 (omega (arith, (in_range width word).sreg2)))
operand_room width word Creg = omega (arith, digits_few 0 (decode width word).creg (omega (arith, (in_range width word).creg)))
operand_room width word Imm = immediate_shown width word
operand_room width word Length = digits_few 1 _ (omega (arith, field_below (bits 10 to 5) (word_of 32 (decode width word).immediate)))
operand_room width word Position = digits_few 1 _ (omega (arith, field_below (bits 4 to 0) (word_of 32 (decode width word).immediate)))

-- all of them, a blank before each
spaced_room : (f : Role → List ℕ) (room : Role → ℕ) → ((r : Role) → length (f r) ≤ room r) → (rs : List Role) → length (spaced (map f rs)) ≤ roles_room room rs
unfolding spaced roles_room
spaced_room f room h [] = omega arith
spaced_room f room h (r ∷ rs) = omega (arith, h r, spaced_room f room h rs, length-append (blank ∷ f r) (spaced (map f rs)))

pub operands_fit : (width : Width) (word : ℕ) → length (spaced (shown_texts width (decode width word))) ≤ 14
unfolding decode assembled
operands_fit width word =
    let o = operation_of (opcode_of width word) in
    le_trans (spaced_room (operand_text (decode width word)) (role_room (layout_of width (properties o).form)) (operand_room width word) (shown_roles width o)) (leb-true _ 14 (rows_fit width (opcode_of width word)))

-- ---- values

-- every value that is shown is one of 32 bits
pub value_fits : (width : Width) (word : ℕ) (r : Role) → mag (shown_value (decode width word) r) < 2 ^ 31
unfolding shown_value
value_fits width word Dreg = omega (arith, (in_range width word).dreg)
value_fits width word Sreg1 = omega (arith, (in_range width word).sreg1)
value_fits width word Sreg2 = omega (arith, (in_range width word).sreg2)
value_fits width word Creg = omega (arith, (in_range width word).creg)
value_fits width word Imm = omega (arith, (in_range width word).immediate)
value_fits width word Length = omega (arith, field_below (bits 10 to 5) (word_of 32 (decode width word).immediate))
value_fits width word Position = omega (arith, field_below (bits 4 to 0) (word_of 32 (decode width word).immediate))
