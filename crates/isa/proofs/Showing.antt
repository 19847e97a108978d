-- What a listing shows of an instruction, against its rules. Assumes nothing.
use mathlib.Core.Path.{◌≡◌, refl, ap, ◌∙◌}
use mathlib.Core.Bool.{Bool, true, false, not, ◌&&◌, ◌||◌, and-false}
use mathlib.Core.List.{List, [], ◌∷◌, ◌++◌}
use Prim.Native.Nat.{ℕ, ◌+◌, ◌≤◌}
use native.Mathlib.Omega.{arith}
use lib.Dec.{leb, eqb}
use borrow.Author.Tests.{ne_eqb}
use Rattle.word.specs.Choice.{choose◌then◌else◌}
use Rattle.word.specs.Word.{Field}
use Rattle.word.proofs.Tests.{either, and_parts}
use Rattle.isa.specs.Text.{bytes}
use Rattle.isa.specs.declared.width.Width.{Width}
use Rattle.isa.specs.declared.width.Width.TheVariants.{Narrow, Wide}
use Rattle.isa.specs.Operation.{operation_of, properties}
use Rattle.isa.specs.Condition.{condition_of, name_of}
use Rattle.isa.specs.declared.form.Role.{Role}
use Rattle.isa.specs.declared.form.Role.TheVariants.{Dreg, Sreg1, Sreg2, Creg, Imm, Length, Position}
use Rattle.isa.specs.Format.{fields_of, conditional_field, Layout, layout_of}
use Rattle.isa.specs.Decode.{register_of, operands_of, opcode_of, assembled, decode}
use Rattle.isa.specs.Shown.{has_form, shown_roles}
use Rattle.isa.specs.Computed.{instructions}
use Rattle.isa.specs.Theorems.{between, FormIs, BranchNames, SignedIs, HighRegister, All, NarrowShown}
use Rattle.isa.proofs.Table.{values, agree, by_number}
use Rattle.isa.proofs.Rules.{not_between, unavailable_is}
use Rattle.isa.proofs.Decoded.{register_there, in_range}

pub form_is : FormIs
unfolding has_form choose◌then◌else◌
form_is wide n =
    let t = (between 34 35 n || leb 63 n) && not wide in
    ap (λ (k : ℕ). eqb k 0) (unavailable_is wide false n)
    ∙ ap (λ (b : Bool). eqb (choose◌then◌else◌ (t || b) 2 0) 0) (and-false (eqb n 49 || eqb n 51))
    ∙ either t (λ e. rw e) (λ e. rw e)

pub branch_names : BranchNames
unfolding instructions values
branch_names n h = agree (λ n. (properties (operation_of (40 + n))).mnemonic) (λ n. bytes "b" ++ name_of (condition_of n)) 0 8 refl n (omega arith) h

-- the sign of an operation's immediate
pub signed_is : SignedIs
unfolding instructions values
signed_is width = by_number (λ o. (layout_of width (properties o).form).immediate.signed) (λ n. ((eqb n 18 || eqb n 22) || (between 27 28 n || eqb n 33)) || (between 36 37 n || between 40 47 n)) (computed width) high
  where
    computed : (width : Width) → values (λ n. (layout_of width (properties (operation_of n)).form).immediate.signed) 0 64 ≡ values (λ n. ((eqb n 18 || eqb n 22) || (between 27 28 n || eqb n 33)) || (between 36 37 n || between 40 47 n)) 0 64
    computed Narrow = refl
    computed Wide = refl

    high : (n : ℕ) → 64 ≤ n → ((eqb n 18 || eqb n 22) || (between 27 28 n || eqb n 33)) || (between 36 37 n || between 40 47 n) ≡ false
    high n h = rw (ne_eqb n 18 (λ e. omega arith), ne_eqb n 22 (λ e. omega arith), not_between 27 28 n (omega arith), ne_eqb n 33 (λ e. omega arith), not_between 36 37 n (omega arith), not_between 40 47 n (omega arith))

-- ---- the registers of 16-bit words

-- an operand has a field, and is no condition register
unfoldable there : List Field → Bool
there [] = false
there (f ∷ fs) = true

unfoldable present : Layout → Role → Bool
present l Dreg = there l.dreg
present l Sreg1 = there l.sreg1
present l Sreg2 = there l.sreg2
present l Creg = false
present l Imm = true
present l Length = true
present l Position = true

unfoldable all_present : Layout → List Role → Bool
all_present l [] = true
all_present l (r ∷ rs) = present l r && all_present l rs

-- so it is of the operands that are shown of every 16-bit word, computed
rows_present : (n : ℕ) → all_present (layout_of Narrow (properties (operation_of n)).form) (shown_roles Narrow (operation_of n)) ≡ true
unfolding instructions values there present all_present
rows_present = by_number (λ o. all_present (layout_of Narrow (properties o).form) (shown_roles Narrow o)) (λ n. true) refl (λ n h. refl)

there_high : (fs : List Field) (word : ℕ) → there fs ≡ true → 24 ≤ register_of Narrow fs word
unfolding there
there_high [] word e = let z : ◌≡◌ {A = ℕ} 0 1 = cc in absurd (omega arith)
there_high (f ∷ fs) word e = register_there f fs word

module _ (word : ℕ) where
  abbrev l : Layout
  l = layout_of Narrow (properties (operation_of (opcode_of Narrow word))).form

  narrow : (r : Role) → present l r ≡ true → HighRegister (decode Narrow word) r
  unfolding HighRegister present decode assembled operands_of
  narrow Dreg e = (there_high l.dreg word e, omega (arith, (in_range Narrow word).dreg))
  narrow Sreg1 e = (there_high l.sreg1 word e, omega (arith, (in_range Narrow word).sreg1))
  narrow Sreg2 e = (there_high l.sreg2 word e, omega (arith, (in_range Narrow word).sreg2))
  narrow Creg e = let z : ◌≡◌ {A = ℕ} 0 1 = cc in omega arith
  narrow Imm e = tt
  narrow Length e = tt
  narrow Position e = tt

  all_narrow : (rs : List Role) → all_present l rs ≡ true → All (HighRegister (decode Narrow word)) rs
  unfolding All all_present
  all_narrow [] e = tt
  all_narrow (r ∷ rs) e = let t = and_parts (present l r) (all_present l rs) e in (narrow r t.0, all_narrow rs t.1)

pub narrow_shown : NarrowShown
unfolding decode assembled conditional_field fields_of
narrow_shown word = (refl, all_narrow word (shown_roles Narrow (operation_of (opcode_of Narrow word))) (rows_present (opcode_of Narrow word)))
