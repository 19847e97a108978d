-- The table of operations by number: a test computed for the 64 numbers is a law. Assumes nothing.
use mathlib.Core.Path.{◌≡◌, sym, ap, ◌∙◌}
use mathlib.Core.Bool.{Bool}
use mathlib.Core.List.{List, [], ◌∷◌}
use Prim.Native.Nat.{ℕ, zero, suc, ◌+◌, ◌≤◌, ◌<◌}
use native.Mathlib.Omega.{arith}
use lib.Dec.{ltb}
use lib.ListN.{get_or-eq_default}
use borrow.Author.Tests.{ltb-true, ltb-false}
use Rattle.word.proofs.Tests.{either}
use Rattle.isa.specs.declared.width.Width.{Width}
use Rattle.isa.specs.declared.width.Width.TheVariants.{Narrow, Wide}
use Rattle.isa.specs.declared.operation.Operation.{Operation}
use Rattle.isa.specs.declared.operation.Operation.TheVariants.{Exbfi}
use Rattle.isa.specs.declared.form.Form.{Form}
use Rattle.isa.specs.Operation.{operations, operation_of, properties}
use Rattle.isa.specs.Decode.{opcode_of, operands_of}
use Rattle.isa.specs.declared.instruction.Operands.{Operands}

module _ {A : Type 0} where
  -- the values of f at `first` and the numbers after it, `count` of them
  unfoldable pub values : (ℕ → A) → (first count : ℕ) → List A
  values f first zero = []
  values f first (suc count) = f first ∷ values f (suc first) count

  -- equal lists of values are equal values
  pub agree : (f g : ℕ → A) (first count : ℕ) → values f first count ≡ values g first count → (n : ℕ) → first ≤ n → n < first + count → f n ≡ g n
  unfolding values
  agree f g first zero e n l h = let z : ⊥ = omega arith in absurd z
  agree f g first (suc count) e n l h =
      either (ltb first n)
      (λ t. let k : first < n = ltb-true first n t in agree f g (suc first) count (cc) n (omega arith) (omega arith))
      (λ t.
      let k : n ≤ first = ltb-false first n t in
      let here : n ≡ first = omega arith in
      let same : f first ≡ g first = cc in
      cc)

-- beyond the table it is as at 63
beyond : (n : ℕ) → 64 ≤ n → operation_of n ≡ Exbfi
unfolding operation_of operations
beyond n h = get_or-eq_default operations Exbfi h

-- a property of the operations, computed for the 64 numbers, at every number: beyond them it is as at 63
pub by_number : {A : Type 0} (f : Operation → A) (g : ℕ → A) → values (λ n. f (operation_of n)) 0 64 ≡ values g 0 64
    → ((n : ℕ) → 64 ≤ n → g n ≡ g 63) → (n : ℕ) → f (operation_of n) ≡ g n
unfolding operation_of operations
by_number f g e high n =
    either (ltb n 64)
    (λ t. agree (λ n. f (operation_of n)) g 0 64 e n (omega arith) (ltb-true n 64 t))
    (λ t.
    let l : 64 ≤ n = ltb-false n 64 t in
    let last : f Exbfi ≡ g 63 = agree (λ n. f (operation_of n)) g 0 64 e 63 (omega arith) (omega arith) in
    ap f (beyond n l) ∙ last ∙ sym (high n l))

-- a number that is none of the first 63 is read as the last
pub last_law : (n : ℕ) → 63 ≤ n → operation_of n ≡ Exbfi
unfolding operation_of operations
last_law n h =
    either (ltb 63 n)
    (λ t. beyond n (ltb-true 63 n t))
    (λ t.
    let l : n ≤ 63 = ltb-false 63 n t in
    let e : n ≡ 63 = omega arith in
    ap operation_of e)

-- the operands of a 16-bit word whose operation has the form of its neighbours; width is known to be that of 16-bit words
pub narrow_row : {width : Width} {o : Operands} (form : Form) (first count : ℕ)
    → values (λ n. (properties (operation_of n)).form) first count ≡ values (λ n. form) first count
    → (word : ℕ) → width ≡ Narrow → first ≤ opcode_of width word → opcode_of width word < first + count → o ≡ operands_of Narrow form word
    → o ≡ operands_of Narrow (properties (operation_of (opcode_of Narrow word))).form word
narrow_row form first count e word known l h operands =
    rw (operands, ← known, agree (λ n. (properties (operation_of n)).form) (λ n. form) first count e (opcode_of _ word) l h)

-- the same of a 32-bit word, and whether its operation may be conditional
pub wide_row : {width : Width} {optional : Bool} {o : Operands} (form : Form) (first count : ℕ)
    → values (λ n. (properties (operation_of n)).conditional) first count ≡ values (λ n. optional) first count
    → values (λ n. (properties (operation_of n)).form) first count ≡ values (λ n. form) first count
    → (word : ℕ) → width ≡ Wide → first ≤ opcode_of width word → opcode_of width word < first + count → o ≡ operands_of Wide form word
    → (optional ≡ (properties (operation_of (opcode_of Wide word))).conditional) × (o ≡ operands_of Wide (properties (operation_of (opcode_of Wide word))).form word)
wide_row {width} {optional} form first count c e word known l h operands = (
  sym (rw (← known) (agree (λ n. (properties (operation_of n)).conditional) (λ n. optional) first count c (opcode_of width word) l h)),
  rw (operands, ← known, agree (λ n. (properties (operation_of n)).form) (λ n. form) first count e (opcode_of width word) l h),
)
