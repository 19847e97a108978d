-- A listing shows the same of words that are read as the same choice. Assumes nothing.
use mathlib.Core.Path.{◌≡◌, refl, sym, ap, ◌∙◌}
use mathlib.Core.List.{List, [], ◌∷◌, ◌++◌, map}
use Rattle.std.specs.Prelude.{Option, Some, None}
use Rattle.std.specs.List.{slice_get}
use Prim.Native.Nat.{ℕ, zero, suc, ◌≤◌, ◌<◌}
use native.Mathlib.Omega.{arith}
use lib.IntN.{ℤ, pos}
use lib.ListN.{length}
use Rattle.word.specs.Choice.{choose◌then◌else◌}
use Rattle.word.proofs.Tests.{either}
use Rattle.isa.specs.Operation.{operation_of}
use Rattle.isa.specs.Condition.{condition_of, name_of}
use Rattle.isa.specs.declared.form.Role.{Role}
use Rattle.isa.specs.declared.form.Role.TheVariants.{Creg}
use Rattle.isa.specs.Decode.{decode}
use Rattle.isa.specs.Shown.{shown_roles, shown_value}
use Rattle.isa.specs.declared.instruction.Instruction.{Instruction}
use Rattle.listing.specs.Line.{integer_text, prefix_of, operand_text, joined, operands_text, name_text, condition_text}
use Rattle.listing.proofs.Rooms.{roles_few}
use Rattle.encoder.specs.declared.Guard.{Guard}
use Rattle.encoder.specs.Encode.{Choice, guard_by, guard_of, value_for, choice_of}
use Rattle.encoder.specs.Theorems.{ChoiceShown}

-- the text of a condition
unfoldable guard_text : Option Guard → List ℕ
guard_text None = []
guard_text (Some g) = joined (name_of (condition_of g.condition) ∷ (prefix_of Creg ++ integer_text (pos g.creg)) ∷ [])

condition_text_law : (i : Instruction) → condition_text i ≡ guard_text (guard_of i)
unfolding guard_text guard_of guard_by condition_text operand_text shown_value choose◌then◌else◌
condition_text_law i = either i.conditional (λ t. rw t) (λ t. rw t)

-- the texts of operands with the same values
operand_texts : (i j : Instruction) (rs : List Role) (n : ℕ) → length rs ≤ n → ((k : ℕ) → k < n → value_for i (slice_get rs k) ≡ value_for j (slice_get rs k))
    → map (operand_text i) rs ≡ map (operand_text j) rs
unfolding operand_text value_for
operand_texts i j [] n h e = refl
operand_texts i j (r ∷ rs) zero h e = absurd (omega arith)
operand_texts i j (r ∷ rs) (suc n) h e =
    let first = ap (λ (z : ℤ). prefix_of r ++ integer_text z) (e 0 (omega arith)) in
    let rest = operand_texts i j rs n (omega arith) (λ k l. e (suc k) (omega arith)) in
    cc (first, rest)

pub choice_shown : ChoiceShown
unfolding choice_of operands_text
choice_shown width word other e =
    let i = decode width word in
    let j = decode width other in
    let operation : i.opcode ≡ j.opcode = ap (λ (c : Choice). c.operation) e in
    let roles : (n : ℕ) → List Role = λ n. shown_roles width (operation_of n) in
    record {
      condition = condition_text_law i ∙ ap (λ (c : Choice). guard_text c.guard) e ∙ sym (condition_text_law j);
      name = ap (λ (n : ℕ). name_text width (operation_of n)) operation;
      operands =
          ap joined
          (operand_texts i j (roles i.opcode) 4 (roles_few width i.opcode) (λ k l. values k l ∙ ap (λ (n : ℕ). value_for j (slice_get (roles n) k)) (sym operation))
          ∙ ap (λ (n : ℕ). map (operand_text j) (roles n)) operation);
    }
  where
    values : (k : ℕ) → k < 4
        → value_for (decode width word) (slice_get (shown_roles width (operation_of (decode width word).opcode)) k)
        ≡ value_for (decode width other) (slice_get (shown_roles width (operation_of (decode width other).opcode)) k)
    values zero l = ap (λ (c : Choice). c.first) e
    values (suc zero) l = ap (λ (c : Choice). c.second) e
    values (suc (suc zero)) l = ap (λ (c : Choice). c.third) e
    values (suc (suc (suc zero))) l = ap (λ (c : Choice). c.fourth) e
    values (suc (suc (suc (suc k)))) l = absurd (omega arith)
