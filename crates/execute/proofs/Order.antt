-- The order of an instruction's tests, by what each gives. Assumes nothing.
use mathlib.Core.Path.{◌≡◌, refl, ◌∙◌}
use Rattle.std.specs.Prelude.{Option, None}
use mathlib.Core.Bool.{Bool, true, false, ◌&&◌}
use Prim.Native.Nat.{ℕ}
use lib.Dec.{eqb}
use Rattle.word.specs.Choice.{choose◌then◌else◌}
use Rattle.isa.specs.Operation.{operation_of, unavailable, properties}
use Rattle.isa.specs.Decode.{decode}
use Rattle.isa.specs.declared.instruction.Instruction.{Instruction}
use Rattle.machine.specs.Machine.{user_mode, width_of}
use Rattle.execute.specs.View.{Attempt, Found, Raises, Stops, View, condition_false, nops_from, nops_after}
use Rattle.execute.specs.Execute.{on_found}
use Rattle.machine.specs.Effect.{Next}
use Rattle.execute.specs.Decide.{perform, if_available, instruction, fetched_then}

-- ---- what was fetched

-- a word is its instruction
pub fetched_word : (v : View) (w : ℕ) → fetched_then v (Found w) ≡ instruction v (decode (width_of v.status) w)
unfolding fetched_then on_found
fetched_word v w = refl

-- two views that do the same with a word do the same with what was fetched
pub fetched_same : (v u : View) (f : Attempt ℕ) → ((w : ℕ) → f ≡ Found w → fetched_then v (Found w) ≡ fetched_then u (Found w)) → fetched_then v f ≡ fetched_then u f
unfolding fetched_then on_found
fetched_same v u (Found w) h = h w refl
fetched_same v u (Raises c) h = refl
fetched_same v u (Stops n) h = refl

-- ---- an instruction

module _ (v : View) (i : Instruction) where
  -- the code of the exception where it may not be used
  abbrev pub code_for : Option ℕ
  code_for = unavailable (properties (operation_of i.opcode)).availability (width_of v.status) (user_mode v.status)

  -- whether it is a control transfer in a slot
  abbrev pub transfer_in_slot : Bool
  transfer_in_slot = (properties (operation_of i.opcode)).transfer && eqb v.position.slot 1

  module _ (usable : code_for ≡ None) where
    free : instruction v i ≡ if_available v i (operation_of i.opcode) None
    unfolding instruction
    free = rw usable

    module _ (t : transfer_in_slot ≡ false) where
      -- its condition is false
      pub skipped : condition_false v i ≡ true → instruction v i ≡ Next
      unfolding if_available choose◌then◌else◌
      skipped c = free ∙ rw (t, c)

      -- by the nops that must follow
      pub nops_decide : condition_false v i ≡ false → (a : Attempt (Unit {0})) → a ≡ nops_after v (properties (operation_of i.opcode)).nops
          → instruction v i ≡ on_found (λ _. perform v i (operation_of i.opcode)) a
      unfolding if_available choose◌then◌else◌
      nops_decide c a e = free ∙ rw (t, c, ← e) refl

      -- its own effect, where there are none
      pub performed : condition_false v i ≡ false → (properties (operation_of i.opcode)).nops ≡ 0 → instruction v i ≡ perform v i (operation_of i.opcode)
      unfolding nops_from on_found
      performed c n = nops_decide c (Found tt) (rw n refl)
