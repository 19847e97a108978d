-- What the nops that must follow an instruction make of it: nothing, or what comes of the first word that is none. Assumes nothing.
use mathlib.Core.Path.{◌≡◌, refl, sym, ◌∙◌}
use mathlib.Core.Bool.{◌&&◌, true≢false}
use Rattle.std.specs.Prelude.{Option, None, Some}
use Prim.Native.Nat.{ℕ, zero, suc, ◌+◌, ◌≤◌, ◌<◌}
use native.Mathlib.Omega.{arith}
use lib.Dec.{eqb}
use Rattle.word.specs.Choice.{choose◌then◌else◌}
use Rattle.word.proofs.Tests.{either}
use Rattle.isa.specs.declared.width.Width.{Width}
use Rattle.isa.specs.declared.width.Width.TheVariants.{Narrow, Wide}
use Rattle.isa.specs.Operation.{operation_of, properties, unavailable}
use Rattle.isa.specs.Computed.{instructions}
use Rattle.isa.specs.Decode.{opcode_of, assembled, decode}
use Rattle.isa.specs.declared.instruction.Instruction.{Instruction}
use Rattle.isa.proofs.Table.{values, agree}
use Rattle.isa.proofs.Decoded.{in_range}
use Rattle.machine.specs.Machine.{user_mode, width_of}
use Rattle.execute.specs.View.{Attempt, Found, Raises, Stops, found_then, View, with_following, condition_false, nops_from, nops_after}
use Rattle.execute.specs.Theorems.{NopAt, NotNopAt, protected, absent, other, FirstOther, Checked, all_nops, not_all}
use Rattle.machine.specs.Effect.{Effect, Stopped, Raised}
use Rattle.execute.specs.Execute.{on_found, after_this, target_by, jumped, branch, execute}
use Rattle.execute.specs.Decide.{perform, if_available, instruction, fetched_then, Passes}

-- words 0 are nops
all_nops_law : (width : Width) (k n : ℕ) → nops_from width (λ j. Found 0) k n ≡ Found tt
unfolding nops_from found_then instructions choose◌then◌else◌
all_nops_law width k zero = refl
all_nops_law Narrow k (suc n) = all_nops_law Narrow (suc k) n
all_nops_law Wide k (suc n) = all_nops_law Wide (suc k) n

-- the exception or the stop that comes of it
abbrev pub Refuses : Attempt (Unit {0}) → Effect → Type 0
Refuses (Found x) e = ⊥
Refuses (Raises c) e = e ≡ Raised c
Refuses (Stops n) e = e ≡ Stopped n

-- the effect of an instruction in place of another: the same, and then the nops follow, if it comes to them; or what comes of the first word that is none
pub data Effects (v : View) (i : Instruction) (count : ℕ) (now before : Effect) : Type 0 where
  alike : (Passes v i → (k : ℕ) → 1 ≤ k → k < 1 + count → NopAt v k) → now ≡ before → Effects v i count now before
  denied : Passes v i → (a : Attempt (Unit {0})) → FirstOther v 1 count a → Refuses a now → Effects v i count now before

module _ (v : View) where
  -- the same view with nops after the instruction
  abbrev u : View
  u = with_following (λ k. Found 0) v

  -- no operation asks for the words after it
  performed_same : (i : Instruction) → i.opcode < 64 → perform v i (operation_of i.opcode) ≡ perform u i (operation_of i.opcode)
  unfolding instructions values with_following perform execute jumped branch target_by after_this
  performed_same i h = agree (λ n. perform v i (operation_of n)) (λ n. perform u i (operation_of n)) 0 64 refl i.opcode (omega arith) h

  module _ (checked : (count : ℕ) → Checked v 1 count (nops_after v count)) where
    module _ (i : Instruction) (h : i.opcode < 64) where
      abbrev count : ℕ
      count = (properties (operation_of i.opcode)).nops

      refuses : {k : ℕ} (e : Effect) (a : Attempt (Unit {0})) → NotNopAt v k a → Refuses a (on_found (λ _. e) a)
      unfolding on_found
      refuses e a (protected p) = refl
      refuses e a (absent p) = refl
      refuses e a (other w p d) = refl

      checked_effects : Passes v i → (e : Effect) (a : Attempt (Unit {0})) → Checked v 1 count a → Effects v i count (on_found (λ _. e) a) e
      unfolding on_found
      checked_effects p e a (all_nops f q) = alike (λ _. f) (rw q)
      checked_effects p e a (not_all x) = denied p a x (refuses e a x.other)

      available_effects : (o : Option ℕ) → unavailable (properties (operation_of i.opcode)).availability (width_of v.status) (user_mode v.status) ≡ o
          → Effects v i count (if_available v i (operation_of i.opcode) o) (if_available u i (operation_of i.opcode) o)
      unfolding if_available with_following condition_false choose◌then◌else◌ on_found
      available_effects (Some c) o = alike (λ p. absurd (let e = p.available in let z : ◌≡◌ {A = ℕ} 0 1 = cc in omega arith)) refl
      available_effects None o =
          either ((properties (operation_of i.opcode)).transfer && eqb v.position.slot 1)
          (λ t. alike (λ p. absurd (true≢false (sym t ∙ p.in_no_slot))) (rw t))
          (λ t.
          either (condition_false v i)
          (λ c. alike (λ p. absurd (true≢false (sym c ∙ p.holds))) (rw (t, c)))
          (λ c.
          rw (t, c, all_nops_law (width_of v.status) 1 count, ← (performed_same i h))
          (checked_effects (record { available = o; in_no_slot = t; holds = c }) (perform v i (operation_of i.opcode)) _ (checked count))))

    -- an instruction word
    pub word_effects : (w : ℕ) → let i = decode (width_of v.status) w in
        Effects v i (properties (operation_of (opcode_of (width_of v.status) w))).nops (fetched_then v (Found w)) (fetched_then u (Found w))
    unfolding fetched_then on_found instruction with_following decode assembled
    word_effects w = available_effects (decode (width_of v.status) w) (in_range (width_of v.status) w).opcode _ refl
