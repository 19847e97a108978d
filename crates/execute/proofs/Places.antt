-- Which instructions ask a data address: ld and st alone, one address each, if their condition is not false. Assumes nothing.
use mathlib.Core.Path.{◌≡◌, refl, sym, ap, ◌∙◌}
use mathlib.Core.Bool.{true, false, ◌&&◌}
use Rattle.std.specs.Prelude.{Option, None, Some}
use Prim.Native.Nat.{ℕ, ◌≤◌, ◌<◌}
use native.Mathlib.Omega.{arith}
use lib.Dec.{eqb, ltb}
use lib.IntN.{ℤ, pos, ◌+ℤ◌}
use borrow.Author.Tests.{leb-false, le-leb, ltb-true, ltb-false}
use Rattle.word.specs.Choice.{choose◌then◌else◌}
use Rattle.word.proofs.Tests.{either, both_bounds}
use Rattle.isa.specs.Operation.{operation_of, properties}
use Rattle.isa.specs.Computed.{instructions}
use Rattle.isa.specs.Theorems.{between}
use Rattle.isa.specs.declared.instruction.Instruction.{Instruction}
use Rattle.isa.proofs.Table.{values, agree}
use Rattle.isa.proofs.Groups.{usable_low, no_transfer, no_nops}
use Rattle.execute.specs.View.{Attempt, Raises, map_found, View, with_places, condition_false, nops_after}
use Rattle.execute.specs.declared.data.Location.{Location}
use Rattle.machine.specs.Effect.{Effect, Stopped, Raised, Next}
use Rattle.execute.specs.Execute.{on_found, after_this, target_by, jumped, branch, execute}
use Rattle.execute.specs.Decide.{perform, if_available, instruction}
use Rattle.execute.proofs.Order.{code_for, transfer_in_slot, skipped, performed}

-- the address of ld and st
abbrev pub address_of : View → Instruction → ℤ
address_of v i = pos (v.source i.sreg1) +ℤ i.immediate

-- a load gives what is held where its address leads
abbrev pub LoadsPlaces : (held : Location → ℕ) → View → Type 0
LoadsPlaces held v = (z : ℤ) → v.load z ≡ map_found held (v.place z)

-- ---- ld and st may be used anywhere and are no control transfers: only the condition is asked

module _ (i : Instruction) (a : between 27 28 i.opcode ≡ true) where
  range : (27 ≤ i.opcode) × (i.opcode ≤ 28)
  range = both_bounds 27 i.opcode 28 a

  module _ (v : View) where
    usable : code_for v i ≡ None
    usable = let h = range.1 in usable_low _ _ i.opcode (omega arith)

    stays : transfer_in_slot v i ≡ false
    stays = let h = range.1 in rw (no_transfer i.opcode (omega arith))

    access_skipped : condition_false v i ≡ true → instruction v i ≡ Next
    access_skipped = skipped v i usable stays

    access_performed : condition_false v i ≡ false → instruction v i ≡ perform v i (operation_of i.opcode)
    access_performed c = let h = range.1 in performed v i usable stays c (no_nops i.opcode (omega arith))

    -- an exception where the address leads to one
    pub access_raised : (held : Location → ℕ) → LoadsPlaces held v → condition_false v i ≡ false → (code : ℕ) → v.place (address_of v i) ≡ Raises code
        → instruction v i ≡ Raised code
    unfolding instructions values execute perform on_found map_found
    access_raised held loads c code e =
        let h = range.1 in
        access_performed c
        ∙ agree (λ n. perform v i (operation_of n)) (λ n. Raised code) 27 2 (rw (loads (address_of v i), e)) i.opcode range.0 (omega arith)

-- ---- two views that differ in where data addresses lead

module _ (v : View) (place : ℤ → Attempt Location) (held : Location → ℕ) where
  abbrev u : View
  u = with_places place held v

  module _ (i : Instruction) (x y : ℕ) where
    abbrev here : ℕ → Effect
    here n = execute (operation_of n) v i x y

    abbrev there : ℕ → Effect
    there n = execute (operation_of n) u i x y

    -- all but ld and st ask no data address
    other_same : (n : ℕ) → n < 64 → between 27 28 n ≡ false → here n ≡ there n
    unfolding instructions values with_places execute jumped branch target_by after_this
    other_same n k h =
        either (ltb n 27)
        (λ a. agree here there 0 27 refl n (omega arith) (ltb-true n 27 a))
        (λ a.
        let l : 27 ≤ n = ltb-false n 27 a in
        let g : 28 < n = leb-false n 28 (rw (le-leb 27 n l) at h) in
        agree here there 29 35 refl n g (omega arith))

    -- ld and st ask one
    access_same : LoadsPlaces held v → (n : ℕ) → 27 ≤ n → n ≤ 28 → v.place (pos x +ℤ i.immediate) ≡ place (pos x +ℤ i.immediate) → here n ≡ there n
    unfolding instructions values with_places execute
    access_same loads n l h e = agree here there 27 2 (rw (loads (pos x +ℤ i.immediate), e)) n l (omega arith)

  module _ (i : Instruction) (k : i.opcode < 64) (a : between 27 28 i.opcode ≡ false) where
    other_available : (o : Option ℕ) → if_available v i (operation_of i.opcode) o ≡ if_available u i (operation_of i.opcode) o
    unfolding if_available perform with_places condition_false
    other_available (Some c) = refl
    other_available None =
        ap (λ (e : Effect). choose (properties (operation_of i.opcode)).transfer && eqb v.position.slot 1 then Stopped 13 else choose condition_false v i then Next
        else on_found (λ _. e) (nops_after v (properties (operation_of i.opcode)).nops))
        (other_same i (v.source i.sreg1) (v.source i.sreg2) i.opcode k a)

    -- another instruction is the same
    pub other_instruction : instruction v i ≡ instruction u i
    unfolding instruction with_places
    other_instruction = other_available _

  -- ld and st are the same where their address leads to the same
  pub access_instruction : LoadsPlaces held v → (i : Instruction) → between 27 28 i.opcode ≡ true
      → (condition_false v i ≡ false → v.place (address_of v i) ≡ place (address_of v i)) → instruction v i ≡ instruction u i
  unfolding with_places condition_false perform
  access_instruction loads i a h =
      either (condition_false v i)
      (λ c. access_skipped i a v c ∙ sym (access_skipped i a u c))
      (λ c.
      access_performed i a v c
      ∙ access_same i (v.source i.sreg1) (v.source i.sreg2) loads i.opcode (range i a).0 (range i a).1 (h c)
      ∙ sym (access_performed i a u c))
