-- An instruction word carried out, by what the tests of its instruction give. Assumes nothing.
use mathlib.Core.Path.{◌≡◌, refl, ap}
use mathlib.Core.Bool.{Bool, true, false, ◌&&◌, and-false}
use mathlib.Core.List.{List}
use Prim.Native.Nat.{ℕ, ◌≤◌, ◌<◌}
use native.Mathlib.Omega.{arith}
use lib.Dec.{eqb}
use lib.ListN.{get_or}
use Rattle.std.specs.Prelude.{Option, Some, None, Result, Ok, Err}
use Rattle.word.specs.Choice.{choose◌then◌else◌}
use Rattle.word.proofs.Tests.{either}
use Rattle.isa.specs.declared.width.Width.{Width}
use Rattle.isa.specs.declared.operation.Operation.{Operation}
use Rattle.isa.specs.declared.operation.Operation.TheVariants.{Ld, St}
use Rattle.isa.specs.declared.instruction.Instruction.{Instruction}
use Rattle.isa.specs.Operation.{operations, operation_of, properties, unavailable}
use Rattle.isa.specs.Format.{fields_of, conditional_field}
use Rattle.isa.specs.Decode.{opcode_of, assembled, decode}
use Rattle.isa.specs.Computed.{instructions}
use Rattle.isa.proofs.Decoded.{opcode_below, in_range}
use Rattle.isa.proofs.Table.{values, agree}
use Rattle.isa.proofs.Groups.{usable_low, usable_jump, no_transfer, transfers, no_nops, no_field_transfer, no_field_nops}
use Rattle.isa.proofs.Rules.{nops_few}
use Rattle.machine.specs.declared.fault.Fault.{Fault}
use Rattle.machine.specs.declared.fault.Fault.TheVariants as fault
use Rattle.machine.specs.Machine.{Machine, Memory, State, state_of, psr, user_mode, width_of, set_by, reads_set2}
use Rattle.machine.specs.Position.{slot_of}
use Rattle.machine.specs.Fault.{effect_of}
use Rattle.machine.specs.Effect.{Effect, Stopped, Next}
use Rattle.machine.specs.Apply.{advance, apply, machine_only, updated}
use Rattle.execute.specs.View.{Attempt, Found, Raises, Stops, attempted, found_then, View, view, view_of, condition_false, nops_from, nops_after}
use Rattle.execute.specs.Execute.{on_found, execute}
use Rattle.execute.specs.Decide.{perform, if_available, instruction, fetched_then}
use Rattle.execute.specs.Promises.{settled, available_by, in_no_slot, allowed}

module _ (p : List ℕ) (m : Machine) (memory : Memory) (word : ℕ) where
  abbrev v : View
  v = view_of p m memory

  abbrev i : Instruction
  i = decode (width_of (psr m)) word

  abbrev op : Operation
  op = operation_of (opcode_of (width_of (psr m)) word)

  abbrev done : Result State Effect
  done = settled (fetched_then v (Found word)) (state_of m memory)

  -- ---- the order of the tests

  abbrev by_answer : Attempt (Unit {0}) → Effect
  by_answer a = on_found (λ _. choose condition_false v i then Next else on_found (λ _. perform v i op) (nops_after v (properties op).nops)) a

  by_slot : (transfer : Bool) (rest : Effect)
      → (choose transfer && eqb m.position.slot 1 then Stopped 13 else rest) ≡ on_found (λ _. rest) (choose transfer then in_no_slot (slot_of m.position) else Found tt)
  unfolding on_found slot_of choose◌then◌else◌
  by_slot true rest = either (eqb m.position.slot 1) (λ e. rw e refl) (λ e. rw e refl)
  by_slot false rest = refl

  by_code : (o : Option ℕ)
      → if_available v i op o ≡ by_answer (found_then (available_by o) (λ _. choose (properties op).transfer then in_no_slot (slot_of m.position) else Found tt))
  unfolding if_available on_found found_then view
  by_code (Some code) = refl
  by_code None = by_slot (properties op).transfer _

  in_order : fetched_then v (Found word) ≡ by_answer (allowed op m)
  unfolding fetched_then on_found instruction allowed view decode assembled
  in_order = by_code _

  -- ---- what they give

  -- an exception or a stop before the condition
  pub refused : (why : Fault) → allowed op m ≡ attempted (Err why) → Err (effect_of why) ≡ done
  unfolding on_found
  refused (fault.Exception e) a = rw (in_order, a) refl
  refused (fault.Stop e) a = rw (in_order, a) refl

  module _ (a : allowed op m ≡ Found tt) where
    -- a false condition
    pub skipped : condition_false v i ≡ true → done ≡ Ok (state_of (advance m) memory)
    unfolding on_found apply machine_only updated choose◌then◌else◌
    skipped c = rw (in_order, a, c) refl

    module _ (c : condition_false v i ≡ false) where
      -- an exception or a stop by the nops that must follow
      pub nops_refused : (why : Fault) → nops_after v (properties op).nops ≡ attempted (Err why) → Err (effect_of why) ≡ done
      unfolding on_found choose◌then◌else◌
      nops_refused (fault.Exception e) n = rw (in_order, a, c, n) refl
      nops_refused (fault.Stop e) n = rw (in_order, a, c, n) refl

      -- its own effect on its two sources
      pub performed : nops_after v (properties op).nops ≡ Found tt
          → done ≡ settled (execute op v i (get_or (set_by (reads_set2 (psr m)) m) i.sreg1 0) (get_or (set_by (reads_set2 (psr m)) m) i.sreg2 0)) (state_of m memory)
      unfolding on_found choose◌then◌else◌ perform view
      performed n = rw (in_order, a, c, n) refl

-- ---- the tests of groups of operations

-- nop to cmpi: nothing is asked before the condition
pub low_allowed : (m : Machine) (n : ℕ) → n < 34 → allowed (operation_of n) m ≡ Found tt
unfolding allowed found_then choose◌then◌else◌
low_allowed m n h = rw (usable_low _ _ n h, no_transfer n (omega arith)) refl

found_only : (a : Attempt (Unit {0})) → found_then a (λ _. Found tt) ≡ a
unfolding found_then
found_only (Found x) = refl
found_only (Raises c) = refl
found_only (Stops n) = refl

-- of operations that are no control transfers, as mov to lui and conb to exbfi: whether they may be used
pub use_allowed : (m : Machine) (op : Operation) → (properties op).transfer ≡ false
    → allowed op m ≡ available_by (unavailable (properties op).availability (width_of (psr m)) (user_mode (psr m)))
unfolding allowed choose◌then◌else◌
use_allowed m op t = rw t (found_only _)

-- of jumps and branches: the slot
pub jump_allowed : (m : Machine) (n : ℕ) → 36 ≤ n → n < 48 → allowed (operation_of n) m ≡ in_no_slot (slot_of m.position)
unfolding allowed found_then choose◌then◌else◌
jump_allowed m n l h = rw (usable_jump _ _ n l h, transfers n l h) refl

-- branches are never conditional
never_conditional : (n : ℕ) → 40 ≤ n → n < 48 → (properties (operation_of n)).conditional ≡ false
unfolding instructions values
never_conditional = agree (λ n. (properties (operation_of n)).conditional) (λ n. false) 40 8 refl

pub unconditional : (v : View) (width : Width) (word : ℕ) → 40 ≤ opcode_of width word → opcode_of width word < 48 → condition_false v (decode width word) ≡ false
unfolding condition_false decode assembled
unconditional v width word l h = rw (never_conditional (opcode_of width word) l h, and-false (eqb (fields_of (conditional_field width) word) 1)) refl

-- where no nops must follow, they are there
pub nops_none : (v : View) (op : Operation) → (properties op).nops ≡ 0 → nops_after v (properties op).nops ≡ Found tt
unfolding nops_from
nops_none v op n = rw n refl

-- of nop to cmpi, whose condition is not false: its own effect, by the clause of its number
pub low_performed_as : (p : List ℕ) (m : Machine) (memory : Memory) (word n : ℕ) → n < 34 → opcode_of (width_of (psr m)) word ≡ n
    → let v = view_of p m memory in let i = decode (width_of (psr m)) word in condition_false v i ≡ false
    → (x y : ℕ) → x ≡ v.source i.sreg1 → y ≡ v.source i.sreg2 → fetched_then v (Found word) ≡ execute (operation_of n) v i x y
unfolding on_found choose◌then◌else◌ perform
low_performed_as p m memory word n h e c x y a b =
    let op = opcode_of (width_of (psr m)) word in
    let usable : allowed (operation_of op) m ≡ Found tt = low_allowed m op (omega (arith, e, h)) in
    let none : nops_after (view_of p m memory) (properties (operation_of op)).nops ≡ Found tt = nops_none (view_of p m memory) (operation_of op) (no_nops op (omega (arith, e, h))) in
    rw (in_order p m memory word, usable, c, none, a, b, ← e) refl

-- nop: conditional or not, nothing but PC moves
pub nothing : (p : List ℕ) (m : Machine) (memory : Memory) (word : ℕ) → opcode_of (width_of (psr m)) word ≡ 0 → done p m memory word ≡ Ok (state_of (advance m) memory)
unfolding execute apply machine_only updated operations operation_of
nothing p m memory word z =
    let a : allowed (op p m memory word) m ≡ Found tt = low_allowed m (opcode_of (width_of (psr m)) word) (omega arith) in
    either (condition_false (v p m memory word) (i p m memory word))
    (skipped p m memory word a)
    (λ c. ap (λ (e : Effect). settled e (state_of m memory)) (low_performed_as p m memory word 0 (omega arith) z c _ _ refl refl))

-- ---- numbers of operations

pub number_is : (width : Width) (word : ℕ) → (decode width word).opcode ≡ opcode_of width word
unfolding decode assembled
number_is width word = refl

pub is_ld : (n : ℕ) → 27 ≤ n → n < 28 → operation_of n ≡ Ld
unfolding operations operation_of
is_ld n l h = let e : n ≡ 27 = omega arith in rw e refl

pub is_st : (n : ℕ) → 27 < n → n ≤ 28 → operation_of n ≡ St
unfolding operations operation_of
is_st n l h = let e : n ≡ 28 = omega arith in rw e refl

-- what the words of all groups are proved by
pub ruleset word_tests = (refused, skipped, nops_refused, performed, low_allowed, use_allowed, jump_allowed, unconditional, nops_none, nothing, number_is, is_ld, is_st, opcode_below, in_range, no_transfer, no_field_transfer, no_nops, no_field_nops, nops_few)
