-- What a decision can be: a stop has one of the numbers, an exception has the code of a test or of trap, a store goes to a place that passed the data tests, and a privileged effect is not user mode's. Assumes nothing.
use mathlib.Core.Path.{◌≡◌, refl}
use mathlib.Core.Bool.{Bool, true, false}
use Rattle.std.specs.Prelude.{Option, None, Some}
use mathlib.Core.List.{List}
use Prim.Native.Nat.{ℕ}
use native.Mathlib.Omega.{arith}
use lib.IntN.{ℤ}
use Rattle.word.specs.Choice.{choose◌then◌else◌}
use Rattle.word.specs.Flags.{is_among}
use Rattle.word.specs.Word.{word_of}
use Rattle.word.specs.declared.Sum.{Sum}
use Rattle.isa.specs.declared.operation.Operation.{Operation}
use Rattle.isa.specs.declared.width.Width.{Width}
use Rattle.isa.specs.declared.width.Width.TheVariants.{Narrow, Wide}
use Rattle.isa.specs.declared.operation.Operation.TheVariants.{Nop, Add, Addu, Sub, Subu, And, Or, Xor, Muls, Mulu, Mulus, Muls16, Mulu16, Mulus16, Sll, Srl, Sra, Sext, Addi, Addiu, Andi, Ori, Muli, Slli, Srli, Srai, Sexti, Ld, St, Mov, Not, Mulhi, Cmp, Cmpi, Lli, Lui, Jmp, Jal, Jmpr, Jalr, Bc, Begt, Belt, Beq, Bgt, Blt, Bne, Bnc, Scall, Retu, Reti, Chrs, Di, Ei, Swm, Trap, Scon, Rcon, Conb, Conh, Exb, Exh, Exbf, Exbfi}
use Rattle.isa.specs.Operation.{operation_of, Availability, anywhere, wide_only, super_only, unavailable, code_of, properties}
use Rattle.isa.specs.declared.condition.Condition.{Condition}
use Rattle.isa.specs.Decode.{decode}
use Rattle.isa.specs.declared.instruction.Instruction.{Instruction}
use Rattle.machine.specs.Machine.{State, user_mode, width_of}
use Rattle.execute.specs.View.{Attempt, Found, Raises, Stops, View, view}
use Rattle.execute.specs.declared.data.Location.{Location}
use Rattle.execute.specs.declared.data.Location.TheVariants.{Block, Cell}
use Rattle.execute.proofs.Addresses.{Reached}
use Rattle.execute.proofs.Answers.{Code, tests, traps, Numbered, AnswersNumbered, view_numbered, nops_numbered}
use Rattle.word.proofs.Tests.{if_holds}
use Rattle.word.proofs.Bounds.{word_below}
use Rattle.execute.specs.Execute.{checked, wrapped, product, on_found, stored, target_by, jumped, branch, execute}
use Rattle.execute.specs.Decide.{perform, if_available, instruction, fetched_then, decide}
use Rattle.machine.specs.Update.{Update}
use Rattle.machine.specs.Update as update
use Rattle.machine.specs.Kind.{STOPS}
use Rattle.machine.specs.Effect.{Effect, Stopped, Raised, SystemCall, InterruptReturn, StoreCell, Updates, Jump, JumpLink}

-- what a view allows of the plain updates: a store to a register of the block that passed the data tests, and what is super user's in that mode
abbrev pub SafeUpdate : View → Update → Type 0
SafeUpdate v (update.StoreControl n x) = Reached v (Block n)
SafeUpdate v update.UserReturn = user_mode v.status ≡ false
SafeUpdate v (update.SelectSets n) = user_mode v.status ≡ false
SafeUpdate v update.Next = Unit {0}
SafeUpdate v (update.Result d x) = Unit {0}
SafeUpdate v (update.ResultFlags d x f) = Unit {0}
SafeUpdate v (update.ResultProduct d h l) = Unit {0}
SafeUpdate v (update.Compare c f) = Unit {0}
SafeUpdate v (update.Conditions x) = Unit {0}
SafeUpdate v (update.Jump t) = Unit {0}
SafeUpdate v (update.JumpLink t) = Unit {0}
SafeUpdate v (update.EnableInterrupts e) = Unit {0}
SafeUpdate v (update.SwitchWidth w) = Unit {0}

-- and of effects
abbrev pub Safe : View → Effect → Type 0
Safe v (Stopped n) = is_among n STOPS ≡ true
Safe v (Raised c) = Code c
Safe v SystemCall = Unit {0}
Safe v InterruptReturn = v.nested ≡ true
Safe v (StoreCell a x) = Reached v (Cell a)
Safe v (Updates u) = SafeUpdate v u

-- ---- the parts that operations share

module _ (v : View) where
  if_safe : (b : Bool) (x y : Effect) → (b ≡ true → Safe v x) → (b ≡ false → Safe v y) → Safe v (choose◌then◌else◌ b x y)
  if_safe b x y f g = if_holds (Safe v) b f g

  checked_safe : (d : ℕ) (s : Sum) → Safe v (checked d s)
  unfolding checked
  checked_safe d s = if_safe _ _ _ (λ _. tests refl) (λ _. tt)

  found_safe : {A : Type 0} (f : A → Effect) (t : Attempt A) → Numbered t → ((x : A) → t ≡ Found x → Safe v (f x)) → Safe v (on_found f t)
  unfolding on_found
  found_safe f (Found x) n h = h x refl
  found_safe f (Raises c) n h = n
  found_safe f (Stops k) n h = n

  stored_safe : (x : ℕ) (l : Location) → Reached v l → Safe v (stored x l)
  unfolding stored
  stored_safe x (Block n) h = h
  stored_safe x (Cell a) h = h

  jumped_safe : (z : ℤ) (taken : ℕ → Effect) → ((t : ℕ) → Safe v (taken t)) → Safe v (jumped v z taken)
  unfolding jumped
  jumped_safe z taken h = if_safe _ _ _ (λ _. tests refl) (λ _. if_safe _ _ _ (λ _. tests refl) (λ _. if_safe _ _ _ (λ _. tests refl) (λ _. h (word_of 32 z))))

  branch_safe : (when : Condition) (i : Instruction) → Safe v (branch when v i)
  unfolding branch
  branch_safe when i = if_safe _ _ _ (λ _. jumped_safe (target_by v i.immediate) Jump (λ t. tt)) (λ _. tt)

-- ---- operations

-- an operation that is available
abbrev Available : View → Operation → Type 0
Available v op = unavailable (properties op).availability (width_of v.status) (user_mode v.status) ≡ None

super_only_law : (w : Width) (user : Bool) → unavailable super_only w user ≡ None → user ≡ false
unfolding unavailable
super_only_law w true e = absurd (let z : ◌≡◌ {A = ℕ} 0 1 = cc in omega arith)
super_only_law w false e = refl

-- the code of one that is not, or 0
unavailable_coded : (a : Availability) (w : Width) (user : Bool) → Code (code_of (unavailable a w user))
unfolding unavailable code_of
unavailable_coded anywhere w user = tests refl
unavailable_coded wide_only Narrow user = tests refl
unavailable_coded wide_only Wide user = tests refl
unavailable_coded super_only w true = tests refl
unavailable_coded super_only w false = tests refl

module _ (v : View) (h : AnswersNumbered v) (i : Instruction) (x y : ℕ) where
  execute_safe : (op : Operation) → Available v op → Safe v (execute op v i x y)
  unfolding execute wrapped product properties is_among
  execute_safe Nop e = tt
  execute_safe Add e = checked_safe v i.dreg _
  execute_safe Addu e = tt
  execute_safe Sub e = checked_safe v i.dreg _
  execute_safe Subu e = tt
  execute_safe And e = tt
  execute_safe Or e = tt
  execute_safe Xor e = tt
  execute_safe Muls e = tt
  execute_safe Mulu e = tt
  execute_safe Mulus e = tt
  execute_safe Muls16 e = tt
  execute_safe Mulu16 e = tt
  execute_safe Mulus16 e = tt
  execute_safe Sll e = tt
  execute_safe Srl e = tt
  execute_safe Sra e = tt
  execute_safe Sext e = tt
  execute_safe Addi e = checked_safe v i.dreg _
  execute_safe Addiu e = tt
  execute_safe Andi e = tt
  execute_safe Ori e = tt
  execute_safe Muli e = tt
  execute_safe Slli e = tt
  execute_safe Srli e = tt
  execute_safe Srai e = tt
  execute_safe Sexti e = tt
  execute_safe Ld e = found_safe v _ _ (h.loading _) (λ w _. tt)
  execute_safe St e = found_safe v _ _ (h.access _) (λ l r. stored_safe v (v.source i.dreg) l (_, r))
  execute_safe Mov e = tt
  execute_safe Not e = tt
  execute_safe Mulhi e = if_safe v _ _ _ (λ _. tt) (λ _. refl)
  execute_safe Cmp e = tt
  execute_safe Cmpi e = tt
  execute_safe Lli e = tt
  execute_safe Lui e = tt
  execute_safe Jmp e = jumped_safe v _ Jump (λ t. tt)
  execute_safe Jal e = jumped_safe v _ JumpLink (λ t. tt)
  execute_safe Jmpr e = jumped_safe v _ Jump (λ t. tt)
  execute_safe Jalr e = jumped_safe v _ JumpLink (λ t. tt)
  execute_safe Bc e = branch_safe v _ i
  execute_safe Begt e = branch_safe v _ i
  execute_safe Belt e = branch_safe v _ i
  execute_safe Beq e = branch_safe v _ i
  execute_safe Bgt e = branch_safe v _ i
  execute_safe Blt e = branch_safe v _ i
  execute_safe Bne e = branch_safe v _ i
  execute_safe Bnc e = branch_safe v _ i
  execute_safe Scall e = tt
  execute_safe Retu e = super_only_law _ _ e
  execute_safe Reti e = if_safe v _ _ _ (λ b. b) (λ _. refl)
  execute_safe Chrs e = super_only_law _ _ e
  execute_safe Di e = tt
  execute_safe Ei e = tt
  execute_safe Swm e = tt
  execute_safe Trap e = traps _ (word_below 5 i.immediate) refl
  execute_safe Scon e = tt
  execute_safe Rcon e = tt
  execute_safe Conb e = tt
  execute_safe Conh e = tt
  execute_safe Exb e = tt
  execute_safe Exh e = tt
  execute_safe Exbf e = tt
  execute_safe Exbfi e = tt

-- ---- the order of the tests

module _ (v : View) (h : AnswersNumbered v) where
  available_safe : (i : Instruction) (op : Operation) (o : Option ℕ)
      → unavailable (properties op).availability (width_of v.status) (user_mode v.status) ≡ o → Safe v (if_available v i op o)
  unfolding if_available perform code_of is_among
  available_safe i op (Some c) e = rw e at (unavailable_coded (properties op).availability (width_of v.status) (user_mode v.status))
  available_safe i op None e =
      if_safe v _ _ _ (λ _. refl) (λ _. if_safe v _ _ _ (λ _. tt) (λ _.
      found_safe v _ _ (nops_numbered _ v.following h.after 1 (properties op).nops) (λ _ _. execute_safe v h i (v.source i.sreg1) (v.source i.sreg2) op e)))

  decided_safe : Safe v (decide v)
  unfolding decide fetched_then instruction
  decided_safe =
      found_safe v _ v.fetched h.fetch (λ w _. let i = decode (width_of v.status) w in available_safe i (operation_of i.opcode) _ refl)

-- what the view of a state decides
pub decide_safe : (program : List ℕ) (s : State) → Safe (view program s) (decide (view program s))
decide_safe program s = decided_safe (view program s) (view_numbered program s)
