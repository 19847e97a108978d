-- What each operation does: one clause for each (Manual 3.2). Assumes nothing.
use Rattle.std.specs.Prelude.{true, false, List, [], ◌∷◌, ℕ, ◌+◌, ◌*◌, ◌%◌, ◌^◌, get_or, eqb, ℤ, pos, ◌+ℤ◌, ◌*ℤ◌}
use Rattle.std.proofs.Math.Bool as bool
use Rattle.word.specs.Choice.{choose◌then◌else◌}
use Rattle.word.specs.Word.{signed_of, word_of, is_address}
use Rattle.word.specs.Arithmetic.{add_of, sub_of, cmp_of, product_of, short_product_of, half, signed_half, sll_of, srl_of, sra_of, sext_of, and_of, or_of, xor_of, not_of, join_of, piece_of, extract_of}
use Rattle.word.specs.declared.Sum.{Sum}
use Rattle.word.specs.declared.Product.{Product}
use Rattle.isa.specs.declared.operation.Operation.{Operation}
use Rattle.isa.specs.declared.operation.Operation.TheVariants.{Nop, Add, Addu, Sub, Subu, And, Or, Xor, Muls, Mulu, Mulus, Muls16, Mulu16, Mulus16, Sll, Srl, Sra, Sext, Addi, Addiu, Andi, Ori, Muli, Slli, Srli, Srai, Sexti, Ld, St, Mov, Not, Mulhi, Cmp, Cmpi, Lli, Lui, Jmp, Jal, Jmpr, Jalr, Bc, Begt, Belt, Beq, Bgt, Blt, Bne, Bnc, Scall, Retu, Reti, Chrs, Di, Ei, Swm, Trap, Scon, Rcon, Conb, Conh, Exb, Exh, Exbf, Exbfi}
use Rattle.isa.specs.declared.condition.Condition.{Condition}
use Rattle.isa.specs.Condition.{holds}
use Rattle.isa.specs.declared.condition.Condition.TheVariants as condition
use Rattle.isa.specs.Decode.{word_bytes}
use Rattle.isa.specs.declared.instruction.Instruction.{Instruction}
use Rattle.machine.specs.Machine.{width_of}
use Rattle.execute.specs.View.{Attempt, Found, Raises, Stops, View}
use Rattle.execute.specs.declared.data.Location.{Location}
use Rattle.execute.specs.declared.data.Location.TheVariants.{Block, Cell}
use Rattle.machine.specs.Effect.{Effect, Stopped, Raised, Next, Result, ResultFlags, ResultProduct, Compare, Conditions, StoreControl, StoreCell, Jump, JumpLink, EnableInterrupts, SwitchWidth, SystemCall, InterruptReturn, UserReturn, SelectSets}

-- ---- sums and products

-- add, addi, sub: 06h where the result is outside signed 32 bits, else result and flags
unfoldable pub checked : (dreg : ℕ) → Sum → Effect
checked d s = choose s.overflow then Raised 0x06 else ResultFlags d s.value s.flags

-- addu, addiu, subu wrap: result and flags
unfoldable pub wrapped : (dreg : ℕ) → Sum → Effect
wrapped d s = ResultFlags d s.value s.flags

-- muls, mulu, mulus, muli: the register takes the low half, and the product is held
unfoldable pub product : (dreg : ℕ) → Product → Effect
product d p = ResultProduct d p.high p.low

-- ---- what the memories give

-- the effect of what is found; else the exception or the stop
unfoldable pub on_found : {A : Type 0} → (A → Effect) → Attempt A → Effect
on_found f (Found x) = f x
on_found f (Raises c) = Raised c
on_found f (Stops n) = Stopped n

-- st: the block's register or the cell takes the value
unfoldable pub stored : (value : ℕ) → Location → Effect
stored x (Block n) = StoreControl n x
stored x (Cell a) = StoreCell a x

-- ---- jumps (Manual 4.8)

-- the address of the word after this one: a jump's slot
unfoldable pub after_this : View → ℕ
after_this v = v.position.pc + word_bytes (width_of v.status)

-- a target by immediate: the slot's address plus twice the signed immediate
unfoldable pub target_by : View → (immediate : ℤ) → ℤ
target_by v n = pos (after_this v) +ℤ n *ℤ pos 2

-- a taken jump: 04h for a target outside 32 bits, 03h for a misaligned one, then in user mode 09h if a byte of the word there is protected;
-- else control goes to the target after the slot. A target from a register has 32 bits, so only one by immediate gives 04h
unfoldable pub jumped : View → (target : ℤ) (taken : ℕ → Effect) → Effect
jumped v target taken =
    let t = word_of 32 target in
    choose bool.not (is_address target) then Raised 0x04
    else choose bool.not (eqb (t % word_bytes (width_of v.status)) 0) then Raised 0x03
    else choose v.closed t then Raised 0x09
    else taken t

-- a branch, operation 40 + i on condition i: taken where the condition holds of the condition register; not taken, it has no slot and no test
unfoldable pub branch : Condition → View → Instruction → Effect
branch when v i = choose holds when (get_or v.conditions i.creg 0) then jumped v (target_by v i.immediate) Jump else Next

-- scon: the condition registers in a word, Cn at bits 3n+2..3n, so three bits each with C0 lowest
unfoldable pub packed : List ℕ → ℕ
packed [] = 0
packed (c ∷ cs) = c % 8 + 8 * packed cs

-- ---- one clause for each operation; x and y are the two sources. A result for PSR is dropped when it is applied (Manual 1.4).
-- st and lui look at dreg: st in the set that registers are read from, lui in the one that they are written in

unfoldable pub execute : Operation → View → Instruction → (x y : ℕ) → Effect
execute Nop v i x y = Next
execute Add v i x y = checked i.dreg (add_of x y)
execute Addu v i x y = wrapped i.dreg (add_of x y)
execute Sub v i x y = checked i.dreg (sub_of x y)
execute Subu v i x y = wrapped i.dreg (sub_of x y)
execute And v i x y = Result i.dreg (and_of x y)
execute Or v i x y = Result i.dreg (or_of x y)
execute Xor v i x y = Result i.dreg (xor_of x y)
execute Muls v i x y = product i.dreg (product_of (signed_of 32 x) (signed_of 32 y))
execute Mulu v i x y = product i.dreg (product_of (pos x) (pos y))
execute Mulus v i x y = product i.dreg (product_of (pos x) (signed_of 32 y))
execute Muls16 v i x y = Result i.dreg (short_product_of (signed_half x) (signed_half y))
execute Mulu16 v i x y = Result i.dreg (short_product_of (half x) (half y))
execute Mulus16 v i x y = Result i.dreg (short_product_of (half x) (signed_half y))
execute Sll v i x y = Result i.dreg (sll_of x y)
execute Srl v i x y = Result i.dreg (srl_of x y)
execute Sra v i x y = Result i.dreg (sra_of x y)
execute Sext v i x y = Result i.dreg (sext_of x y)
execute Addi v i x y = checked i.dreg (add_of x (word_of 32 i.immediate))
execute Addiu v i x y = wrapped i.dreg (add_of x (word_of 32 i.immediate))
execute Andi v i x y = Result i.dreg (and_of x (word_of 32 i.immediate))
execute Ori v i x y = Result i.dreg (or_of x (word_of 32 i.immediate))
execute Muli v i x y = product i.dreg (product_of (signed_of 32 x) i.immediate)
execute Slli v i x y = Result i.dreg (sll_of x (word_of 32 i.immediate))
execute Srli v i x y = Result i.dreg (srl_of x (word_of 32 i.immediate))
execute Srai v i x y = Result i.dreg (sra_of x (word_of 32 i.immediate))
execute Sexti v i x y = Result i.dreg (sext_of x (word_of 32 i.immediate))
execute Ld v i x y = on_found (Result i.dreg) (v.load (pos x +ℤ i.immediate))
execute St v i x y = on_found (stored (v.source i.dreg)) (v.place (pos x +ℤ i.immediate))
execute Mov v i x y = Result i.dreg x
execute Not v i x y = Result i.dreg (not_of x)
execute Mulhi v i x y = choose eqb v.position.held 1 then Result i.dreg v.position.high else Stopped 14
execute Cmp v i x y = Compare i.creg (cmp_of x y)
execute Cmpi v i x y = Compare i.creg (cmp_of x (word_of 32 i.immediate))
execute Lli v i x y = Result i.dreg (word_of 16 i.immediate)
execute Lui v i x y = Result i.dreg (word_of 16 i.immediate * 2 ^ 16 + v.target i.dreg % 2 ^ 16)
execute Jmp v i x y = jumped v (target_by v i.immediate) Jump
execute Jal v i x y = jumped v (target_by v i.immediate) JumpLink
execute Jmpr v i x y = jumped v (pos x) Jump
execute Jalr v i x y = jumped v (pos x) JumpLink
execute Bc v i x y = branch condition.Carry v i
execute Begt v i x y = branch condition.EqualOrGreater v i
execute Belt v i x y = branch condition.EqualOrLess v i
execute Beq v i x y = branch condition.Equal v i
execute Bgt v i x y = branch condition.Greater v i
execute Blt v i x y = branch condition.Less v i
execute Bne v i x y = branch condition.NotEqual v i
execute Bnc v i x y = branch condition.NoCarry v i
execute Scall v i x y = SystemCall
execute Retu v i x y = UserReturn
execute Reti v i x y = choose v.nested then InterruptReturn else Stopped 15
execute Chrs v i x y = SelectSets (word_of 2 i.immediate)
execute Di v i x y = EnableInterrupts false
execute Ei v i x y = EnableInterrupts true
execute Swm v i x y = SwitchWidth (eqb (word_of 1 i.immediate) 1)
execute Trap v i x y = Raised (224 + word_of 5 i.immediate)
execute Scon v i x y = Result i.dreg (packed v.conditions)
execute Rcon v i x y = Conditions x
execute Conb v i x y = Result i.dreg (join_of 8 x y)
execute Conh v i x y = Result i.dreg (join_of 16 x y)
execute Exb v i x y = Result i.dreg (piece_of 8 x (word_of 2 i.immediate))
execute Exh v i x y = Result i.dreg (piece_of 16 x (word_of 1 i.immediate))
execute Exbf v i x y = Result i.dreg (extract_of x y)
execute Exbfi v i x y = Result i.dreg (extract_of x (word_of 32 i.immediate))

-- to unfold all of these
unfoldable pub executing : Unit {0}
unfolding checked wrapped product on_found stored after_this target_by jumped branch packed execute
executing = tt
