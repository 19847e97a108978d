-- What is proved of the instruction set: the statements, each with the rule that it says. Assumes nothing.
use Rattle.std.specs.Prelude.{◌≡◌, ◌⊎◌, Bool, true, false, not, ◌&&◌, ◌||◌, List, [], ◌∷◌, ◌++◌, ℕ, ◌+◌, ◌≤◌, ◌<◌, leb, eqb, pos}
use Rattle.word.specs.Choice.{choose◌then◌else◌}
use Rattle.word.specs.Word.{bits◌to◌, field_of, bit_at}
use Rattle.isa.specs.declared.width.Width.{Width}
use Rattle.isa.specs.declared.width.Width.TheVariants.{Narrow, Wide}
use Rattle.isa.specs.declared.flow.Flow.{Flow}
use Rattle.isa.specs.declared.flow.Flow.TheVariants.{Straight, ImmediateJump, ImmediateLink, RegisterJump, RegisterLink, ConditionalBranch, SystemCall, UserReturn, InterruptReturn, WidthSwitch, TrapCall}
use Rattle.isa.specs.Operation.{operation_of, width_by, unavailable, code_of, properties}
use Rattle.isa.specs.Text.{bytes}
use Rattle.isa.specs.Condition.{condition_of, name_of}
use Rattle.isa.specs.declared.form.Role.{Role}
use Rattle.isa.specs.declared.form.Role.TheVariants.{Dreg, Sreg1, Sreg2, Creg, Imm, Length, Position}
use Rattle.isa.specs.Format.{has_bit, layout_of}
use Rattle.isa.specs.Decode.{opcode_of, decode}
use Rattle.isa.specs.Shown.{has_form, shown_roles, shown_value}
use Rattle.isa.specs.Used.{used_fields, cleared}
use Rattle.isa.specs.declared.instruction.Instruction.{Instruction}

-- ---- the table, of all operations at once

-- the operation with number n has n in its row (Manual 3.1)
abbrev pub Numbered : Type 0
Numbered = (n : ℕ) → n < 64 → (properties (operation_of n)).number ≡ n

-- n is one of low to high
abbrev pub between : (low high n : ℕ) → Bool
between low high n = leb low n && leb n high

-- never conditional are nop, cmp, cmpi, lli, lui, jumps with an immediate, branches, 49 to 57 and exbfi, which is 63 (Manual 3.1)
abbrev pub ConditionalIs : Type 0
ConditionalIs = (n : ℕ) → (properties (operation_of n)).conditional ≡ ((between 1 31 n || between 38 39 n) || eqb n 48) || between 58 62 n

-- control transfers are operations 36 to 50 and swm, which is 54 (Manual 4.10)
abbrev pub TransferIs : Type 0
TransferIs = (n : ℕ) → (properties (operation_of n)).transfer ≡ between 36 50 n || eqb n 54

-- the nops that must follow swm are two, scall and retu one, reti three (Manual 4.6): reti is 50, swm 54, scall 48, retu 49
abbrev pub nops_by : (n : ℕ) → ℕ
nops_by n = choose eqb n 50 then 3 else choose eqb n 54 then 2 else choose eqb n 48 || eqb n 49 then 1 else 0

abbrev pub NopsAre : Type 0
NopsAre = (n : ℕ) → (properties (operation_of n)).nops ≡ nops_by n

-- jumps, branches, scall, retu, reti, swm and trap lead elsewhere than to the next word (Manual 13), by their numbers
abbrev pub flow_by : (n : ℕ) → Flow
flow_by n =
    choose eqb n 36 then ImmediateJump
    else choose eqb n 37 then ImmediateLink
    else choose eqb n 38 then RegisterJump
    else choose eqb n 39 then RegisterLink
    else choose between 40 47 n then ConditionalBranch
    else choose eqb n 48 then SystemCall
    else choose eqb n 49 then UserReturn
    else choose eqb n 50 then InterruptReturn
    else choose eqb n 54 then WidthSwitch
    else choose eqb n 55 then TrapCall
    else Straight

abbrev pub FlowIs : Type 0
FlowIs = (n : ℕ) → (properties (operation_of n)).flow ≡ flow_by n

-- the code of the exception where an operation may not be used, 0 where it may
abbrev pub code_at : Width → (user : Bool) (n : ℕ) → ℕ
code_at width user n = code_of (unavailable (properties (operation_of n)).availability width user)

-- code 02h: lli, lui and exbfi in 16-bit words, retu and chrs in user mode; code 01h does not occur (Manual 4.4)
abbrev pub code_by : (wide user : Bool) (n : ℕ) → ℕ
code_by wide user n = choose (between 34 35 n || leb 63 n) && not wide || (eqb n 49 || eqb n 51) && user then 0x02 else 0

abbrev pub UnavailableIs : Type 0
UnavailableIs = (wide user : Bool) (n : ℕ) → code_at (width_by wide) user n ≡ code_by wide user n

-- ---- decoded words

-- the registers of 16-bit words are 24 to 31, where there are any: a field n means register n + 24 (Manual 2.2)
pub record HighRegisters (i : Instruction) : Type 0 where
  pub dreg : (i.dreg ≡ 0) ⊎ (24 ≤ i.dreg)
  pub sreg1 : (i.sreg1 ≡ 0) ⊎ (24 ≤ i.sreg1)
  pub sreg2 : (i.sreg2 ≡ 0) ⊎ (24 ≤ i.sreg2)

abbrev pub NarrowRegisters : Type 0
NarrowRegisters = (word : ℕ) → HighRegisters (decode Narrow word)

-- ---- what a listing shows (Manual 11)

-- operations with no form in a width: lli, lui and exbfi in 16-bit words, none in 32-bit words (Manual 4.4)
abbrev pub FormIs : Type 0
FormIs = (wide : Bool) (n : ℕ) → has_form (width_by wide) (operation_of n) ≡ not ((between 34 35 n || leb 63 n) && not wide)

-- operations 40 to 47 branch on conditions 0 to 7: their names are b and the condition's (Manual 3.1)
abbrev pub BranchNames : Type 0
BranchNames = (n : ℕ) → n < 8 → (properties (operation_of (40 + n))).mnemonic ≡ bytes "b" ++ name_of (condition_of n)

-- the immediates of addi, muli, cmpi, ld, st, jmp, jal and branches are signed (Manual 2.4)
abbrev pub SignedIs : Type 0
SignedIs =
    (width : Width) (n : ℕ) → (layout_of width (properties (operation_of n)).form).immediate.signed
    ≡ ((eqb n 18 || eqb n 22) || (between 27 28 n || eqb n 33)) || (between 36 37 n || between 40 47 n)

-- of 16-bit words registers are shown as 24 to 31, no condition register is shown, and nothing is conditional (Manual 2.2)
unfoldable pub HighRegister : Instruction → Role → Type 0
HighRegister i Dreg = (24 ≤ i.dreg) × (i.dreg ≤ 31)
HighRegister i Sreg1 = (24 ≤ i.sreg1) × (i.sreg1 ≤ 31)
HighRegister i Sreg2 = (24 ≤ i.sreg2) × (i.sreg2 ≤ 31)
HighRegister i Creg = ⊥
HighRegister i Imm = Unit {0}
HighRegister i Length = Unit {0}
HighRegister i Position = Unit {0}

-- of every role of a list
unfoldable pub All : (Role → Type 0) → List Role → Type 0
All P [] = Unit {0}
All P (r ∷ rs) = P r × All P rs

abbrev pub NarrowShown : Type 0
NarrowShown = (word : ℕ) → ((decode Narrow word).conditional ≡ false) × All (HighRegister (decode Narrow word)) (shown_roles Narrow (operation_of (decode Narrow word).opcode))

-- exbfi has its length in bits 24..19, its position in 4..0 (Manual 2.3)
abbrev pub BitFieldShown : Type 0
BitFieldShown =
    (word : ℕ) → opcode_of Wide word ≡ 63
    → (shown_value (decode Wide word) Length ≡ pos (field_of (bits 24 to 19) word)) × (shown_value (decode Wide word) Position ≡ pos (field_of (bits 4 to 0) word))

-- ---- bits that an operation does not use are ignored (Manual 2.5)

-- two instructions are alike in all that an operation reads; creg, where it is an operand, is among those shown
pub record ReadAlike (i j : Instruction) : Type 0 where
  pub opcode : i.opcode ≡ j.opcode
  pub conditional : i.conditional ≡ j.conditional
  pub condition : i.conditional ≡ true → (i.creg ≡ j.creg) × (i.condition ≡ j.condition)
  pub dreg : i.dreg ≡ j.dreg
  pub sreg1 : i.sreg1 ≡ j.sreg1
  pub sreg2 : i.sreg2 ≡ j.sreg2
  pub immediate : i.immediate ≡ j.immediate

abbrev pub ClearedRead : Type 0
ClearedRead = (width : Width) (word : ℕ) → ReadAlike (decode width (cleared width word)) (decode width word)

-- the bits of a word with its ignored bits 0
abbrev pub ClearedBit : Type 0
ClearedBit = (width : Width) (word n : ℕ)
    → let i = decode width word in
    bit_at n (cleared width word) ≡ has_bit n (used_fields width (operation_of i.opcode) i.conditional) && bit_at n word
