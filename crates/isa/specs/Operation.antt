-- The operations, one row for each (Manual 3.1; mnemonics: COFFEE Core user manual (July 2007), section 6.2).
-- Assumes nothing.
use Rattle.std.specs.Prelude.{Bool, true, false, Option, Some, None, Result, Ok, Err, List, [], ◌∷◌, ℕ, nat_lt, get_or, if◌then◌else◌}
use Prim.Native.String.{String}
use Rattle.isa.specs.Text.{bytes}
use Rattle.isa.specs.declared.width.Width.{Width}
use Rattle.isa.specs.declared.width.Width.TheVariants.{Narrow, Wide}
use Rattle.isa.specs.declared.form.Form.{Form}
use Rattle.isa.specs.declared.form.Form.TheVariants.{NoOperands, ThreeRegisters, ReversedRegisters, TwoRegisters, Destination, Source, CompareRegisters, CompareImmediate, SignedImmediate, UnsignedImmediate, Count, BitField, Memory, Halfword, Jump, Branch, LowBits}
use Rattle.isa.specs.declared.flow.Flow.{Flow}
use Rattle.isa.specs.declared.flow.Flow.TheVariants.{Straight, ImmediateJump, ImmediateLink, RegisterJump, RegisterLink, ConditionalBranch, SystemCall, UserReturn, InterruptReturn, WidthSwitch, TrapCall}
use Rattle.isa.specs.declared.operation.Operation.{Operation}
use Rattle.isa.specs.declared.operation.UnknownOperation.{UnknownOperation}
use Rattle.isa.specs.declared.operation.Operation.TheVariants.{Nop, Add, Addu, Sub, Subu, And, Or, Xor, Muls, Mulu, Mulus, Muls16, Mulu16, Mulus16, Sll, Srl, Sra, Sext, Addi, Addiu, Andi, Ori, Muli, Slli, Srli, Srai, Sexti, Ld, St, Mov, Not, Mulhi, Cmp, Cmpi, Lli, Lui, Jmp, Jal, Jmpr, Jalr, Bc, Begt, Belt, Beq, Bgt, Blt, Bne, Bnc, Scall, Retu, Reti, Chrs, Di, Ei, Swm, Trap, Scon, Rcon, Conb, Conh, Exb, Exh, Exbf, Exbfi}

-- by number, 0 to 63
unfoldable pub operations : List Operation
operations =
    Nop ∷ Add ∷ Addu ∷ Sub ∷ Subu ∷ And ∷ Or ∷ Xor ∷  -- 0 to 7
    Muls ∷ Mulu ∷ Mulus ∷ Muls16 ∷ Mulu16 ∷ Mulus16 ∷ Sll ∷ Srl ∷  -- 8 to 15
    Sra ∷ Sext ∷ Addi ∷ Addiu ∷ Andi ∷ Ori ∷ Muli ∷ Slli ∷  -- 16 to 23
    Srli ∷ Srai ∷ Sexti ∷ Ld ∷ St ∷ Mov ∷ Not ∷ Mulhi ∷  -- 24 to 31
    Cmp ∷ Cmpi ∷ Lli ∷ Lui ∷ Jmp ∷ Jal ∷ Jmpr ∷ Jalr ∷  -- 32 to 39
    Bc ∷ Begt ∷ Belt ∷ Beq ∷ Bgt ∷ Blt ∷ Bne ∷ Bnc ∷  -- 40 to 47
    Scall ∷ Retu ∷ Reti ∷ Chrs ∷ Di ∷ Ei ∷ Swm ∷ Trap ∷  -- 48 to 55
    Scon ∷ Rcon ∷ Conb ∷ Conh ∷ Exb ∷ Exh ∷ Exbf ∷ Exbfi ∷  -- 56 to 63
    []

-- the operation of a number; a word has one below 64
unfoldable pub operation_of : ℕ → Operation
operation_of n = get_or operations n Exbfi

-- the operation of a number, or the refusal of one that no operation has
unfoldable pub numbered : ℕ → Result Operation UnknownOperation
numbered n = if nat_lt n 64 then Ok (operation_of n) else Err (record { number = n })

-- ---- properties

-- by PSR's bit IL, 1 for 32-bit words
unfoldable pub width_by : (wide : Bool) → Width
width_by true = Wide
width_by false = Narrow

-- where an operation may be used
pub data Availability : Type 0 where
  anywhere wide_only super_only : Availability

-- the code of the exception where it may not: 02h not in this width or not in user mode
unfoldable pub unavailable : Availability → Width → (user : Bool) → Option ℕ
unavailable anywhere w user = None
unavailable wide_only Narrow user = Some 0x02
unavailable wide_only Wide user = None
unavailable super_only w true = Some 0x02
unavailable super_only w false = None

-- that code as a number, 0 where the operation may be used (00h is no code of this kind)
unfoldable pub code_of : Option ℕ → ℕ
code_of None = 0
code_of (Some code) = code

pub record Properties : Type 0 where
  pub number : ℕ
  pub mnemonic : List ℕ  -- its bytes
  pub form : Form
  pub conditional : Bool  -- bit 25 of a 32-bit word makes it conditional; otherwise that bit is ignored
  pub availability : Availability
  pub transfer : Bool  -- a control transfer, which stops with 13 in a branch slot
  pub nops : ℕ  -- how many nops must follow it
  pub flow : Flow

-- rows of the table: of operations that may be conditional, that never are, and of control transfers of both kinds
abbrev optional : ℕ → String → Form → Properties
optional n m f = record { number = n; mnemonic = bytes m; form = f; conditional = true; availability = anywhere; transfer = false; nops = 0; flow = Straight }

abbrev always : ℕ → String → Form → Availability → Properties
always n m f a = record { number = n; mnemonic = bytes m; form = f; conditional = false; availability = a; transfer = false; nops = 0; flow = Straight }

abbrev optional_transfer : ℕ → String → Form → Flow → Properties
optional_transfer n m f to = record { number = n; mnemonic = bytes m; form = f; conditional = true; availability = anywhere; transfer = true; nops = 0; flow = to }

abbrev always_transfer : ℕ → String → Form → Availability → Flow → Properties
always_transfer n m f a to = record { number = n; mnemonic = bytes m; form = f; conditional = false; availability = a; transfer = true; nops = 0; flow = to }

-- a row with so many nops
abbrev followed_by : ℕ → Properties → Properties
followed_by n p =
    record { number = p.number; mnemonic = p.mnemonic; form = p.form; conditional = p.conditional; availability = p.availability; transfer = p.transfer; nops = n; flow = p.flow }

-- a row with this flow
abbrev with_flow : Flow → Properties → Properties
with_flow to p =
    record { number = p.number; mnemonic = p.mnemonic; form = p.form; conditional = p.conditional; availability = p.availability; transfer = p.transfer; nops = p.nops; flow = to }

-- the table: each operation's number, mnemonic, operands, whether it may be conditional, where it is available, whether it is a control transfer,
-- how many nops must follow it (two after swm, one after scall and retu, three after reti: Manual 4.6), and how it goes on
unfoldable pub properties : Operation → Properties
properties Nop = always 0 "nop" NoOperands anywhere
properties Add = optional 1 "add" ThreeRegisters
properties Addu = optional 2 "addu" ThreeRegisters
properties Sub = optional 3 "sub" ThreeRegisters
properties Subu = optional 4 "subu" ThreeRegisters
properties And = optional 5 "and" ThreeRegisters
properties Or = optional 6 "or" ThreeRegisters
properties Xor = optional 7 "xor" ThreeRegisters
properties Muls = optional 8 "muls" ThreeRegisters
properties Mulu = optional 9 "mulu" ThreeRegisters
properties Mulus = optional 10 "mulus" ThreeRegisters
properties Muls16 = optional 11 "muls_16" ThreeRegisters
properties Mulu16 = optional 12 "mulu_16" ThreeRegisters
properties Mulus16 = optional 13 "mulus_16" ThreeRegisters
properties Sll = optional 14 "sll" ThreeRegisters
properties Srl = optional 15 "srl" ThreeRegisters
properties Sra = optional 16 "sra" ThreeRegisters
properties Sext = optional 17 "sext" ThreeRegisters
properties Addi = optional 18 "addi" SignedImmediate
properties Addiu = optional 19 "addiu" UnsignedImmediate
properties Andi = optional 20 "andi" UnsignedImmediate
properties Ori = optional 21 "ori" UnsignedImmediate
properties Muli = optional 22 "muli" SignedImmediate
properties Slli = optional 23 "slli" (Count 5)
properties Srli = optional 24 "srli" (Count 5)
properties Srai = optional 25 "srai" (Count 5)
properties Sexti = optional 26 "sexti" (Count 5)
properties Ld = optional 27 "ld" Memory
properties St = optional 28 "st" Memory
properties Mov = optional 29 "mov" TwoRegisters
properties Not = optional 30 "not" TwoRegisters
properties Mulhi = optional 31 "mulhi" Destination
properties Cmp = always 32 "cmp" CompareRegisters anywhere
properties Cmpi = always 33 "cmpi" CompareImmediate anywhere
properties Lli = always 34 "lli" Halfword wide_only
properties Lui = always 35 "lui" Halfword wide_only
properties Jmp = always_transfer 36 "jmp" Jump anywhere ImmediateJump
properties Jal = always_transfer 37 "jal" Jump anywhere ImmediateLink
properties Jmpr = optional_transfer 38 "jmpr" Source RegisterJump
properties Jalr = optional_transfer 39 "jalr" Source RegisterLink
properties Bc = always_transfer 40 "bc" Branch anywhere ConditionalBranch
properties Begt = always_transfer 41 "begt" Branch anywhere ConditionalBranch
properties Belt = always_transfer 42 "belt" Branch anywhere ConditionalBranch
properties Beq = always_transfer 43 "beq" Branch anywhere ConditionalBranch
properties Bgt = always_transfer 44 "bgt" Branch anywhere ConditionalBranch
properties Blt = always_transfer 45 "blt" Branch anywhere ConditionalBranch
properties Bne = always_transfer 46 "bne" Branch anywhere ConditionalBranch
properties Bnc = always_transfer 47 "bnc" Branch anywhere ConditionalBranch
properties Scall = followed_by 1 (optional_transfer 48 "scall" NoOperands SystemCall)
properties Retu = followed_by 1 (always_transfer 49 "retu" NoOperands super_only UserReturn)
properties Reti = followed_by 3 (always_transfer 50 "reti" NoOperands anywhere InterruptReturn)
properties Chrs = always 51 "chrs" (LowBits 2) super_only
properties Di = always 52 "di" NoOperands anywhere
properties Ei = always 53 "ei" NoOperands anywhere
properties Swm = followed_by 2 (always_transfer 54 "swm" (LowBits 1) anywhere WidthSwitch)
properties Trap = with_flow TrapCall (always 55 "trap" (LowBits 5) anywhere)
properties Scon = always 56 "scon" Destination anywhere
properties Rcon = always 57 "rcon" Source anywhere
properties Conb = optional 58 "conb" ThreeRegisters
properties Conh = optional 59 "conh" ReversedRegisters
properties Exb = optional 60 "exb" (Count 2)
properties Exh = optional 61 "exh" (Count 1)
properties Exbf = optional 62 "exbf" ThreeRegisters
properties Exbfi = always 63 "exbfi" BitField wide_only

-- to unfold all of these
unfoldable pub table : Unit {0}
unfolding operations operation_of numbered width_by unavailable code_of properties
table = tt
