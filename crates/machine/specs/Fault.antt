-- The numbers of stops and the codes of exceptions (Manual 4.9 and 4.10). Assumes nothing.
use Rattle.std.specs.Prelude.{List, ℕ, ◌+◌, ◌%◌, Result, Ok, Err, codes}
use Rattle.machine.specs.declared.fault.Stop.{Stop}
use Rattle.machine.specs.declared.fault.Stop.TheVariants as stop
use Rattle.machine.specs.declared.fault.Exception.{Exception}
use Rattle.machine.specs.declared.fault.Exception.TheVariants as exception
use Rattle.machine.specs.declared.fault.Fault.{Fault}
use Rattle.machine.specs.declared.fault.Fault.TheVariants as fault
use Rattle.machine.specs.Effect.{Effect, Stopped, Raised}

abbrev pub number_of_stop : Stop → ℕ
number_of_stop stop.ByteAbsent = 11
number_of_stop stop.NoData = 12
number_of_stop stop.TransferInSlot = 13
number_of_stop stop.NoProduct = 14
number_of_stop stop.EmptyStack = 15
number_of_stop stop.NopMissing = 20

-- what is printed of a stop
abbrev pub text_of : Stop → List ℕ
text_of stop.ByteAbsent = codes "a program byte is absent"
text_of stop.NoData = codes "no data at the address"
text_of stop.TransferInSlot = codes "a control transfer in a branch slot"
text_of stop.NoProduct = codes "no product is held"
text_of stop.EmptyStack = codes "the interrupt stack is empty"
text_of stop.NopMissing = codes "a nop is missing"

abbrev pub code_of_exception : Exception → ℕ
code_of_exception exception.ProgramProtected = 0x00
code_of_exception exception.Unavailable = 0x02
code_of_exception exception.MisalignedTarget = 0x03
code_of_exception exception.TargetOutside = 0x04
code_of_exception exception.MisalignedProgram = 0x05
code_of_exception exception.Overflow = 0x06
code_of_exception exception.DataProtected = 0x07
code_of_exception exception.AddressOutside = 0x08
code_of_exception exception.TargetProtected = 0x09
code_of_exception (exception.Trap n) = 0xE0 + n % 32

-- the effect that stands in an instruction's place
abbrev pub effect_of : Fault → Effect
effect_of (fault.Exception e) = Raised (code_of_exception e)
effect_of (fault.Stop s) = Stopped (number_of_stop s)

-- the number of the stop that a function answers; 0 where it answers none
abbrev pub stop_of : {A : Type 0} → Result A Stop → ℕ
stop_of (Ok x) = 0
stop_of (Err stop) = number_of_stop stop
