-- The codes of exceptions are bytes. Assumes nothing.
use Rattle.std.proofs.Common.{◌≡◌, refl, ◌%◌, arith}
use Rattle.machine.specs.declared.fault.Exception.{Exception}
use Rattle.machine.specs.declared.fault.Exception.TheVariants as exception
use Rattle.machine.specs.Fault.{code_of_exception}

pub code_byte : (e : Exception) → code_of_exception e % 256 ≡ code_of_exception e
code_byte exception.ProgramProtected = refl
code_byte exception.Unavailable = refl
code_byte exception.MisalignedTarget = refl
code_byte exception.TargetOutside = refl
code_byte exception.MisalignedProgram = refl
code_byte exception.Overflow = refl
code_byte exception.DataProtected = refl
code_byte exception.AddressOutside = refl
code_byte exception.TargetProtected = refl
code_byte (exception.Trap n) = omega arith
