-- The two register sets, and the status bit that names one. Assumes nothing.
use Rattle.std.specs.Prelude.{Bool, true, false}
use Rattle.machine.specs.declared.registers.RegisterSet.{RegisterSet}
use Rattle.machine.specs.declared.registers.RegisterSet.TheVariants.{First, Second}

abbrev pub is_second : RegisterSet → Bool
is_second First = false
is_second Second = true

abbrev pub set_named : (second : Bool) → RegisterSet
set_named true = Second
set_named false = First
