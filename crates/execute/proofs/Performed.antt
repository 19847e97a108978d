-- To unfold `performing` is to unfold what operations do and that an effect is carried out, but not what an update makes of a machine. Assumes nothing.
use Rattle.word.specs.Choice.{choose◌then◌else◌}
use Rattle.isa.specs.Operation.{operations, operation_of}
use Rattle.machine.specs.Apply.{machine_only, store_cell, updated, apply}
use Rattle.execute.specs.Execute.{checked, wrapped, product, on_found, stored, execute}

unfoldable pub performing : Unit {0}
unfolding choose◌then◌else◌ operations operation_of machine_only store_cell updated apply checked wrapped product on_found stored execute
performing = tt
