-- `theorems::reading_rules` meets its contract. Assumes nothing.
use Rattle.isa.proofs.BitFields.{bit_field_shown}
use Rattle.isa.proofs.theorems.reading_rules.Goals as goal

pub returns-clause-bit_field : goal.returns-clause-bit_field
returns-clause-bit_field c = bit_field_shown
