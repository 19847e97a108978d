-- What the program position says: six numbers, of which two are flags. Assumes nothing.
use Rattle.std.specs.Prelude.{ℕ, Option, Some, None, ◌==◌, if◌then◌else◌}
use Rattle.word.specs.declared.Product.{Product}
use Rattle.machine.specs.declared.position.Position.{Position}

-- a branch slot waits at an address, and control goes to a target after it
unfoldable pub before_slot : (pc target : ℕ) → Position
before_slot pc target = record { pc = pc; slot = 1; target = target; held = 0; high = 0; low = 0 }

-- a product is held for the instruction at an address
unfoldable pub holding : (pc high low : ℕ) → Position
holding pc high low = record { pc = pc; slot = 0; target = 0; held = 1; high = high; low = low }

-- where control goes after the slot; none waits where the flag is not 1
unfoldable pub slot_of : Position → Option ℕ
slot_of p = if p.slot == 1 then Some p.target else None

-- the product that is held; none is where the flag is not 1
unfoldable pub product_of : Position → Option Product
product_of p = if p.held == 1 then Some (record { high = p.high; low = p.low }) else None

-- to unfold `positions` is to unfold all definitions of this file
unfoldable pub positions : Unit {0}
unfolding before_slot holding slot_of product_of
positions = tt
