-- The width that a status bit names. Assumes nothing.
use Rattle.std.proofs.Common.{◌≡◌, refl, Bool, true, false}
use Rattle.isa.specs.Operation.{width_by}
use Rattle.machine.specs.Status.{is_wide}

pub wide_named : (wide : Bool) → is_wide (width_by wide) ≡ wide
unfolding width_by
wide_named true = refl
wide_named false = refl
