-- What comes of an attempt that fails: what is done next is not asked. Assumes nothing.
use mathlib.Core.Path.{◌≡◌, refl}
use Rattle.std.specs.Prelude.{Err}
use Rattle.machine.specs.declared.fault.Fault.{Fault}
use Rattle.machine.specs.declared.fault.Fault.TheVariants as fault
use Rattle.machine.specs.Fault.{effect_of}
use Rattle.machine.specs.Effect.{Effect}
use Rattle.execute.specs.View.{Attempt, attempted, found_then}
use Rattle.execute.specs.Execute.{on_found}

pub failed_then : {A B : Type 0} (why : Fault) (f : A → Attempt B) → found_then (attempted (Err why)) f ≡ attempted (Err why)
unfolding found_then
failed_then (fault.Exception e) f = refl
failed_then (fault.Stop s) f = refl

pub failed_on : {A : Type 0} (why : Fault) (f : A → Effect) → on_found f (attempted (Err why)) ≡ effect_of why
unfolding on_found
failed_on (fault.Exception e) f = refl
failed_on (fault.Stop s) f = refl
