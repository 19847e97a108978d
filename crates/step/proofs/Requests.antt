-- Requests added to INT_PEND: a stop's are taken back. Assumes nothing.
use mathlib.Core.Path.{◌≡◌}
use Prim.Native.Nat.{ℕ}
use lib.Seq.{set-get_or, set-set}
use Rattle.machine.specs.Machine.{Machine, with_control}
use Rattle.machine.specs.Control.{control_at, INT_PEND, with_pending}

-- put back
pub pending_back : (m : Machine) (x : ℕ) → with_pending (control_at m INT_PEND) (with_pending x m) ≡ m
unfolding with_pending with_control
pending_back m x = rw (set-set m.control INT_PEND x (control_at m INT_PEND), set-get_or m.control INT_PEND 0)
