-- The program status register by what its bits say. Assumes nothing.
use Rattle.std.specs.Prelude.{Bool, true, false, ℕ}
use Rattle.isa.specs.declared.width.Width.{Width}
use Rattle.isa.specs.declared.width.Width.TheVariants.{Narrow, Wide}
use Rattle.machine.specs.Machine.{user_mode, reads_set2, writes_set2, width_of, interrupts_enabled, status_of}
use Rattle.machine.specs.declared.status.Status.{Status}

abbrev pub is_wide : Width → Bool
is_wide Narrow = false
is_wide Wide = true

-- what a PSR says
abbrev pub status_in : (psr : ℕ) → Status
status_in q = record { user = user_mode q; reads_set2 = reads_set2 q; writes_set2 = writes_set2 q; width = width_of q; enabled = interrupts_enabled q }

-- the PSR that says a status
abbrev pub psr_of : Status → ℕ
psr_of s = status_of s.user s.reads_set2 s.writes_set2 (is_wide s.width) s.enabled
