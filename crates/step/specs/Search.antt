-- The search for the source to accept, in the terms of its code. No definition of the step rests on these. Assumes nothing.
use Rattle.std.specs.Prelude.{◌&&◌, ℕ, zero, suc, ltb, Option, None, Some}
use Rattle.word.specs.Choice.{choose◌then◌else◌}
use Rattle.word.specs.Word.{bit_at}
use Rattle.word.specs.Arithmetic.{and_of}
use Rattle.machine.specs.Machine.{Machine}
use Rattle.machine.specs.Control.{control_at, INT_MASK, INT_SERV, INT_PEND}
use Rattle.step.specs.Interrupt.{priority}

-- the flags of the sources that are pending and have INT_MASK 1
unfoldable pub waiting : Machine → ℕ
waiting m = and_of (control_at m INT_PEND) (control_at m INT_MASK)

-- the priority number of a source, or a bound where there is none
unfoldable pub priority_or : (bound : ℕ) → Machine → Option ℕ → ℕ
priority_or bound m None = bound
priority_or bound m (Some n) = priority m n

-- of the sources below k whose flags are 1 the one with the smallest priority number below a bound; ties to the lower source
unfoldable pub most_urgent : (flags bound : ℕ) → Machine → (k : ℕ) → Option ℕ
most_urgent flags bound m zero = None
most_urgent flags bound m (suc k) =
    let b = most_urgent flags bound m k in
    choose bit_at k flags && ltb (priority m k) (priority_or bound m b) then Some k else b

-- the smallest priority number in service; 16, above all, when nothing is
unfoldable pub service_floor : Machine → ℕ
service_floor m = priority_or 16 m (most_urgent (control_at m INT_SERV) 16 m 12)

-- to unfold all of these
unfoldable pub searching : Unit {0}
unfolding waiting priority_or most_urgent service_floor
searching = tt
