-- The worked example of the run program (Manual 16.2). Assumes nothing.
use Rattle.std.specs.Prelude.{◌≡◌, List, [], ◌∷◌, ℕ, get_or}
use Rattle.codec.specs.Number.{bytes_of}
use Rattle.machine.specs.Control.{reset, control_at, EXCEPTION_CS}
use Rattle.emulator.specs.Run.{state_with, RunResult, result_from}
use Rattle.runner.specs.Report.{zero_memory, report_of}

-- lli PR1, 5; addi PR2, PR1, -1; trap 3
unfoldable pub code : List ℕ
unfolding bytes_of
code = bytes_of (0x88010005 ∷ 0x4807883F ∷ 0xDC000003 ∷ [])

-- the digit 3
abbrev pub three : List ℕ
three = 51 ∷ []

-- what the run leaves
abbrev pub left : RunResult
left = result_from code [] 3 0 (state_with reset zero_memory)

-- for these three words and limit 3 the whole output is `3 0 00000000` and a newline
unfoldable pub ExampleOutput : Type 0
ExampleOutput = report_of code three ≡ 51 ∷ 32 ∷ 48 ∷ 32 ∷ 48 ∷ 48 ∷ 48 ∷ 48 ∷ 48 ∷ 48 ∷ 48 ∷ 48 ∷ 10 ∷ []

-- PR2 is 4, C0 is 1, EXCEPTION_CS E3h
unfoldable pub ExampleLeft : Type 0
ExampleLeft = get_or left.after.machine.set2 2 0 ∷ get_or left.after.machine.conditions 0 0 ∷ control_at left.after.machine EXCEPTION_CS ∷ [] ≡ 4 ∷ 1 ∷ 0xE3 ∷ []

-- to unfold all of these
unfoldable pub example : Unit {0}
unfolding code ExampleOutput ExampleLeft
example = tt
