-- What the run program prints, case by case (Manual 15.1). Assumes nothing.
use Rattle.std.specs.Prelude.{◌≡◌, List, [], ◌∷◌, ℕ, suc, ◌≤◌, ◌<◌, length, take}
use Rattle.machine.specs.Machine.{MOST_MEMORY}
use Rattle.machine.specs.Control.{reset}
use Rattle.emulator.specs.Run.{MOST_STEPS, result_from, state_with}
use Rattle.console.specs.Digits.{newline}
use Rattle.console.specs.Limit.{limit_number}
use Rattle.console.specs.Line.{ran_text}
use Rattle.runner.specs.Report.{zero_memory, report_of}

-- a program of more than 65,536 bytes is refused before anything else, a bad limit.txt included: `1` and a newline
unfoldable pub ReportLong : Type 0
ReportLong = (code text : List ℕ) → MOST_MEMORY < length code → report_of code text ≡ 49 ∷ newline ∷ []

-- any other is refused just for its limit: `7` and a newline
unfoldable pub ReportUnlimited : Type 0
ReportUnlimited = (code text : List ℕ) → length code ≤ MOST_MEMORY → MOST_STEPS < limit_number text → report_of code text ≡ 55 ∷ newline ∷ []

-- else steps, ending and PC: those of the run from reset, with no requests
unfoldable pub ReportRan : Type 0
ReportRan =
    (code text : List ℕ) → length code ≤ MOST_MEMORY → limit_number text ≤ MOST_STEPS
    → let e = result_from code [] (limit_number text) 0 (state_with reset zero_memory) in
    report_of code text ≡ ran_text e.steps e.ending e.after.machine.position.pc

-- of longer files the bytes that are read, 65,537 and 16, say the same
unfoldable pub ReportFronts : Type 0
ReportFronts = (code text : List ℕ) → report_of (take (suc MOST_MEMORY) code) (take 16 text) ≡ report_of code text

-- to unfold all of these
unfoldable pub reports : Unit {0}
unfolding ReportLong ReportUnlimited ReportRan ReportFronts
reports = tt
