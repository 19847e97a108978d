-- The worked example of the run program (Manual 16.2), worked by antt: both sides compute. Assumes nothing.
use mathlib.Core.Path.{◌≡◌, refl, ◌∙◌}
use lib.Dec.{lit≤}
use Rattle.emulator.specs.Computed.{runs}
use Rattle.console.specs.Limit.{limit_number}
use Rattle.console.specs.Computed.{texts}
use Rattle.console.proofs.Worked.{whole_output}
use Rattle.runner.specs.Reports.{ReportRan}
use Rattle.runner.specs.Worked.{code, three, ExampleOutput, ExampleLeft}
use Rattle.runner.proofs.Reports.{report_ran}

limit_three : limit_number three ≡ 3
unfolding texts
limit_three = refl

pub example_output : ExampleOutput
unfolding ExampleOutput ReportRan code runs
example_output = report_ran code three (lit≤ tt) (rw limit_three (lit≤ tt)) ∙ rw limit_three whole_output

pub example_left : ExampleLeft
unfolding ExampleLeft code runs
example_left = refl
