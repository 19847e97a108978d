-- `report` meets its contract. Assumes nothing.
use mathlib.Core.Path.{sym, ap, ◌∙◌}
use lib.ListN.{length}
use Rattle.runner.proofs.Buffers.{reset_length, reset_front}
use Rattle.runner.proofs.Reports.{report_is}
use Rattle.runner.proofs.report.Goals as goal

pub slice_bounds-run-end-2 : goal.slice_bounds-run-end-2
slice_bounds-run-end-2 c = sym (ap length (reset_front _ _ c.reset_image-start.ensures) ∙ reset_length)

pub returns : goal.returns
returns c =
    c.line.ensures ∙ report_is _ _ _ _ _ _ _ (reset_front _ _ c.reset_image-start.ensures) c.limit.ensures c.run-answer.ensures
