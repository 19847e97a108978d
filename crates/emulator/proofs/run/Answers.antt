-- What the steps leave has room, and is what the call leaves. Assumes nothing.
use mathlib.Core.Path.{◌≡◌, sym, ◌∙◌}
use mathlib.Core.Bool.{true}
use Rattle.image.specs.Image.{question2}
use Rattle.emulator.proofs.Asked.{run_fits, run_ran}
use Rattle.emulator.proofs.run.Goals as goal

pub write-requires : goal.write-requires
write-requires c =
    let fits : question2 c.args.image.now ≡ true = sym c.sections_fit.ensures ∙ c.if-not-sections_fit.false in
    run_fits _ _ _ _ _ _ c.if-program-gt-MOST_MEMORY.false c.if-cells-gt-MOST_MEMORY.false _ fits c.read-machine.ensures c.in_ok-check.ensures c.in_ok-ask_call.ensures _ _ _ c.run_steps-ran.ensures

pub returns : goal.returns
returns c =
    let fits : question2 c.args.image.now ≡ true = sym c.sections_fit.ensures ∙ c.if-not-sections_fit.false in
    run_ran _ _ _ _ _ _ c.if-program-gt-MOST_MEMORY.false c.if-cells-gt-MOST_MEMORY.false _ fits c.read-machine.ensures c.in_ok-check.ensures c.in_ok-ask_call.ensures _ _ _ c.run_steps-ran.ensures _ c.write.ensures
