-- A call whose program has the nops that must follow has the same steps without the look at them. Assumes nothing.
use mathlib.Core.Path.{refl, ap, ◌∙◌}
use mathlib.Core.List.{List, [], ◌∷◌}
use Prim.Native.Nat.{zero, suc}
use lib.ListN.{get_or}
use Rattle.word.specs.Choice.{choose◌then◌else◌}
use Rattle.word.proofs.Tests.{if_else}
use Rattle.machine.specs.Apply.{Transition}
use Rattle.step.specs.Step.{is_stop, step}
use Rattle.step.specs.RequiredNops.{step_unchecked}
use Rattle.step.proofs.RequiredNops.{nops_kept}
use Rattle.emulator.specs.Run.{run_by, run}
use Rattle.emulator.specs.RequiredNops.{NopsFollowIn, RunsAsBefore}

pub runs_as_before : RunsAsBefore
unfolding run_by run NopsFollowIn
runs_as_before program requests zero done s h = refl
runs_as_before program requests (suc left) done s h =
    let q = get_or requests done 0 in
    let t = step program s q in
    ap (λ (ts : List Transition). t ∷ ts) (if_else (is_stop t.kind) [] _ _ (λ e. runs_as_before program requests left (suc done) t.after (h.1 e)))
    ∙ ap (λ (x : Transition). x ∷ (choose is_stop x.kind then [] else run_by (step_unchecked program) requests left (suc done) x.after)) (nops_kept program s q h.0)
