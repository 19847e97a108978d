-- The steps of a call, one at a time: how the definition goes on, stops and ends. Assumes nothing.
use mathlib.Core.Path.{◌≡◌, refl, ap, ◌∙◌}
use mathlib.Core.Bool.{true, false}
use mathlib.Core.List.{List, [], ◌∷◌}
use Prim.Native.Nat.{ℕ, zero, suc, ◌-◌, ◌≤◌, ◌<◌}
use native.Mathlib.Omega.{arith}
use lib.ListN.{get_or}
use Rattle.word.specs.Choice.{choose◌then◌else◌}
use Rattle.word.proofs.Tests.{either, if_true}
use Rattle.machine.specs.Machine.{State}
use Rattle.machine.specs.Apply.{Transition, stop_number}
use Rattle.step.specs.Step.{is_stop, unclocked, step}
use Rattle.step.proofs.Clocks.{stop_alone, stop_kind}
use Rattle.emulator.specs.Run.{run_by, run, RunResult, result_of, result_from}
use Rattle.emulator.specs.Closure.{StopChangesNothing}

pub stop_changes_nothing : StopChangesNothing
unfolding StopChangesNothing step unclocked
stop_changes_nothing p s q e =
    let t = unclocked p s q in
    let stop = stop_kind t e in
    ap (λ (x : Transition). x.after) (stop_alone t stop) ∙ if_true _ _ _ stop

module _ (p requests : List ℕ) where
  -- the next transition
  abbrev next : (done : ℕ) → State → Transition
  next done s = step p s (get_or requests done 0)

  -- ---- with n steps left

  pub result_zero : (done : ℕ) (s : State) → result_from p requests zero done s ≡ record { steps = done; ending = 0; after = s }
  unfolding result_from result_of run_by run
  result_zero done s = refl

  pub result_stop : (n done : ℕ) (s : State) → is_stop (next done s).kind ≡ true
      → result_from p requests (suc n) done s ≡ record { steps = done; ending = stop_number (next done s).kind; after = (next done s).after }
  unfolding result_from result_of run_by run choose◌then◌else◌
  result_stop n done s e = rw e

  pub result_more : (n done : ℕ) (s : State) → is_stop (next done s).kind ≡ false
      → result_from p requests (suc n) done s ≡ result_from p requests n (suc done) (next done s).after
  unfolding result_from result_of run_by run choose◌then◌else◌
  result_more n done s e = rw e

  pub run_stop : (n done : ℕ) (s : State) → is_stop (next done s).kind ≡ true → run p requests (suc n) done s ≡ next done s ∷ []
  unfolding run_by run choose◌then◌else◌
  run_stop n done s e = rw e

  pub run_more : (n done : ℕ) (s : State) → is_stop (next done s).kind ≡ false
      → run p requests (suc n) done s ≡ next done s ∷ run p requests n (suc done) (next done s).after
  unfolding run_by run choose◌then◌else◌
  run_more n done s e = rw e

  -- ---- by the steps done, for a loop that counts them up to the limit

  pub at_end : (limit done : ℕ) (s : State) → limit ≤ done → result_from p requests (limit - done) done s ≡ record { steps = done; ending = 0; after = s }
  at_end limit done s h =
      let e : limit - done ≡ 0 = omega arith in
      rw e (result_zero done s)

  pub at_stop : (limit done : ℕ) (s : State) → done < limit → is_stop (next done s).kind ≡ true
      → result_from p requests (limit - done) done s ≡ record { steps = done; ending = stop_number (next done s).kind; after = (next done s).after }
  at_stop limit done s h e =
      let l : limit - done ≡ suc (limit - suc done) = omega arith in
      rw l (result_stop (limit - suc done) done s e)

  pub at_more : (limit done : ℕ) (s : State) → done < limit → is_stop (next done s).kind ≡ false
      → result_from p requests (limit - done) done s ≡ result_from p requests (limit - suc done) (suc done) (next done s).after
  at_more limit done s h e =
      let l : limit - done ≡ suc (limit - suc done) = omega arith in
      rw l (result_more (limit - suc done) done s e)

  -- ---- the three cases, with the transitions

  pub data Runs : (left done : ℕ) → State → List Transition → RunResult → Type 0 where
    limit_reached_law : {done : ℕ} {s : State} → Runs zero done s [] (record { steps = done; ending = 0; after = s })
    stopped : {n done : ℕ} {s : State} → is_stop (next done s).kind ≡ true
        → Runs (suc n) done s (next done s ∷ []) (record { steps = done; ending = stop_number (next done s).kind; after = (next done s).after })
    went_on : {n done : ℕ} {s : State} {ts : List Transition} {e : RunResult} → is_stop (next done s).kind ≡ false → Runs n (suc done) (next done s).after ts e
        → Runs (suc n) done s (next done s ∷ ts) e

  pub runs_by : (n done : ℕ) (s : State) → Runs n done s (run p requests n done s) (result_from p requests n done s)
  unfolding run_by run
  runs_by zero done s = rw (result_zero done s) limit_reached_law
  runs_by (suc n) done s =
      either (is_stop (next done s).kind)
      (λ e. rw (run_stop n done s e, result_stop n done s e) (stopped e))
      (λ e. rw (run_more n done s e, result_more n done s e) (went_on e (runs_by n (suc done) (next done s).after)))
