-- The steps of a call, as its code does them. Assumes nothing.
use mathlib.Core.Path.{◌≡◌, sym, ap, ◌∙◌}
use mathlib.Core.Bool.{true}
use mathlib.Core.List.{List}
use Prim.Native.Nat.{ℕ, suc, ◌+◌, ◌-◌, ◌≤◌, ◌<◌}
use native.Mathlib.Omega.{arith}
use lib.ListN.{get_or}
use Rattle.std.specs.Prelude.{Result, Ok, Err}
use Rattle.machine.specs.Machine.{Machine, Memory, state_of}
use Rattle.machine.specs.Questions.{well_formed}
use Rattle.machine.specs.Fault.{number_of_stop}
use Rattle.machine.specs.declared.fault.Stop.{Stop}
use Rattle.machine.specs.declared.fault.Stop.TheVariants as stop
use Rattle.machine.proofs.Formed.{true_formed, formed_true}
use Rattle.machine.specs.Apply.{Transition, stop_number, Report, reported, report_by}
use Rattle.step.specs.Step.{step}
use Rattle.step.proofs.Formed.{step_formed}
use Rattle.step.proofs.Stops.{numbered_stop, numbered_step, stop_number_law}
use Rattle.emulator.specs.Run.{RunResult, result_from, RanFor, run_end, end_of}
use Rattle.emulator.proofs.Loop.{at_end, at_stop, at_more}

-- where the limit is reached, nothing more is done
pub all_done : (p requests : List ℕ) (limit done : ℕ) (m : Machine) (d : Memory) (whole : RunResult) → limit ≤ done → done ≤ limit
    → result_from p requests (limit - done) done (state_of m d) ≡ whole → run_end (RanFor limit 0) (state_of m d) ≡ end_of whole
all_done p requests limit done m d whole h l e =
    let same : limit ≡ done = omega arith in
    ap end_of (rw same (sym (at_end p requests limit done (state_of m d) h) ∙ e))

-- a stop has a number
numbered : (why : Stop) → number_of_stop why ≡ 0 → ⊥
numbered stop.ByteAbsent e = omega arith
numbered stop.NoData e = omega arith
numbered stop.TransferInSlot e = omega arith
numbered stop.NoProduct e = omega arith
numbered stop.EmptyStack e = omega arith
numbered stop.NopMissing e = omega arith

-- an answer, a machine and a memory are what the next transition reports
module _ (p : List ℕ) (q : ℕ) (m : Machine) (d : Memory) (a : Result (Unit {0}) Stop) (m₁ : Machine) (d₁ : Memory) where
  -- the machine after it is well formed
  pub step_kept : report_by a m₁ d₁ ≡ reported (step p (state_of m d) q) → well_formed m ≡ true → well_formed m₁ ≡ true
  unfolding reported
  step_kept e f =
      let left : m₁ ≡ (step p (state_of m d) q).after.machine = ap (λ (t : Report). t.after.machine) e in
      formed_true (rw left (step_formed p (state_of m d) q (true_formed m f)))

  module _ (requests : List ℕ) (limit done : ℕ) (whole : RunResult) where
    abbrev next : Transition
    next = step p (state_of m d) (get_or requests done 0)

    same : report_by a m₁ d₁ ≡ reported (step p (state_of m d) q) → q ≡ get_or requests done 0 → report_by a m₁ d₁ ≡ reported next
    same e r = e ∙ ap (λ (x : ℕ). reported (step p (state_of m d) x)) r

    number : report_by a m₁ d₁ ≡ reported next → (report_by a m₁ d₁).stop ≡ stop_number next.kind
    unfolding reported
    number e = ap (λ (t : Report). t.stop) e

    -- a step: what is left of the limit is one less
    pub step_more : (u : Unit {0}) → a ≡ Ok u → report_by a m₁ d₁ ≡ reported (step p (state_of m d) q)
        → result_from p requests (limit - done) done (state_of m d) ≡ whole → q ≡ get_or requests done 0 → done < limit
        → result_from p requests (limit - (done + 1)) (done + 1) (state_of m₁ d₁) ≡ whole
    unfolding reported
    step_more u is e w r h =
        let o : done + 1 ≡ suc done = omega arith in
        let none : stop_number next.kind ≡ 0 = rw is at (sym (number (same e r))) in
        rw o (ap (λ (t : Report). result_from p requests (limit - suc done) (suc done) t.after) (same e r))
        ∙ sym (at_more p requests limit done (state_of m d) h (numbered_step next.kind (stop_number_law p (state_of m d) (get_or requests done 0)) none))
        ∙ w

    -- a stop: it is not counted
    pub step_stop : (why : Stop) → a ≡ Err why → report_by a m₁ d₁ ≡ reported (step p (state_of m d) q)
        → result_from p requests (limit - done) done (state_of m d) ≡ whole → q ≡ get_or requests done 0 → done < limit
        → run_end (RanFor done (number_of_stop why)) (state_of m₁ d₁) ≡ end_of whole
    unfolding reported
    step_stop why is e w r h =
        let some : number_of_stop why ≡ stop_number next.kind = rw is at (number (same e r)) in
        rw some (
        ap (λ (t : Report). run_end (RanFor done (stop_number next.kind)) t.after) (same e r)
        ∙ ap end_of (sym (at_stop p requests limit done (state_of m d) h (numbered_stop next.kind (λ z. numbered why (some ∙ z)))) ∙ w))
