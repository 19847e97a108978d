-- The answer of a call, refused or not, and the caller's buffer and data memory. Assumes nothing.
use mathlib.Core.Path.{◌≡◌, refl, sym, ap, ◌∙◌}
use mathlib.Core.List.{List, [], ◌∷◌, ◌++◌}
use Prim.Native.Nat.{ℕ, zero, suc, ◌+◌, ◌≤◌, ◌<◌}
use native.Mathlib.Omega.{arith}
use native.Mathlib.Nat.{le_of_suc-le-suc}
use lib.ListN.{length, get_or, drop, get_elem?, length-append, length-drop}
use lib.Seq.{drop-nil}
use Rattle.codec.specs.Number.{over}
use Rattle.machine.specs.Machine.{Machine, State, Memory}
use Rattle.machine.specs.Questions.{Accepted}
use Rattle.image.specs.Image.{read_image, write_image}
use Rattle.image.specs.RoundTrip.{WrittenBack}
use Rattle.image.proofs.Image.{accepted_formed, write_image_longest, write_image_read_image}
use Rattle.machine.specs.Apply.{Transition}
use Rattle.emulator.specs.Run.{Call, run_by, run, RunResult, result_of, result_from, Asked, No, Start, asked, RefusedWith, RanFor, outcome, called_by, called, run_call, state_with}
use Rattle.emulator.specs.Questions.{FirstNo}
use Rattle.emulator.specs.Closure.{Unchanged, Refusals, Written, Ended, limit_reached, stopped, RanAs, Completed, NoStep, LimitZero}
use Rattle.emulator.proofs.Loop.{Runs, limit_reached_law, went_on, runs_by}
use Rattle.emulator.proofs.Loop as loop
use Rattle.step.proofs.Stops.{stop_number_law}
use Rattle.emulator.proofs.Questions.{asked_yes, first_no_law}
use Rattle.emulator.proofs.Closed.{result_formed, left_by}

-- ---- refusals

refused_by : (p image : List ℕ) (memory : Memory) (c : Call) (n : ℕ) → 1 ≤ n → n ≤ 8 → Unchanged image memory c n (called_by p image memory c (No n))
unfolding called_by
refused_by p image memory c n l h =
    record { least = l; most = h; answer = refl; same_buffer = refl; same_memory = refl; same_image = refl; no_steps = refl }

pub refusals : Refusals
unfolding Refusals called FirstNo
refusals p image memory c n e =
    let f = (first_no_law p image memory c n).0 e in
    rw e (refused_by p image memory c n f.least f.most)

-- ---- the buffer

module _ {A : Type 0} where
  front_at : (l r : List A) (i : ℕ) → i < length l → get_elem? (l ++ r) i ≡ get_elem? l i
  front_at [] r i h = absurd (omega arith)
  front_at (x ∷ l) r zero h = refl
  front_at (x ∷ l) r (suc i) h = front_at l r i (le_of_suc-le-suc h)

further_at : (l s : List ℕ) (i : ℕ) → length l ≤ i → get_elem? (over l s) i ≡ get_elem? s i
further_at [] s i h = refl
further_at (x ∷ l) s zero h = absurd (omega arith)
further_at (x ∷ l) [] (suc i) h = ap (λ r. get_elem? (l ++ r) i) (sym (drop-nil (length l))) ∙ further_at l [] i (le_of_suc-le-suc h)
further_at (x ∷ l) (y ∷ s) (suc i) h = further_at l s i (le_of_suc-le-suc h)

written : (image buffer : List ℕ) → length image ≤ length buffer → Written image buffer (over image buffer)
written image buffer h =
    record {
      size = omega (arith, length-append image (drop (length image) buffer), length-drop (length image) buffer);
      front = front_at image (drop (length image) buffer);
      further = further_at image buffer;
    }

-- ---- steps and ending

module _ (p requests : List ℕ) where
  runs_ended : {n done : ℕ} {s : State} {ts : List Transition} {e : RunResult} → Runs p requests n done s ts e
      → (limit count : ℕ) → limit ≡ done + n → count ≡ done + length ts → Ended limit e.steps e.ending count
  runs_ended limit_reached_law limit count h k = limit_reached (omega arith) (omega arith) refl
  runs_ended (loop.stopped {done = d} {s = s} x) limit count h k =
      stopped (omega arith) (omega arith) (stop_number_law p s _ x)
  runs_ended (went_on x r) limit count h k = runs_ended r limit count (omega arith) (omega arith)

-- ---- a call that is not refused

completed_by : (p image : List ℕ) (memory : Memory) (c : Call) (m : Machine) → asked p image memory c ≡ Start m
    → RanAs p (state_with m memory) c (called_by p image memory c (Start m))
unfolding called_by
completed_by p image memory c m e =
    let y = asked_yes p image memory c m e in
    let s = state_with m memory in
    let f = result_formed p c.requests c.limit s (accepted_formed image m y.read) in
    let x = result_from p c.requests c.limit 0 s in
    let l = left_by p image memory c m y.read (Start m) e in
    record {
      steps = x.steps;
      ending = x.ending;
      answer = refl;
      ended = runs_ended p c.requests (runs_by p c.requests c.limit 0 s) c.limit _ (omega arith) (omega arith);
      written = written (write_image x.after.machine) c.buffer (omega (arith, write_image_longest f, y.room));
      stepped = l.1;
      left = l.0;
    }

pub completed : Completed
unfolding Completed called
completed p image memory c m e = rw e (completed_by p image memory c m e)

no_step_by : (p image : List ℕ) (memory : Memory) (c : Call) (m : Machine) → ((i : ℕ) → get_or image i 0 < 256) → read_image image ≡ Accepted m → c.limit ≡ 0
    → NoStep image memory (called_by p image memory c (Start m))
unfolding called_by run_by run result_from result_of WrittenBack
no_step_by p image memory c m b e z =
    rw z (record { no_steps = refl; same_image = write_image_read_image image m b e; same_memory = refl })

pub limit_zero : LimitZero
unfolding LimitZero called
limit_zero p image memory c m b e z = rw e (no_step_by p image memory c m b (asked_yes p image memory c m e).read z)

-- ---- the call, by what the questions say

pub call_refused : (p image : List ℕ) (memory : Memory) (c : Call) (n : ℕ) → asked p image memory c ≡ No n → run_call p image memory c ≡ outcome (RefusedWith n) c.buffer memory
unfolding run_call called called_by
call_refused p image memory c n e = ap (λ (a : Asked). (called_by p image memory c a).outcome) e

pub call_started : (p image : List ℕ) (memory : Memory) (c : Call) (m : Machine) → asked p image memory c ≡ Start m
    → let e = result_from p c.requests c.limit 0 (state_with m memory) in
    run_call p image memory c ≡ outcome (RanFor e.steps e.ending) (over (write_image e.after.machine) c.buffer) e.after.memory
unfolding run_call called called_by
call_started p image memory c m e = ap (λ (a : Asked). (called_by p image memory c a).outcome) e
