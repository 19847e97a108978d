-- What a call leaves: an image that the next call accepts, which says the machine after the last transition; and the data memory. Assumes nothing.
use mathlib.Core.Path.{◌≡◌, refl, ap, ◌∙◌}
use mathlib.Core.List.{List, [], ◌∷◌, ◌++◌}
use Prim.Native.Nat.{ℕ}
use lib.ListN.{get_or}
use Rattle.machine.specs.Machine.{Machine, State, Memory}
use Rattle.machine.specs.Questions.{Accepted}
use Rattle.image.specs.Image.{read_image}
use Rattle.machine.proofs.Formed.{WellFormed}
use Rattle.image.proofs.Image.{read_back, accepted_formed}
use Rattle.machine.specs.Apply.{Transition}
use Rattle.step.proofs.Formed.{step_formed}
use Rattle.emulator.specs.Run.{Call, run, RunResult, result_from, Asked, No, Start, called_by, called, transitions, state_with, asked}
use Rattle.emulator.specs.Closure.{final, Steps, Left, Closure, Continuity}
use Rattle.emulator.proofs.Questions.{asked_yes}
use Rattle.emulator.proofs.Loop.{Runs, limit_reached_law, stopped, went_on, runs_by}

-- ---- transitions that are steps

steps_append : (p : List ℕ) (s : State) (ts us : List Transition) → Steps p s ts → Steps p (final s ts) us → Steps p s (ts ++ us)
unfolding Steps final
steps_append p s [] us a b = b
steps_append p s (t ∷ ts) us a b = (a.0, a.1, steps_append p t.after ts us a.2 b)

steps_formed : (p : List ℕ) (s : State) (ts : List Transition) → Steps p s ts → WellFormed s.machine → WellFormed (final s ts).machine
unfolding Steps final
steps_formed p s [] a f = f
steps_formed p s (t ∷ ts) a f = steps_formed p t.after ts a.2 (rw a.1 (step_formed p s a.0 f))

-- ---- those of a call

module _ (p requests : List ℕ) where
  runs_steps : {n done : ℕ} {s : State} {ts : List Transition} {e : RunResult} → Runs p requests n done s ts e → Steps p s ts
  unfolding Steps
  runs_steps limit_reached_law = tt
  runs_steps (stopped {done = k} h) = (get_or requests k 0, refl, tt)
  runs_steps (went_on {done = k} h r) = (get_or requests k 0, refl, runs_steps r)

  runs_final : {n done : ℕ} {s : State} {ts : List Transition} {e : RunResult} → Runs p requests n done s ts e → e.after ≡ final s ts
  unfolding final
  runs_final limit_reached_law = refl
  runs_final (stopped h) = refl
  runs_final (went_on h r) = runs_final r

-- what a call that runs leaves is well formed
pub result_formed : (p requests : List ℕ) (n : ℕ) (s : State) → WellFormed s.machine → WellFormed (result_from p requests n 0 s).after.machine
result_formed p requests n s f =
    let r = runs_by p requests n 0 s in
    rw (runs_final p requests r) (steps_formed p s (run p requests n 0 s) (runs_steps p requests r) f)

-- ---- closure and continuity

pub left_by : (p image : List ℕ) (memory : Memory) (c : Call) (m : Machine) → read_image image ≡ Accepted m → (a : Asked) → asked p image memory c ≡ a
    → Left (state_with m memory) (called_by p image memory c a) × Steps p (state_with m memory) (called_by p image memory c a).transitions
unfolding called_by final Steps
left_by p image memory c m e (No n) q = (record { machine = e; memory = refl }, tt)
left_by p image memory c m e (Start x) q =
    let y = asked_yes p image memory c x q in
    let g : m ≡ x = cc (y.read, e) in
    let s = state_with x memory in
    let r = runs_by p c.requests c.limit 0 s in
    let h = runs_final p c.requests r in
    rw g (
      record {
        machine = read_back (result_formed p c.requests c.limit s (accepted_formed image x y.read)) ∙ ap (λ (t : State). Accepted t.machine) h;
        memory = ap (λ (t : State). t.memory) h;
      },
      runs_steps p c.requests r,
    )

pub closure : Closure
unfolding Closure called
closure p image memory c m e = (left_by p image memory c m e (asked p image memory c) refl).0

pub continuity : Continuity
unfolding Continuity transitions called Steps
continuity p image memory [] m e = tt
continuity p image memory (c ∷ cs) m e =
    let x = left_by p image memory c m e (asked p image memory c) refl in
    let d = called p image memory c in
    let s = final (state_with m memory) d.transitions in
    let rest : Steps p s (transitions p d.image d.outcome.memory cs) = rw x.0.memory (continuity p d.image s.memory cs s.machine x.0.machine) in
    steps_append p (state_with m memory) d.transitions (transitions p d.image d.outcome.memory cs) x.1 rest
