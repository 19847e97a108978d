-- What was fetched, and what is reported of an effect that was carried out or stands in the instruction's place. Assumes nothing.
use mathlib.Core.Path.{◌≡◌, refl, sym, ◌∙◌}
use mathlib.Core.List.{List}
use Prim.Native.Nat.{ℕ, ◌<◌}
use native.Mathlib.Omega.{arith}
use lib.ListN.{length}
use Rattle.std.specs.Prelude.{Result, Ok, Err, OnErr}
use Rattle.isa.proofs.Decoded.{bytes_positive}
use Rattle.machine.specs.declared.fault.Fault.{Fault}
use Rattle.machine.specs.declared.fault.Fault.TheVariants as fault
use Rattle.machine.specs.Machine.{Machine, Memory, memory_of, State, state_of, psr, width_of}
use Rattle.machine.specs.Fault.{effect_of}
use Rattle.machine.specs.Effect.{Effect, Stopped, Raised, SystemCall, InterruptReturn, StoreCell, Updates}
use Rattle.machine.specs.Apply.{Report, raise, apply, reported, report_on, applying}
use Rattle.execute.specs.View.{Found, attempted, View, view, view_of}
use Rattle.execute.specs.Execute.{on_found}
use Rattle.execute.specs.Decide.{fetched_then, decide}
use Rattle.execute.specs.Promises.{settled, answered, taken}
use Rattle.execute.proofs.Bytes.{fetched_inside}

-- ---- what was fetched

module _ (p : List ℕ) (m : Machine) (memory : Memory) where
  abbrev v : View
  v = view_of p m memory

  abbrev decided : Result State Effect
  decided = settled (decide v) (state_of m memory)

  -- no word
  pub not_fetched : (why : Fault) → attempted (Err why) ≡ v.fetched → Err (effect_of why) ≡ decided
  unfolding decide fetched_then on_found
  not_fetched (fault.Exception e) f = rw (← f) refl
  not_fetched (fault.Stop e) f = rw (← f) refl

  -- a word
  pub word_fetched : (word : ℕ) → Found word ≡ v.fetched → settled (fetched_then v (Found word)) (state_of m memory) ≡ decided
  unfolding decide
  word_fetched word f = rw (← f) refl

  -- its bytes are inside the program
  pub word_inside : (word : ℕ) → Found word ≡ v.fetched → m.position.pc < length p
  unfolding view
  word_inside word f =
      let n = bytes_positive (width_of (psr m)) in
      let l = fetched_inside p _ _ _ _ _ word n (sym f) in
      omega arith

-- ---- what is reported

module _ (s : State) where
  -- of what is answered for an effect: done, or the effect that stands in its place
  abbrev report_of : Result State Effect → Report
  report_of (Ok after) = record { stop = 0; after = after }
  report_of (Err why) = reported (apply why s)

  settled_reported : (e : Effect) → reported (apply e s) ≡ report_of (settled e s)
  unfolding applying
  settled_reported (Stopped n) = refl
  settled_reported (Raised c) = refl
  settled_reported SystemCall = refl
  settled_reported InterruptReturn = refl
  settled_reported (StoreCell a x) = refl
  settled_reported (Updates u) = refl

module _ (e : Effect) (m : Machine) (memory : Memory) where
  abbrev here : State
  here = state_of m memory

  -- what is carried out
  pub done_reported : (after : State) → Ok after ≡ settled e here → report_on e m memory ≡ record { stop = 0; after = after }
  unfolding report_on
  done_reported after h = settled_reported here e ∙ rw (← h) refl

  -- an exception
  pub raise_reported : (code : ℕ) → Err (Raised code) ≡ settled e here → report_on e m memory ≡ record { stop = 0; after = state_of (raise code m) memory }
  unfolding applying
  raise_reported code h = settled_reported here e ∙ rw (← h) refl

  -- a stop
  pub stop_reported : (n : ℕ) → Err (Stopped n) ≡ settled e here → report_on e m memory ≡ record { stop = n; after = here }
  unfolding applying
  stop_reported n h = settled_reported here e ∙ rw (← h) refl

-- what is reported of an answer is reported of the effect that was answered, where on Err nothing changed
pub taken_reported : {r : Report} (answer : Result (Unit {0}) Fault) (left : Machine) (e : Effect) (before : Machine) (cells stored : List ℕ)
    → answered answer (state_of left (memory_of stored)) ≡ settled e (state_of before (memory_of cells))
    → OnErr answer ((left ≡ before) × (stored ≡ cells))
    → r ≡ taken answer left (memory_of stored) → r ≡ report_on e before (memory_of cells)
unfolding applying
taken_reported (Ok x) left e before cells stored h k q = q ∙ sym (done_reported e before (memory_of cells) (state_of left (memory_of stored)) h)
taken_reported (Err (fault.Exception x)) left e before cells stored h k q = q ∙ rw (k.0, k.1) (sym (raise_reported e before (memory_of cells) _ h))
taken_reported (Err (fault.Stop x)) left e before cells stored h k q = q ∙ rw (k.0, k.1) (sym (stop_reported e before (memory_of cells) _ h))
