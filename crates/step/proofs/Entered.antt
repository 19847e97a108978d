-- What is asked of a well-formed machine's stack: by an acceptance, once the pending flags are stored, and by an instruction. Assumes nothing.
use mathlib.Core.Path.{◌≡◌, refl, ◌∙◌}
use mathlib.Core.Bool.{true, false}
use mathlib.Core.List.{◌∷◌}
use Prim.Native.Nat.{ℕ, ◌<◌}
use lib.ListN.{set}
use Rattle.word.specs.Flags.{is_among, distinct_below}
use Rattle.word.proofs.Flags.{distinct_more}
use Rattle.machine.specs.Machine.{Machine, with_control}
use Rattle.machine.specs.Control.{control_at, INT_SERV, INT_PEND}
use Rattle.machine.proofs.Shown.{stack_shown}
use Rattle.machine.specs.Stack.{StackShown, show_stack, sources_of, service_flags}
use Rattle.machine.specs.declared.stack.Entry.{Entry}
use Rattle.machine.proofs.Lists.{get_other}
use Rattle.machine.specs.Questions.{well_formed}
use Rattle.machine.proofs.Formed.{stacked_distinct, true_formed}
use Rattle.step.specs.Interrupt.{entry_for}

-- ---- an acceptance

module _ (m : Machine) (n pending : ℕ) {a : Machine} (stored : a ≡ with_control (set m.control INT_PEND pending) m) where
  -- INT_SERV still shows the stack
  pub still_served : well_formed m ≡ true → control_at a INT_SERV ≡ service_flags a.stack
  unfolding with_control
  still_served w = rw stored (get_other m.control INT_PEND INT_SERV pending refl ∙ (true_formed m w).served)

  -- the new entry's source is a different one
  pub still_distinct : {e : Entry} → e ≡ entry_for n m → n < 12 → is_among n (sources_of m.stack) ≡ false → well_formed m ≡ true
      → distinct_below 12 (sources_of (e ∷ a.stack)) ≡ true
  unfolding with_control entry_for sources_of
  still_distinct i l new w = rw (stored, i) (distinct_more 12 n (sources_of m.stack) record { below = l; new = new; rest = stacked_distinct (true_formed m w).stack })

-- ---- a well-formed machine's stack is shown

module _ (m : Machine) (w : well_formed m ≡ true) where
  shown : StackShown m
  shown =
      let f = true_formed m w in
      stack_shown f.served f.return_address f.return_status f.return_flags (stacked_distinct f.stack)

  pub stack_told : show_stack m.stack m.control ≡ m.control
  stack_told = shown.shown

  pub sources_told : distinct_below 12 (sources_of m.stack) ≡ true
  sources_told = shown.distinct
