-- A change of task in a service routine: stores to the RETI_ registers, and reti after them. Assumes nothing.
use mathlib.Core.Path.{◌≡◌, refl, sym, ap, ◌∙◌}
use mathlib.Core.Bool.{true}
use mathlib.Core.List.{List, [], ◌∷◌}
use Prim.Native.Nat.{ℕ}
use Rattle.word.specs.Choice.{choose◌then◌else◌}
use Rattle.word.specs.Flags.{is_among, without_flag}
use Rattle.machine.specs.Machine.{Machine, position_at, with_position, with_conditions, with_psr, with_set2}
use Rattle.machine.specs.Control.{control_at, INT_SERV, RETI_ADDR, RETI_PSR, RETI_CR0, RETURNS}
use Rattle.machine.specs.Stack.{popped, shown_top, service_flags, with_stack, return_stored, top_stored, store_control}
use Rattle.machine.specs.declared.position.Position.{Position}
use Rattle.machine.specs.declared.stack.Entry.{Entry}
use Rattle.machine.proofs.Widths.{top_registers, stored_top}
use Rattle.machine.proofs.Shown.{show_again, shown_flags, flags_popped}
use Rattle.machine.proofs.Formed.{Stacked, pushed, WellFormed, true_formed}
use Rattle.machine.specs.Kind as kind
use Rattle.machine.specs.Apply.{next_pc, advance, interrupt_return, machine_only, updated, apply}
use Rattle.step.specs.Return.{IgnoredWhenEmpty, returned_to, TaskSwitch}

-- what a store to a RETI_ register leaves, by the stack
return_stored_law : (offset x : ℕ) (m : Machine) (es : List Entry) → is_among offset RETURNS ≡ true → m.stack ≡ es → store_control offset x m ≡ top_stored offset x es m
return_stored_law n x m es h e = stored_top n x m (top_registers n ∙ h) ∙ ap (λ l. top_stored n x l m) e

pub ignored_when_empty : IgnoredWhenEmpty
unfolding apply machine_only updated top_stored
ignored_when_empty n x s h e = rw (return_stored_law n x s.machine [] h e)

-- ---- reti after stores

-- one store after another leaves a machine with another top and another position
module _ (offset x : ℕ) (m : Machine) (e : Entry) (es : List Entry) (h : is_among offset RETURNS ≡ true) where
  abbrev top : Entry
  top = return_stored offset x e

  first_stored : m.stack ≡ e ∷ es → advance (store_control offset x m) ≡ with_position (position_at (next_pc (with_stack (top ∷ es) m))) (with_stack (top ∷ es) m)
  unfolding top_stored advance
  first_stored s = ap advance (return_stored_law offset x m (e ∷ es) h s)

  stored_again : (p : Position) → let k = with_position p (with_stack (e ∷ es) m) in
      advance (store_control offset x k) ≡ with_position (position_at (next_pc (with_position p (with_stack (top ∷ es) m)))) (with_stack (top ∷ es) m)
  unfolding top_stored advance with_position with_stack
  stored_again p =
      ap advance (return_stored_law offset x (with_position p (with_stack (e ∷ es) m)) (e ∷ es) h refl ∙ rw (show_again (top ∷ es) (e ∷ es) m.control))

returned : (m : Machine) (p : Position) (e : Entry) (es : List Entry) → interrupt_return (with_position p (with_stack (e ∷ es) m)) ≡ returned_to e.address e.psr e.c0 es m
unfolding interrupt_return with_position with_psr with_set2 with_conditions with_stack shown_top popped
returned m p e es = rw (show_again es (e ∷ es) m.control)

-- the flag of the top's source is cleared
cleared : (m : Machine) (e : Entry) (es : List Entry) → WellFormed m → Stacked (e ∷ es) → m.stack ≡ e ∷ es
    → control_at (with_stack es m) INT_SERV ≡ without_flag e.source (control_at m INT_SERV)
unfolding with_stack
cleared m e es f (pushed k n s) q =
    shown_flags es m.control f.control.count ∙ flags_popped e es n ∙ ap (without_flag e.source) (ap service_flags (sym q) ∙ sym f.served)

pub task_switch : TaskSwitch
unfolding apply machine_only updated is_among return_stored choose◌then◌else◌
task_switch a q c s e es w k =
    let m = s.machine in
    let f = true_formed m w in (
      ap (λ t. machine_only kind.InterruptReturn interrupt_return (record { machine = t; memory = s.memory })) (
          ap (λ t. advance (store_control RETI_CR0 c (advance (store_control RETI_PSR q t)))) (first_stored RETI_ADDR a m e es refl k)
          ∙ ap (λ t. advance (store_control RETI_CR0 c t)) (stored_again RETI_PSR q m _ es refl _)
          ∙ stored_again RETI_CR0 c m _ es refl _)
          ∙ ap (λ t. record { kind = kind.InterruptReturn; after = record { machine = t; memory = s.memory } }) (returned m _ _ es),
      cleared m e es f (rw (← k) f.stack) k,
    )
