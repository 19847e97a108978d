-- A well-formed machine with one part replaced by a good one is well-formed. Assumes nothing.
use mathlib.Core.Path.{refl}
use mathlib.Core.Logic.{◌≢◌}
use mathlib.Core.List.{List}
use Prim.Native.Nat.{ℕ, ◌^◌, ◌<◌}
use native.Mathlib.Omega.{arith}
use lib.ListN.{get_or, set}
use lib.Seq.{get_or-set_same, get_or-set_other}
use lib.Dec.{lit<}
use Rattle.machine.specs.Machine.{Machine, PSR, psr, position_at, with_set1, with_set2, with_conditions, with_control, with_position, with_dividers, with_psr}
use Rattle.machine.specs.Control.{register_at, is_writable, replaces_top, store_register}
use Rattle.machine.specs.Words.{REGISTERS, FLAGS, TIMERS}
use Rattle.machine.specs.Stack.{with_stack, return_stored, top_stored, store_control}
use Rattle.word.proofs.Tests.{if_holds}
use Rattle.machine.specs.declared.position.Position.{Position}
use Rattle.machine.specs.declared.stack.Entry.{Entry}
use Rattle.machine.proofs.Formed.{Sized, sized_set, StatusOk, Placed, Stacked, empty, pushed, WellFormed}
use Rattle.machine.proofs.Stored.{Control, control_of, control_kept, entry_stored, control_shown}

-- ---- register set 2, which has PSR

pub record Second (l : List ℕ) : Type 0 where
  pub sized : Sized REGISTERS (2 ^ 32) l
  pub status : StatusOk (get_or l PSR 0)

pub second_set : {l : List ℕ} (i x : ℕ) → PSR ≢ i → x < 2 ^ 32 → Second l → Second (set l i x)
second_set {l} i x n h s = record { sized = sized_set i x s.sized h; status = rw (get_or-set_other l i PSR x 0 n) s.status }

pub second_psr : {l : List ℕ} (q : ℕ) → StatusOk q → Sized REGISTERS (2 ^ 32) l → Second (set l PSR q)
second_psr {l} q k s =
    record {
      sized = sized_set PSR q s (omega (arith, k.small));
      status = rw (get_or-set_same l PSR q 0 (rw s.count (lit< tt))) k;
    }

pub second_of : {m : Machine} → WellFormed m → Second m.set2
unfolding psr
second_of f = record { sized = f.set2; status = f.status }

-- ---- the parts together

formed : (m : Machine) → Sized REGISTERS (2 ^ 32) m.set1 → Second m.set2 → Sized FLAGS 8 m.conditions → Control m.stack m.control
    → Placed m.position → Stacked m.stack → Sized TIMERS 256 m.dividers → WellFormed m
unfolding psr
formed m r s c k p t d =
    record {
      set1 = r;
      set2 = s.sized;
      conditions = c;
      control = k.registers;
      status = s.status;
      served = k.served;
      return_address = k.address;
      return_status = k.status;
      return_flags = k.flags;
      position = p;
      stack = t;
      dividers = d;
    }

module _ {m : Machine} where
  pub set1_formed : {l : List ℕ} → Sized REGISTERS (2 ^ 32) l → WellFormed m → WellFormed (with_set1 l m)
  unfolding with_set1
  set1_formed {l} s f = formed (with_set1 l m) s (second_of f) f.conditions (control_of f) f.position f.stack f.dividers

  pub set2_formed : {l : List ℕ} → Second l → WellFormed m → WellFormed (with_set2 l m)
  unfolding with_set2
  set2_formed {l} s f = formed (with_set2 l m) f.set1 s f.conditions (control_of f) f.position f.stack f.dividers

  pub psr_formed : {q : ℕ} → StatusOk q → WellFormed m → WellFormed (with_psr q m)
  unfolding with_psr
  psr_formed {q} k f = set2_formed (second_psr q k f.set2) f

  pub conditions_formed : {l : List ℕ} → Sized FLAGS 8 l → WellFormed m → WellFormed (with_conditions l m)
  unfolding with_conditions
  conditions_formed {l} s f = formed (with_conditions l m) f.set1 (second_of f) s (control_of f) f.position f.stack f.dividers

  pub control_formed : {l : List ℕ} → Control m.stack l → WellFormed m → WellFormed (with_control l m)
  unfolding with_control
  control_formed {l} k f = formed (with_control l m) f.set1 (second_of f) f.conditions k f.position f.stack f.dividers

  pub position_formed : {q : Position} → Placed q → WellFormed m → WellFormed (with_position q m)
  unfolding with_position
  position_formed {q} p f = formed (with_position q m) f.set1 (second_of f) f.conditions (control_of f) p f.stack f.dividers

  pub stack_formed : {es : List Entry} → Stacked es → WellFormed m → WellFormed (with_stack es m)
  unfolding with_stack
  stack_formed {es} s f = formed (with_stack es m) f.set1 (second_of f) f.conditions (control_shown s f.control) f.position s f.dividers

  top_formed : (n x : ℕ) {es : List Entry} → Stacked es → WellFormed m → WellFormed (top_stored n x es m)
  unfolding top_stored return_stored
  top_formed n x empty f = f
  top_formed n x (pushed k new s) f = stack_formed (pushed (entry_stored n x k) new s) f

  pub stored_formed : (n x : ℕ) → WellFormed m → WellFormed (store_control n x m)
  unfolding store_control store_register
  stored_formed n x f =
      if_holds WellFormed (replaces_top (register_at n).access) (λ _. top_formed n x f.stack f)
      (λ _. if_holds WellFormed (is_writable (register_at n).access) (λ e. control_formed (control_kept n x e (control_of f)) f) (λ _. f))

  pub dividers_formed : {l : List ℕ} → Sized TIMERS 256 l → WellFormed m → WellFormed (with_dividers l m)
  unfolding with_dividers
  dividers_formed {l} s f = formed (with_dividers l m) f.set1 (second_of f) f.conditions (control_of f) f.position f.stack s

-- ---- positions

pub placed_at : {a : ℕ} → a < 2 ^ 32 → Placed (position_at a)
unfolding position_at
placed_at h =
    record { address = h; slot = lit< tt; target = lit< tt; held = lit< tt; high = lit< tt; low = lit< tt; no_slot = λ _. refl; no_product = λ _. (refl, refl) }

-- control goes on at an address, with no slot and no product
pub moved_formed : {m : Machine} {a : ℕ} → a < 2 ^ 32 → WellFormed m → WellFormed (with_position (position_at a) m)
moved_formed h f = position_formed (placed_at h) f
