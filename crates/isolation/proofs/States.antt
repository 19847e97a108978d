-- States in user mode: what is kept from one to the next, and what two of them agree on. Assumes nothing.
use mathlib.Core.Path.{◌≡◌, refl, sym, ap, ◌∙◌}
use mathlib.Core.Bool.{true, false}
use Prim.Native.Nat.{ℕ, ◌+◌, ◌%◌, ◌^◌, ◌≤◌}
use lib.ListN.{length, get_or, get_elem?}
use Rattle.word.specs.Arithmetic.{or_of}
use Rattle.word.specs.Flags.{is_among}
use Rattle.word.proofs.Flags.{apart_among}
use Rattle.machine.specs.Machine.{Machine, State, PSR, psr, user_mode, with_control}
use Rattle.machine.specs.Control.{control_at, protected_cell, CCB_BASE, INT_PEND, DMEM_BOUND_LO, DMEM_BOUND_HI, IMEM_BOUND_LO, IMEM_BOUND_HI, with_pending}
use Rattle.machine.proofs.Lists.{at_set_other, same_get_d}
use Rattle.timer.specs.Theorems.{ClockKept}
use Rattle.execute.specs.View.{nested_by}
use Rattle.step.specs.Interrupt.{with_requests}
use Rattle.isolation.specs.Isolation.{EXCEPTED, Kept, SameShown}
use Rattle.isolation.proofs.User.{User, Alike, Guarded, user_bit}

-- in user mode, the control block wholly protected
pub record Mode (s : State) : Type 0 where
  pub user : User s.machine
  pub block_low : control_at s.machine DMEM_BOUND_LO ≤ control_at s.machine CCB_BASE
  pub block_high : control_at s.machine CCB_BASE + 255 ≤ control_at s.machine DMEM_BOUND_HI

pub mode_user : {s : State} → Mode s → user_mode (psr s.machine) ≡ true
mode_user {s} i = user_bit (psr s.machine) i.user.status

-- ---- what is kept

pub kept_control : {s t : State} → Kept s t → (n : ℕ) → is_among n EXCEPTED ≡ false → control_at t.machine n ≡ control_at s.machine n
kept_control {s} {t} k n h = same_get_d t.machine.control s.machine.control n 0 (k.control n h)

kept_protected : {s t : State} → Kept s t → (a : ℕ) → protected_cell t.machine a ≡ protected_cell s.machine a
unfolding is_among
kept_protected k a = cc (kept_control k DMEM_BOUND_LO refl, kept_control k DMEM_BOUND_HI refl)

pub kept_trans : {s t u : State} → Kept s t → Kept t u → Kept s u
kept_trans k l =
    record {
      set2 = λ n h. l.set2 n h ∙ k.set2 n h;
      control = λ n h. l.control n h ∙ k.control n h;
      stack = l.stack ∙ k.stack;
      cells = λ a h. l.cells a (kept_protected k a ∙ h) ∙ k.cells a h;
      user = l.user;
    }

-- by an update in user mode
pub guarded_kept : {s t : State} → Guarded s.machine t.machine → User t.machine
    → ((a : ℕ) → protected_cell s.machine a ≡ true → get_elem? t.memory.cells a ≡ get_elem? s.memory.cells a) → Kept s t
guarded_kept {s} {t} g u c =
    record {
      set2 = g.set2;
      control = λ n h. ap (λ l. get_elem? l n) g.control;
      stack = g.stack;
      cells = c;
      user = user_bit (psr t.machine) u.status;
    }

pub mode_later : {s t : State} → Mode s → Kept s t → User t.machine → Mode t
unfolding is_among
mode_later i k u =
    record {
      user = u;
      block_low = rw (kept_control k DMEM_BOUND_LO refl, kept_control k CCB_BASE refl) i.block_low;
      block_high = rw (kept_control k CCB_BASE refl, kept_control k DMEM_BOUND_HI refl) i.block_high;
    }

-- ---- what two states agree on

pub record Low (s t : State) : Type 0 where
  pub shown : SameShown s t
  pub nested : nested_by s.machine.stack ≡ nested_by t.machine.stack
  pub dmem_low : control_at s.machine DMEM_BOUND_LO ≡ control_at t.machine DMEM_BOUND_LO
  pub dmem_high : control_at s.machine DMEM_BOUND_HI ≡ control_at t.machine DMEM_BOUND_HI
  pub imem_low : control_at s.machine IMEM_BOUND_LO ≡ control_at t.machine IMEM_BOUND_LO
  pub imem_high : control_at s.machine IMEM_BOUND_HI ≡ control_at t.machine IMEM_BOUND_HI
  pub data_size : length s.memory.cells ≡ length t.memory.cells

pub low_alike : {s t : State} → Low s t → Alike s.machine t.machine
low_alike l = record { set1 = l.shown.set1; conditions = l.shown.conditions; status = l.shown.status; position = l.shown.position }

-- two later states, each with what is protected kept
pub low_later : {s t s' t' : State} → Low s t → Kept s s' → Kept t t' → Alike s'.machine t'.machine
    → ((a : ℕ) → protected_cell s.machine a ≡ false → get_elem? s'.memory.cells a ≡ get_elem? t'.memory.cells a) → length s'.memory.cells ≡ length t'.memory.cells
    → Low s' t'
unfolding is_among
low_later {s} {t} {s'} {t'} l k h a c z =
    record {
      shown = record {
        set1 = a.set1;
        conditions = a.conditions;
        status = a.status;
        position = a.position;
        cells = λ n e. c n (sym (kept_protected k n) ∙ e);
      };
      nested = ap nested_by k.stack ∙ l.nested ∙ sym (ap nested_by h.stack);
      dmem_low = bound DMEM_BOUND_LO refl l.dmem_low;
      dmem_high = bound DMEM_BOUND_HI refl l.dmem_high;
      imem_low = bound IMEM_BOUND_LO refl l.imem_low;
      imem_high = bound IMEM_BOUND_HI refl l.imem_high;
      data_size = z;
    }
  where
    bound : (n : ℕ) → is_among n EXCEPTED ≡ false → control_at s.machine n ≡ control_at t.machine n → control_at s'.machine n ≡ control_at t'.machine n
    bound n d e = kept_control k n d ∙ e ∙ sym (kept_control h n d)

-- ---- the requests of a step

requests_user : (q : ℕ) (s : State) → User s.machine → User (with_requests q s).machine
unfolding with_requests with_pending with_control psr
requests_user q s u = record { room = u.room; status = u.status }

pub requests_kept : (q : ℕ) (s : State) → Mode s → Kept s (with_requests q s)
unfolding with_requests with_pending with_control psr is_among
requests_kept q s i =
    record {
      set2 = λ n h. refl;
      control = λ n h. at_set_other s.machine.control INT_PEND n (or_of (control_at s.machine INT_PEND) q % 2 ^ 12) (apart_among EXCEPTED n INT_PEND refl h);
      stack = refl;
      cells = λ a h. refl;
      user = mode_user i;
    }

pub requests_mode : (q : ℕ) (s : State) → Mode s → Mode (with_requests q s)
requests_mode q s i = mode_later i (requests_kept q s i) (requests_user q s i.user)

pub requests_low : (q r : ℕ) (s t : State) → Mode s → Mode t → Low s t → Low (with_requests q s) (with_requests r t)
unfolding with_requests with_pending with_control psr
requests_low q r s t i j l =
    let a = low_alike l in
    low_later l (requests_kept q s i) (requests_kept r t j)
    (record { set1 = a.set1; conditions = a.conditions; status = a.status; position = a.position }) l.shown.cells l.data_size

-- ---- a clock that does not reset

-- the machine has all but the excepted registers and the dividers, the memory is the same
module _ {s t : State} (m : ClockKept s.machine t.machine) (e : t.memory ≡ s.memory) (i : Mode s) where
  clock_user : User t.machine
  unfolding psr
  clock_user = record { room = rw m.set2 i.user.room; status = rw m.set2 i.user.status }

  pub clock_kept : Kept s t
  clock_kept =
      record {
        set2 = λ n h. ap (λ l. get_elem? l n) m.set2;
        control = m.control;
        stack = m.stack;
        cells = λ a h. ap (λ c. get_elem? c.cells a) e;
        user = user_bit (psr t.machine) clock_user.status;
      }

  pub clock_mode : Mode t
  clock_mode = mode_later i clock_kept clock_user

pub clock_alike : {m n m' n' : Machine} → ClockKept m m' → ClockKept n n' → Alike m n → Alike m' n'
unfolding psr
clock_alike k h a =
    record {
      set1 = k.set1 ∙ a.set1 ∙ sym h.set1;
      conditions = k.conditions ∙ a.conditions ∙ sym h.conditions;
      status = ap (λ l. get_or l PSR 0) k.set2 ∙ a.status ∙ sym (ap (λ l. get_or l PSR 0) h.set2);
      position = k.position ∙ a.position ∙ sym h.position;
    }
