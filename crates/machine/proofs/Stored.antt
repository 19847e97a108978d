-- The control block: what is put into it and stored to it, and what it shows of the stack. Assumes nothing.
use mathlib.Core.Path.{◌≡◌, refl, sym, ap, ◌∙◌}
use mathlib.Core.Bool.{Bool, true, false, true≢false, not}
use mathlib.Core.List.{List, [], ◌∷◌}
use Prim.Native.Nat.{ℕ, ◌^◌, ◌<◌}
use native.Mathlib.Omega.{arith}
use native.Mathlib.Nat.{mod-lt}
use lib.ListN.{get_or, set}
use lib.Seq.{get_or-set_other}
use lib.Dec.{eqb, lit<}
use Rattle.word.specs.Flags.{is_among}
use Rattle.word.proofs.Tests.{if_holds}
use Rattle.machine.specs.Machine.{Machine}
use Rattle.machine.specs.Control.{registers, register_at, holds_as, can_hold, kept_by, is_writable, INT_SERV, RETI_ADDR, RETI_PSR, RETI_CR0}
use Rattle.machine.specs.Stack.{popped, service_flags, shown_top, show_stack, kept_status, return_stored}
use Rattle.machine.specs.declared.stack.Entry.{Entry}
use Rattle.machine.proofs.Bits.{kept_status_fits}
use Rattle.machine.proofs.Table.{plain_holds, kept_holds}
use Rattle.machine.proofs.Shown.{shown_flags, shown_address, shown_psr, shown_c0}
use Rattle.machine.proofs.Formed.{Registers, registers_set, StatusOk, EntryOk, Stacked, empty, pushed, stacked_flags, WellFormed}

-- a control block that shows a stack
pub record Control (es : List Entry) (l : List ℕ) : Type 0 where
  pub registers : Registers l
  pub served : get_or l INT_SERV 0 ≡ service_flags es
  pub address : get_or l RETI_ADDR 0 ≡ (shown_top es).address
  pub status : get_or l RETI_PSR 0 ≡ (shown_top es).psr
  pub flags : get_or l RETI_CR0 0 ≡ (shown_top es).c0

pub control_of : {m : Machine} → WellFormed m → Control m.stack m.control
control_of f =
    record {
      registers = f.control;
      served = f.served;
      address = f.return_address;
      status = f.return_status;
      flags = f.return_flags;
    }

-- ---- one register set anew

-- a test passes for the registers that show the stack
abbrev ForShown : (ℕ → Bool) → Type 0
ForShown test = (test INT_SERV ≡ true) × (test RETI_ADDR ≡ true) × (test RETI_PSR ≡ true) × (test RETI_CR0 ≡ true)

-- a register that fails such a test may take any number that it can hold
control_set : {es : List Entry} {l : List ℕ} (test : ℕ → Bool) (i x : ℕ) → ForShown test → test i ≡ false → can_hold (register_at i) x ≡ true
    → Control es l → Control es (set l i x)
control_set {l = l} test i x t n h c =
    record {
      registers = registers_set i x c.registers h;
      served = other INT_SERV t.0 ∙ c.served;
      address = other RETI_ADDR t.1 ∙ c.address;
      status = other RETI_PSR t.2 ∙ c.status;
      flags = other RETI_CR0 t.3 ∙ c.flags;
    }
  where
    other : (j : ℕ) → test j ≡ true → get_or (set l i x) j 0 ≡ get_or l j 0
    other j e = get_or-set_other l i j x 0 (λ q. true≢false (sym e ∙ ap test q ∙ n))

-- the machine itself may set a register that is no constant and does not show the stack
pub control_put : {es : List Entry} {l : List ℕ} (i x : ℕ) → is_among i (INT_SERV ∷ RETI_ADDR ∷ RETI_PSR ∷ RETI_CR0 ∷ []) ≡ false → (register_at i).zeros ≡ 0
    → holds_as (register_at i).access (register_at i).reset x ≡ true → x < 2 ^ (register_at i).width → Control es l → Control es (set l i x)
unfolding is_among
control_put i x n z a h =
    control_set (λ j. is_among j (INT_SERV ∷ RETI_ADDR ∷ RETI_PSR ∷ RETI_CR0 ∷ [])) i x (refl, refl, refl, refl) n (plain_holds (register_at i) x z a h)

-- a store to a writable register
pub control_kept : {es : List Entry} {l : List ℕ} (n x : ℕ) → is_writable (register_at n).access ≡ true → Control es l → Control es (set l n (kept_by (register_at n) x))
unfolding register_at registers is_writable
control_kept n x e c =
    control_set (λ j. not (is_writable (register_at j).access)) n (kept_by (register_at n) x) (refl, refl, refl, refl) (ap not e) (kept_holds (register_at n) x e) c

-- ---- a store to a RETI_ register

kept_status_law : (x : ℕ) → StatusOk (kept_status x)
kept_status_law x = record { small = (kept_status_fits x).0; sets = (kept_status_fits x).1 }

-- the entry is still a good one
pub entry_stored : (n x : ℕ) {e : Entry} → EntryOk e → EntryOk (return_stored n x e)
unfolding return_stored
entry_stored n x {e} k =
    record {
      source = k.source;
      address = if_holds (λ a. a < 2 ^ 32) (eqb n RETI_ADDR) (λ _. mod-lt x (lit< tt)) (λ _. k.address);
      status = if_holds StatusOk (eqb n RETI_PSR) (λ _. kept_status_law x) (λ _. k.status);
      c0 = if_holds (λ c. c < 8) (eqb n RETI_CR0) (λ _. mod-lt x (lit< tt)) (λ _. k.c0);
    }

-- ---- the stack shown

pub record TopOk (e : Entry) : Type 0 where
  pub address : e.address < 2 ^ 32
  pub status : StatusOk e.psr
  pub c0 : e.c0 < 8

pub top_shown : {es : List Entry} → Stacked es → TopOk (shown_top es)
unfolding shown_top
top_shown empty = record { address = lit< tt; status = record { small = lit< tt; sets = λ _. refl }; c0 = lit< tt }
top_shown (pushed k n s) = record { address = k.address; status = k.status; c0 = k.c0 }

pub rest_stacked : {es : List Entry} → Stacked es → Stacked (popped es)
unfolding popped
rest_stacked empty = empty
rest_stacked (pushed k n s) = s

pub control_shown : {es : List Entry} {l : List ℕ} → Stacked es → Registers l → Control es (show_stack es l)
unfolding show_stack register_at registers holds_as
control_shown {es} {l} s r =
    let t = top_shown s in
    record {
      registers =
          registers_set RETI_CR0 (shown_top es).c0
          (registers_set RETI_PSR (shown_top es).psr
          (registers_set RETI_ADDR (shown_top es).address
          (registers_set INT_SERV (service_flags es) r (plain_holds (register_at INT_SERV) _ refl refl (stacked_flags s)))
          (plain_holds (register_at RETI_ADDR) _ refl refl t.address))
          (plain_holds (register_at RETI_PSR) _ refl refl (omega (arith, t.status.small))))
          (plain_holds (register_at RETI_CR0) _ refl refl t.c0);
      served = shown_flags es l r.count;
      address = shown_address es l r.count;
      status = shown_psr es l r.count;
      flags = shown_c0 es l r.count;
    }
