-- Closure: a step, in whatever mode, takes a well-formed machine to a well-formed one. Assumes nothing.
use mathlib.Core.Path.{◌≡◌, refl, sym, ap, ◌∙◌}
use mathlib.Core.Bool.{Bool, true, false, true≢false}
use mathlib.Core.List.{List, [], ◌∷◌}
use Prim.Native.Nat.{ℕ, zero, suc, ◌+◌, ◌*◌, ◌/◌, ◌%◌, ◌^◌, ◌<◌}
use native.Mathlib.Omega.{arith}
use native.Mathlib.Nat.{mod-lt}
use lib.ListN.{length, set}
use lib.Dec.{eqb, lit<}
use borrow.Author.Tests.{eqb-false}
use Rattle.std.specs.Prelude.{Option, None, Some}
use Rattle.word.specs.Choice.{choose◌then◌else◌}
use Rattle.word.specs.Word.{bit_of}
use Rattle.word.specs.Flags.{is_among}
use Rattle.word.proofs.Flags.{with_below, without_below}
use Rattle.codec.proofs.Laws.{Below}
use Rattle.machine.specs.Machine.{Machine, State, state_of, memory_of, PSR, SPSR, LINK, SUPER, psr, user_mode, reads_set2, writes_set2, wide_words, interrupts_enabled, status_of, with_control, with_register, written}
use Rattle.machine.specs.Control.{control_at, registers, register_at, holds_as, INT_VECTORS, INT_PEND, SYSTEM_ADDR, EXCEP_ADDR, EXCEPTION_CS, EXCEPTION_PC, EXCEPTION_PSR, TMR0_CNT, TMR1_CNT, with_pending}
use Rattle.machine.specs.Words.{TIMERS}
use Rattle.machine.specs.Questions.{well_formed}
use Rattle.machine.proofs.Bits.{status_small, status_low, status_user, status_kept}
use Rattle.machine.proofs.Table.{holds_small}
use Rattle.machine.proofs.Formed.{sized_set, StatusOk, registers_below, Stacked, pushed, WellFormed, true_formed, formed_true, reset_formed}
use Rattle.timer.specs.Timer.{source_of, clock_timer}
use Rattle.timer.specs.Clock.{configuration_of, timer_in, with_timer, counted, notified, Clocked, clock_one, clock}
use Rattle.timer.proofs.Laws.{source_small, TimerOk, timer_ok}
use Rattle.timer.specs.declared.Timer.{Timer}
use Rattle.execute.specs.View.{View, view}
use Rattle.machine.specs.Apply.{write_register, write_flags, unpacked, words_on, next_pc, advance, advance_holding, jump_to, raise, system_call, user_return, interrupt_return, enable_interrupts, switch_width, select_sets, Transition, machine_only, store_cell, updated, apply}
use Rattle.execute.specs.Decide.{decide}
use Rattle.step.specs.Interrupt.{add_requests, with_requests, accepted_source, service_psr, entry_for, accept}
use Rattle.step.specs.Step.{interrupt_or, unclocked, step}
use Rattle.machine.specs.Update.{Update}
use Rattle.machine.specs.Update as update
use Rattle.machine.specs.Effect.{Effect, Stopped, Raised, SystemCall, InterruptReturn, StoreCell, Updates}
use Rattle.execute.proofs.Safe.{SafeUpdate, Safe, decide_safe}
use Rattle.word.proofs.Tests.{if_holds}
use Rattle.machine.proofs.Stored.{control_of, control_put, top_shown, rest_stacked}
use Rattle.step.specs.Theorems.{Accepted, StaysFormed}
use Rattle.step.proofs.Accepted.{source_accepted}
use Rattle.step.proofs.Clocks.{clock_holds}
use Rattle.machine.proofs.Parts.{second_of, second_set, set1_formed, set2_formed, psr_formed, conditions_formed, control_formed, stored_formed, position_formed, stack_formed, dividers_formed, moved_formed}

-- ---- status: PSR

-- in super user mode any RSRD and RSWR are good, and in user mode 0 and 0
status_formed : (user read write wide enabled : Bool) → (user ≡ true → bit_of read + bit_of write ≡ 0) → StatusOk (status_of user read write wide enabled)
status_formed user read write wide enabled h =
    record {
      small = status_small user read write wide enabled;
      sets = λ e.
          let u : user ≡ true = sym (status_user user read write wide enabled) ∙ e in
          let none = h u in
          status_low user read write wide enabled ∙ rw u (omega arith);
    }

-- IL and IE set anew: UM, RSRD and RSWR are as before
kept_formed : (q : ℕ) (wide enabled : Bool) → StatusOk q → StatusOk (status_of (user_mode q) (reads_set2 q) (writes_set2 q) wide enabled)
kept_formed q wide enabled s =
    record {
      small = status_small _ _ _ wide enabled;
      sets = λ e. status_kept q wide enabled ∙ s.sets (sym (status_user _ _ _ wide enabled) ∙ e);
    }

SUPER-status : StatusOk SUPER
SUPER-status = status_formed false true true true false (λ e. absurd (true≢false (sym e)))

-- ---- registers

module _ {m : Machine} where
  written_formed : (second : Bool) (n x : ℕ) → x < 2 ^ 32 → WellFormed m → WellFormed (written second n x m)
  unfolding written with_register choose◌then◌else◌
  written_formed false n x h f = set1_formed (sized_set n x f.set1 h) f
  written_formed true n x h f =
      if_holds WellFormed (eqb n PSR) (λ _. f) (λ e. set2_formed (second_set n x (λ q. eqb-false n PSR e (sym q)) h (second_of f)) f)

  pub register_formed : (d x : ℕ) → WellFormed m → WellFormed (write_register d x m)
  unfolding write_register
  register_formed d x f = written_formed (writes_set2 (psr m)) (d % 32) (x % 2 ^ 32) (mod-lt x (lit< tt)) f

  pub flags_formed : (c x : ℕ) → WellFormed m → WellFormed (write_flags c x m)
  unfolding write_flags
  flags_formed c x f = conditions_formed (sized_set (c % 8) (x % 8) f.conditions (mod-lt x (lit< tt))) f

unpacked_count : (n x : ℕ) → length (unpacked n x) ≡ n
unfolding unpacked
unpacked_count zero x = refl
unpacked_count (suc n) x = ap suc (unpacked_count n (x / 8))

unpacked_small : (n x : ℕ) → Below 8 (unpacked n x)
unfolding unpacked
unpacked_small zero x i = lit< tt
unpacked_small (suc n) x zero = mod-lt x (lit< tt)
unpacked_small (suc n) x (suc i) = unpacked_small n (x / 8) i

-- ---- position

pub words_small : (n : ℕ) (m : Machine) → words_on n m < 2 ^ 32
unfolding words_on
words_small n m = mod-lt _ (lit< tt)

module _ {m : Machine} where
  pub next_small : WellFormed m → next_pc m < 2 ^ 32
  unfolding next_pc
  next_small f = if_holds (λ a. a < 2 ^ 32) (eqb m.position.slot 1) (λ _. f.position.target) (λ _. words_small 1 m)

  pub advance_formed : WellFormed m → WellFormed (advance m)
  unfolding advance
  advance_formed f = moved_formed (next_small f) f

  pub holding_formed : (high low : ℕ) → WellFormed m → WellFormed (advance_holding high low m)
  unfolding advance_holding
  holding_formed high low f =
      position_formed
      record {
        address = next_small f;
        slot = lit< tt;
        target = lit< tt;
        held = lit< tt;
        high = mod-lt high (lit< tt);
        low = mod-lt low (lit< tt);
        no_slot = λ _. refl;
        no_product = λ e. absurd (omega arith);
      } f

  pub jump_formed : (target : ℕ) → WellFormed m → WellFormed (jump_to target m)
  unfolding jump_to
  jump_formed target f =
      position_formed
      record {
        address = next_small f;
        slot = lit< tt;
        target = mod-lt target (lit< tt);
        held = lit< tt;
        high = lit< tt;
        low = lit< tt;
        no_slot = λ e. absurd (omega arith);
        no_product = λ _. (refl, refl);
      } f

  -- ---- changes of mode

  pub raise_formed : (c : ℕ) → WellFormed m → WellFormed (raise c m)
  unfolding raise is_among register_at registers holds_as
  raise_formed c f =
      moved_formed (registers_below f.control EXCEP_ADDR)
      (psr_formed SUPER-status
      (control_formed
      (control_put EXCEPTION_PSR (psr m) refl refl refl (omega (arith, f.status.small))
      (control_put EXCEPTION_PC m.position.pc refl refl refl f.position.address
      (control_put EXCEPTION_CS (c % 256) refl refl refl (mod-lt c (lit< tt)) (control_of f)))) f))

  pub call_formed : WellFormed m → WellFormed (system_call m)
  unfolding system_call
  call_formed f =
      moved_formed (registers_below f.control SYSTEM_ADDR)
      (psr_formed SUPER-status
      (set2_formed (second_set LINK (words_on 2 m) (omega arith) (words_small 2 m)
      (second_set SPSR (psr m) (omega arith) (omega (arith, f.status.small)) (second_of f))) f))

  pub user_formed : WellFormed m → WellFormed (user_return m)
  unfolding user_return
  user_formed f = moved_formed (f.set2.range LINK) (psr_formed (status_formed true false false _ _ (λ _. refl)) f)

  pub return_formed : WellFormed m → WellFormed (interrupt_return m)
  unfolding interrupt_return
  return_formed f =
      let t = top_shown f.stack in
      moved_formed t.address (psr_formed t.status
      (conditions_formed (sized_set 0 _ f.conditions t.c0) (stack_formed (rest_stacked f.stack) f)))

  pub enable_formed : (enabled : Bool) → WellFormed m → WellFormed (enable_interrupts enabled m)
  unfolding enable_interrupts
  enable_formed enabled f = psr_formed (kept_formed (psr m) (wide_words (psr m)) enabled f.status) (advance_formed f)

  pub width_formed : (wide : Bool) → WellFormed m → WellFormed (switch_width wide m)
  unfolding switch_width
  width_formed wide f =
      psr_formed (kept_formed (psr m) wide (interrupts_enabled (psr m)) f.status) (moved_formed (words_small 3 m) f)

  pub sets_formed : (sets : ℕ) → user_mode (psr m) ≡ false → WellFormed m → WellFormed (select_sets sets m)
  unfolding select_sets
  sets_formed sets u f = psr_formed (status_formed _ _ _ _ _ (λ e. absurd (true≢false (sym e ∙ u)))) (advance_formed f)

-- ---- effects

pub updated_formed : (program : List ℕ) (s : State) (u : Update) → SafeUpdate (view program s) u → WellFormed s.machine → WellFormed (updated u s.machine)
unfolding updated view
updated_formed p s update.Next h f = advance_formed f
updated_formed p s (update.Result d x) h f = advance_formed (register_formed d x f)
updated_formed p s (update.ResultFlags d x c) h f = advance_formed (flags_formed 0 c (register_formed d x f))
updated_formed p s (update.ResultProduct d x y) h f = holding_formed x y (register_formed d y f)
updated_formed p s (update.Compare c x) h f = advance_formed (flags_formed c x f)
updated_formed p s (update.Conditions x) h f = advance_formed (conditions_formed record { count = unpacked_count 8 x; range = unpacked_small 8 x } f)
updated_formed p s (update.StoreControl n x) h f = advance_formed (stored_formed n x f)
updated_formed p s (update.Jump t) h f = jump_formed t f
updated_formed p s (update.JumpLink t) h f = jump_formed t (register_formed LINK (words_on 2 s.machine) f)
updated_formed p s (update.EnableInterrupts e) h f = enable_formed e f
updated_formed p s (update.SwitchWidth w) h f = width_formed w f
updated_formed p s update.UserReturn h f = user_formed f
updated_formed p s (update.SelectSets n) h f = sets_formed n h f

pub apply_formed : (program : List ℕ) (s : State) (e : Effect) → Safe (view program s) e → WellFormed s.machine → WellFormed (apply e s).after.machine
unfolding apply machine_only store_cell
apply_formed p s (Stopped n) h f = f
apply_formed p s (Raised c) h f = raise_formed c f
apply_formed p s SystemCall h f = call_formed f
apply_formed p s InterruptReturn h f = return_formed f
apply_formed p s (StoreCell a x) h f = advance_formed f
apply_formed p s (Updates u) h f = updated_formed p s u h f

-- ---- interrupts

pub pending_formed : {m : Machine} {x : ℕ} → x < 2 ^ 12 → WellFormed m → WellFormed (with_pending x m)
unfolding with_pending is_among register_at registers holds_as
pending_formed {x = x} h f = control_formed (control_put INT_PEND x refl refl refl h (control_of f)) f

pub requests_formed : (s : State) (requests : ℕ) → WellFormed s.machine → WellFormed (with_requests requests s).machine
unfolding with_requests
requests_formed s requests f = pending_formed (mod-lt _ (lit< tt)) f

-- the same by the questions that a well-formed machine passes
pub requested_formed : (m : Machine) (requests : ℕ) → well_formed m ≡ true → well_formed (add_requests requests m) ≡ true
unfolding with_requests
requested_formed m requests w = formed_true (requests_formed (state_of m (memory_of [])) requests (true_formed m w))

-- PSR of a service routine
pub service_status : (n : ℕ) (m : Machine) → StatusOk (service_psr n m)
unfolding service_psr
service_status n m = status_formed _ _ _ _ _ (λ e. rw e)

-- an accepted source goes on the interrupt stack
pub accepted_stacked : {m : Machine} {n : ℕ} → Accepted m n → WellFormed m → Stacked (entry_for n m ∷ m.stack)
unfolding entry_for
accepted_stacked a f = pushed record { source = a.below; address = f.position.address; status = f.status; c0 = f.conditions.range 0 } a.new f.stack

pub accept_formed : {m : Machine} {n : ℕ} → Accepted m n → WellFormed m → WellFormed (accept n m)
unfolding accept register_at registers
accept_formed {m} {n} a f =
    let pending : control_at m INT_PEND < 2 ^ 12 = holds_small (register_at INT_PEND) (control_at m INT_PEND) (f.control.hold INT_PEND) in
    moved_formed (registers_below f.control (INT_VECTORS + n))
    (psr_formed (service_status n m)
    (stack_formed (accepted_stacked a f)
    (pending_formed (without_below n (control_at m INT_PEND) 12 pending) f)))

-- ---- the clock

module _ {m : Machine} where
  counted_formed : (k x : ℕ) → k < TIMERS → x < 2 ^ 32 → WellFormed m → WellFormed (with_control (set m.control (TMR0_CNT + 2 * k) x) m)
  unfolding is_among register_at registers holds_as
  counted_formed zero x l h f = control_formed (control_put TMR0_CNT x refl refl refl h (control_of f)) f
  counted_formed (suc zero) x l h f = control_formed (control_put TMR1_CNT x refl refl refl h (control_of f)) f
  counted_formed (suc (suc k)) x l h f = absurd (omega arith)

  timer_formed : (k : ℕ) (t : Timer) → k < TIMERS → TimerOk t → WellFormed m → WellFormed (with_timer k t m)
  unfolding with_timer with_control
  timer_formed k t l h f = dividers_formed (sized_set k t.divider f.dividers h.divider) (counted_formed k t.count l h.count f)

  notified_formed : (c : ℕ) → WellFormed m → WellFormed (notified c m).machine
  unfolding notified register_at registers
  notified_formed c f =
      let P : Clocked → Type 0 = λ x. WellFormed x.machine in
      let pending : control_at m INT_PEND < 2 ^ 12 = holds_small (register_at INT_PEND) (control_at m INT_PEND) (f.control.hold INT_PEND) in
      if_holds P _ (λ _. reset_formed) (λ _.
      if_holds P _ (λ _. pending_formed (with_below (source_of c) (control_at m INT_PEND) 12 (source_small c) pending) f) (λ _. f))

one_formed : {m : Machine} (k : ℕ) → k < TIMERS → WellFormed m → WellFormed (clock_one k m).machine
unfolding clock_one counted
one_formed {m} k l f =
    let c = configuration_of k m in
    let t = clock_timer c (timer_in k m) in
    let ok : TimerOk t.timer = timer_ok c (timer_in k m) (record { count = registers_below f.control (TMR0_CNT + 2 * k); divider = f.dividers.range k }) in
    let g = timer_formed k t.timer l ok f in
    if_holds (λ (x : Clocked). WellFormed x.machine) t.reached (λ _. notified_formed c g) (λ _. g)

pub clock_formed : {m : Machine} → WellFormed m → WellFormed (clock m).machine
unfolding clock
clock_formed f =
    if_holds (λ (x : Clocked). WellFormed x.machine) _ (λ _. one_formed 0 (lit< tt) f) (λ _. one_formed 1 (lit< tt) (one_formed 0 (lit< tt) f))

-- ---- the step

-- what holds of the state before it, of what an accepted interrupt leaves and of what the decided effect leaves, holds of the state after it
module _ (P : State → Type 0) (program : List ℕ) (s : State) (requests : ℕ) where
  pub unclocked_holds : let r = with_requests requests s in
      P s → ((n : ℕ) → Accepted r.machine n → P (record { machine = accept n r.machine; memory = r.memory }))
      → P (apply (decide (view program r)) r).after → P (unclocked program s requests).after
  unfolding unclocked interrupt_or machine_only
  unclocked_holds before accepted decided = if_holds P _ (λ _. before) (λ _. taken (accepted_source v r.machine) refl)
    where
      r : State
      r = with_requests requests s

      v : View
      v = view program r

      taken : (o : Option ℕ) → accepted_source v r.machine ≡ o → P (interrupt_or v o r).after
      taken None e = decided
      taken (Some n) e = accepted n (source_accepted v r.machine n e)

pub unclocked_formed : (program : List ℕ) (s : State) (requests : ℕ) → WellFormed s.machine → WellFormed (unclocked program s requests).after.machine
unclocked_formed p s q f =
    let r = with_requests q s in
    let g = requests_formed s q f in
    unclocked_holds (λ (t : State). WellFormed t.machine) p s q f (λ n a. accept_formed a g) (apply_formed p r (decide (view p r)) (decide_safe p r) g)

pub step_formed : (program : List ℕ) (s : State) (requests : ℕ) → WellFormed s.machine → WellFormed (step program s requests).after.machine
unfolding step
step_formed p s q f =
    let t = unclocked p s q in
    let g = unclocked_formed p s q f in
    clock_holds t (λ (x : Transition). WellFormed x.after.machine) (λ _. g) (λ _ _. reset_formed) (λ _ _. clock_formed g)

pub stays_formed : StaysFormed
stays_formed p s q h = formed_true (step_formed p s q (true_formed s.machine h))
