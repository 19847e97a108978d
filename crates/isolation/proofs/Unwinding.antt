-- One transition in user mode: it keeps what is protected, and two machines that agree on the rest make the same one. Assumes nothing.
use mathlib.Core.Path.{◌≡◌, refl, sym, ap, ◌∙◌}
use mathlib.Core.Bool.{true, false, true≢false}
use mathlib.Core.List.{List}
use Prim.Native.Nat.{ℕ, ◌%◌, ◌^◌}
use lib.ListN.{length, get_elem?, length-set}
use Rattle.std.specs.Prelude.{Option, None, Some}
use Rattle.word.specs.Choice.{choose◌then◌else◌}
use Rattle.word.specs.Flags.{is_among}
use Rattle.word.proofs.Tests.{if_false}
use Rattle.machine.specs.Machine.{Machine, State, LINK, user_mode}
use Rattle.machine.specs.Control.{control_at, within, protected_cell, DMEM_BOUND_LO, DMEM_BOUND_HI, IMEM_BOUND_LO, IMEM_BOUND_HI}
use Rattle.machine.proofs.Lists.{at_set_other, at_set_same}
use Rattle.timer.specs.Theorems.{ClockKept}
use Rattle.timer.proofs.Theorems.{kept_refl, clock_keeps}
use Rattle.execute.specs.View.{View, view}
use Rattle.execute.specs.Decide.{decide}
use Rattle.machine.specs.Update.{Update}
use Rattle.machine.specs.Update as update
use Rattle.machine.specs.Effect.{Effect, Stopped, Raised, SystemCall, InterruptReturn, StoreCell, Updates}
use Rattle.execute.proofs.Safe.{SafeUpdate, Safe, decide_safe}
use Rattle.execute.proofs.Addresses.{reached_cell, reached_block}
use Rattle.machine.specs.Apply.{words_on, Transition, machine_only, store_cell, updated, apply, unpacked}
use Rattle.machine.specs.Kind.{Kind}
use Rattle.machine.specs.Kind as kind
use Rattle.step.specs.Interrupt.{with_requests, accepted_source}
use Rattle.step.specs.Step.{is_stop, interrupt_or, with_clock, unclocked, step}
use Rattle.step.proofs.Clocks.{clock_holds}
use Rattle.isolation.specs.Isolation.{Kept, is_exit, is_preemption}
use Rattle.isolation.proofs.User.{Confined, confined_then, confined_conditions, register_confined, result_confined, flags_confined, words_public, advance_confined, holding_confined, jump_confined, enable_confined, switch_confined}
use Rattle.isolation.proofs.States.{Mode, Low, mode_user, kept_control, kept_trans, guarded_kept, mode_later, low_alike, low_later, requests_kept, requests_mode, requests_low, clock_kept, clock_mode, clock_alike}
use Rattle.isolation.proofs.Views.{SameBytes, no_block, view_same}

-- ---- what an effect is in user mode

-- an exit; an update of what is shown; a store to a cell outside of the bounds
data Course (low high : ℕ) (e : Effect) : Type 0 where
  exits : (k : Kind) → is_exit k ≡ true → ((s : State) → (apply e s).kind ≡ k) → Course low high e
  updates : {f : Machine → Machine} → Confined f → ((s : State) → apply e s ≡ machine_only kind.Ordinary f s) → Course low high e
  stores : (a x : ℕ) → within low high a ≡ false → ((s : State) → apply e s ≡ store_cell a x s) → Course low high e

no_super : (p : List ℕ) (s : State) → Mode s → user_mode (view p s).status ≡ false → ⊥
unfolding view
no_super p s i e = true≢false (sym (mode_user i) ∙ e)

-- a plain update
course_updated : (p : List ℕ) (s : State) → Mode s → (u : Update) → SafeUpdate (view p s) u → Confined (updated u)
unfolding updated
course_updated p s i update.Next h = advance_confined
course_updated p s i (update.Result d x) h = confined_then (result_confined d x) advance_confined
course_updated p s i (update.ResultFlags d x f) h = confined_then (confined_then (result_confined d x) (flags_confined 0 f)) advance_confined
course_updated p s i (update.ResultProduct d hi lo) h = confined_then (result_confined d lo) (holding_confined hi lo)
course_updated p s i (update.Compare c f) h = confined_then (flags_confined c f) advance_confined
course_updated p s i (update.Conditions x) h = confined_then (confined_conditions (λ m. unpacked 8 x) (λ m n u v a. refl)) advance_confined
course_updated p s i (update.StoreControl n x) h =
    let b = reached_block p s n h in
    absurd (no_block _ _ _ n i.block_low i.block_high b.offset (b.unprotected (mode_user i)))
course_updated p s i (update.Jump t) h = jump_confined t
course_updated p s i (update.JumpLink t) h = confined_then (register_confined LINK (words_on 2) (words_public 2)) (jump_confined t)
course_updated p s i (update.EnableInterrupts e) h = enable_confined e
course_updated p s i (update.SwitchWidth w) h = switch_confined w
course_updated p s i update.UserReturn h = absurd (no_super p s i h)
course_updated p s i (update.SelectSets n) h = absurd (no_super p s i h)

course : (p : List ℕ) (s : State) → Mode s → (e : Effect) → Safe (view p s) e → Course (control_at s.machine DMEM_BOUND_LO) (control_at s.machine DMEM_BOUND_HI) e
unfolding apply is_exit machine_only
course p s i (Stopped n) h = exits (kind.Stop n) refl (λ s. refl)
course p s i (Raised c) h = exits (kind.Exception c) refl (λ s. refl)
course p s i SystemCall h = exits kind.SystemCall refl (λ s. refl)
course p s i InterruptReturn h = exits kind.InterruptReturn refl (λ s. refl)
course p s i (StoreCell a x) h = stores a x ((reached_cell p s a h).unprotected (mode_user i)) (λ s. refl)
course p s i (Updates u) h = updates (course_updated p s i u h) (λ s. refl)

-- ---- what is protected stays

-- the transition goes on: it is no exit and no preemption
abbrev pub On : Transition → Type 0
On t = (is_exit t.kind ≡ false) × (is_preemption t.kind ≡ false)

updated_kept : {f : Machine → Machine} → Confined f → (s : State) → Mode s → Kept s (machine_only kind.Ordinary f s).after × Mode (machine_only kind.Ordinary f s).after
unfolding machine_only
updated_kept c s i =
    let u = c.user s.machine i.user in
    let k = guarded_kept (c.guarded s.machine i.user) u (λ a h. refl) in
    (k, mode_later i k u)

stored_kept : (a x : ℕ) (s : State) → Mode s → protected_cell s.machine a ≡ false → Kept s (store_cell a x s).after × Mode (store_cell a x s).after
unfolding store_cell
stored_kept a x s i o =
    let u = advance_confined.user s.machine i.user in
    let k = guarded_kept (advance_confined.guarded s.machine i.user) u (λ b h.
    at_set_other s.memory.cells a b (x % 2 ^ 32) (λ e. true≢false (sym h ∙ ap (protected_cell s.machine) e ∙ o))) in
    (k, mode_later i k u)

course_kept : (s : State) → Mode s → (e : Effect) → Course (control_at s.machine DMEM_BOUND_LO) (control_at s.machine DMEM_BOUND_HI) e
    → is_exit (apply e s).kind ≡ false → Kept s (apply e s).after × Mode (apply e s).after
course_kept s i e (exits k x h) n = absurd (true≢false (sym x ∙ sym (ap is_exit (h s)) ∙ n))
course_kept s i e (updates c h) n = rw (h s) (updated_kept c s i)
course_kept s i e (stores a x o h) n = rw (h s) (stored_kept a x s i o)

-- ---- two machines make the same transition

-- both go on and agree after it, or both are the same exit
pub data Agree (t u : Transition) : Type 0 where
  go_on : is_exit t.kind ≡ false → is_exit u.kind ≡ false → Low t.after u.after → Agree t u
  exit : is_exit t.kind ≡ true → t.kind ≡ u.kind → Agree t u

updated_agree : {f : Machine → Machine} → Confined f → (s t : State) → Mode s → Mode t → Low s t → Agree (machine_only kind.Ordinary f s) (machine_only kind.Ordinary f t)
unfolding machine_only is_exit
updated_agree c s t i j l =
    go_on refl refl
    (low_later l (updated_kept c s i).0 (updated_kept c t j).0 (c.alike s.machine t.machine i.user j.user (low_alike l)) l.shown.cells l.data_size)

stored_agree : (a x : ℕ) (s t : State) → Mode s → Mode t → Low s t → protected_cell s.machine a ≡ false → Agree (store_cell a x s) (store_cell a x t)
unfolding store_cell is_exit
stored_agree a x s t i j l o =
    let o' : protected_cell t.machine a ≡ false = rw (l.dmem_low, l.dmem_high) at o in
    go_on refl refl
    (low_later l (stored_kept a x s i o).0 (stored_kept a x t j o').0 (advance_confined.alike s.machine t.machine i.user j.user (low_alike l))
    (λ b h. at_set_same s.memory.cells t.memory.cells a b (x % 2 ^ 32) (l.shown.cells b h))
    (length-set s.memory.cells a (x % 2 ^ 32) ∙ l.data_size ∙ sym (length-set t.memory.cells a (x % 2 ^ 32))))

course_agree : (s t : State) → Mode s → Mode t → Low s t → (e : Effect)
    → Course (control_at s.machine DMEM_BOUND_LO) (control_at s.machine DMEM_BOUND_HI) e → Agree (apply e s) (apply e t)
course_agree s t i j l e (exits k x h) = exit (ap is_exit (h s) ∙ x) (h s ∙ sym (h t))
course_agree s t i j l e (updates c h) = rw (h s, h t) (updated_agree c s t i j l)
course_agree s t i j l e (stores a x o h) = rw (h s, h t) (stored_agree a x s t i j l o)

-- ---- the step before its clock

-- what a step makes of its instruction's transition: a stop leaves everything as before
unfoldable settled : State → Transition → Transition
settled s t = record { kind = t.kind; after = choose◌then◌else◌ (is_stop t.kind) s t.after }

settled_kind : (s : State) (t : Transition) → (settled s t).kind ≡ t.kind
unfolding settled
settled_kind s t = refl

no_stop : (k : Kind) → is_exit k ≡ false → is_stop k ≡ false
unfolding is_exit is_stop
no_stop kind.Ordinary e = refl
no_stop kind.Interrupt e = refl
no_stop kind.SystemCall e = refl
no_stop kind.InterruptReturn e = refl
no_stop (kind.Exception c) e = refl
no_stop kind.Reset e = refl
no_stop (kind.Stop n) e = e

settled_on : (s : State) (t : Transition) → is_exit t.kind ≡ false → settled s t ≡ t
unfolding settled
settled_on s t e = λ d. record { kind = t.kind; after = if_false _ s t.after (no_stop t.kind e) d }

settled_agree : (s r : State) (t u : Transition) → Agree t u → Agree (settled s t) (settled r u)
settled_agree s r t u (go_on a b l) = rw (settled_on s t a, settled_on r u b) (go_on a b l)
settled_agree s r t u (exit a e) = exit (ap is_exit (settled_kind s t) ∙ a) (settled_kind s t ∙ e ∙ sym (settled_kind r u))

unpreempted : (v : View) (o : Option ℕ) (s : State) → is_preemption (interrupt_or v o s).kind ≡ false → interrupt_or v o s ≡ apply (decide v) s
unfolding interrupt_or is_preemption machine_only
unpreempted v None s e = refl
unpreempted v (Some n) s e = absurd (true≢false e)

abbrev instructed : (p : List ℕ) (s : State) → Transition
instructed p s = apply (decide (view p s)) s

unclocked_as : (p : List ℕ) (s : State) (q : ℕ) → is_preemption (unclocked p s q).kind ≡ false → unclocked p s q ≡ settled s (instructed p (with_requests q s))
unfolding unclocked settled
unclocked_as p s q e =
    let r = with_requests q s in
    ap (settled s) (unpreempted (view p r) (accepted_source (view p r) r.machine) r e)

instructed_kept : (p : List ℕ) (s : State) → Mode s → is_exit (instructed p s).kind ≡ false → Kept s (instructed p s).after × Mode (instructed p s).after
instructed_kept p s i e = let d = decide (view p s) in course_kept s i d (course p s i d (decide_safe p s)) e

unclocked_kept : (p : List ℕ) (s : State) (q : ℕ) → Mode s → On (unclocked p s q) → Kept s (unclocked p s q).after × Mode (unclocked p s q).after
unclocked_kept p s q i on =
    let r = with_requests q s in
    let a = unclocked_as p s q on.1 in
    let e : is_exit (instructed p r).kind ≡ false = sym (ap is_exit (ap (λ (t : Transition). t.kind) a ∙ settled_kind s (instructed p r))) ∙ on.0 in
    let k = instructed_kept p r (requests_mode q s i) e in
    rw (a ∙ settled_on s (instructed p r) e) (kept_trans (requests_kept q s i) k.0, k.1)

unclocked_agree : (p p' : List ℕ) (s t : State) (q q' : ℕ) → Mode s → Mode t → Low s t
    → SameBytes (control_at s.machine IMEM_BOUND_LO) (control_at s.machine IMEM_BOUND_HI) p p'
    → is_preemption (unclocked p s q).kind ≡ false → is_preemption (unclocked p' t q').kind ≡ false → Agree (unclocked p s q) (unclocked p' t q')
unfolding is_among
unclocked_agree p p' s t q q' i j l b c d =
    let s' = with_requests q s in
    let t' = with_requests q' t in
    let i' = requests_mode q s i in
    let j' = requests_mode q' t j in
    let l' = requests_low q q' s t i j l in
    let k = requests_kept q s i in
    let b' : SameBytes (control_at s'.machine IMEM_BOUND_LO) (control_at s'.machine IMEM_BOUND_HI) p p' =
    rw (kept_control k IMEM_BOUND_LO refl, kept_control k IMEM_BOUND_HI refl) b in
    let e = decide (view p s') in
    let x = course_agree s' t' i' j' l' e (course p s' i' e (decide_safe p s')) in
    rw (unclocked_as p s q c, unclocked_as p' t q' d, ← (view_same p p' s' t' i' j' l' b')) (settled_agree s t (apply e s') (apply e t') x)

-- ---- the clock

-- a transition with its clock, which did not reset
record Unreset (t x : Transition) : Type 0 where
  kind : x.kind ≡ t.kind
  machine : ClockKept t.after.machine x.after.machine
  memory : x.after.memory ≡ t.after.memory

unreset : (t : Transition) → is_preemption (with_clock t).kind ≡ false → Unreset t (with_clock t)
unfolding is_preemption
unreset t =
    clock_holds t (λ (x : Transition). is_preemption x.kind ≡ false → Unreset t x)
    (λ _ _. record { kind = refl; machine = kept_refl t.after.machine; memory = refl })
    (λ _ _ e. absurd (true≢false e))
    (λ _ r _. record { kind = refl; machine = clock_keeps t.after.machine r; memory = refl })

unreset_kept : {t x : Transition} → Unreset t x → Mode t.after → Kept t.after x.after × Mode x.after
unreset_kept z i = (clock_kept z.machine z.memory i, clock_mode z.machine z.memory i)

unreset_on : {t x : Transition} → Unreset t x → On x → On t
unreset_on z on = (ap is_exit (sym z.kind) ∙ on.0, ap is_preemption (sym z.kind) ∙ on.1)

unreset_agree : {t u x y : Transition} → Unreset t x → Unreset u y → (is_exit t.kind ≡ false → Mode t.after) → (is_exit u.kind ≡ false → Mode u.after) → Agree t u → Agree x y
unreset_agree z w i j (go_on a b l) =
    go_on (ap is_exit z.kind ∙ a) (ap is_exit w.kind ∙ b)
    (low_later l (unreset_kept z (i a)).0 (unreset_kept w (j b)).0 (clock_alike z.machine w.machine (low_alike l))
    (λ n h. ap (λ c. get_elem? c.cells n) z.memory ∙ l.shown.cells n h ∙ sym (ap (λ c. get_elem? c.cells n) w.memory))
    (ap (λ c. length c.cells) z.memory ∙ l.data_size ∙ sym (ap (λ c. length c.cells) w.memory)))
unreset_agree z w i j (exit a e) = exit (ap is_exit z.kind ∙ a) (z.kind ∙ e ∙ sym w.kind)

-- ---- the step

pub step_kept : (p : List ℕ) (s : State) (q : ℕ) → Mode s → On (step p s q) → Kept s (step p s q).after × Mode (step p s q).after
unfolding step
step_kept p s q i on =
    let z = unreset (unclocked p s q) on.1 in
    let k = unclocked_kept p s q i (unreset_on z on) in
    let c = unreset_kept z k.1 in
    (kept_trans k.0 c.0, c.1)

pub step_agree : (p p' : List ℕ) (s t : State) (q q' : ℕ) → Mode s → Mode t → Low s t
    → SameBytes (control_at s.machine IMEM_BOUND_LO) (control_at s.machine IMEM_BOUND_HI) p p'
    → is_preemption (step p s q).kind ≡ false → is_preemption (step p' t q').kind ≡ false → Agree (step p s q) (step p' t q')
unfolding step
step_agree p p' s t q q' i j l b c d =
    let z = unreset (unclocked p s q) c in
    let w = unreset (unclocked p' t q') d in
    let c' = ap is_preemption (sym z.kind) ∙ c in
    let d' = ap is_preemption (sym w.kind) ∙ d in
    unreset_agree z w (λ e. (unclocked_kept p s q i (e, c')).1) (λ e. (unclocked_kept p' t q' j (e, d')).1) (unclocked_agree p p' s t q q' i j l b c' d')
