-- The isolation of user mode, proved: `isolated`. Assumes nothing.
use mathlib.Core.Path.{◌≡◌, refl, sym, ap, ◌∙◌}
use mathlib.Core.Bool.{false, true≢false, ◌||◌}
use mathlib.Core.List.{List, [], ◌∷◌}
use mathlib.Core.Option.{some}
use Prim.Native.Nat.{ℕ, zero, suc, ◌≤◌, zero-le, suc-le-suc}
use native.Mathlib.Omega.{arith}
use native.Mathlib.Nat.{le_of_suc-le-suc}
use lib.Dec.{lit<}
use lib.ListN.{length, get_elem?}
use Rattle.std.proofs.Math.Option.{none-ne-some}
use Rattle.word.specs.Choice.{choose◌then◌else◌}
use Rattle.word.specs.Flags.{is_among}
use Rattle.word.proofs.Tests.{or_parts, if_holds}
use Rattle.machine.specs.Machine.{State}
use Rattle.machine.specs.Control.{control_at, IMEM_BOUND_LO, IMEM_BOUND_HI}
use Rattle.image.proofs.Image.{accepted_formed}
use Rattle.machine.specs.Apply.{Transition}
use Rattle.step.specs.Step.{step}
use Rattle.emulator.specs.Closure.{Steps, Continuity}
use Rattle.isolation.specs.Isolation.{transition, is_exit, is_preemption, segment, InSegment, Session, start_of, transitions_of, UserStart, Kept, Integrity, SameStart, SameTransition, both_go_on, both_exit, Confidentiality, Isolation}
use Rattle.isolation.proofs.States.{Mode, Low, kept_control, kept_trans}
use Rattle.isolation.proofs.Views.{SameBytes}
use Rattle.isolation.proofs.Unwinding.{On, Agree, go_on, exit, step_kept, step_agree}
use Rattle.emulator.proofs.Closed.{continuity}

-- ---- the segment

-- what is in the segment of a list goes on first
first_on : (t : Transition) (ts : List Transition) (k : ℕ) → InSegment (t ∷ ts) (suc k) → On t × InSegment ts k
unfolding segment
first_on t ts k =
    if_holds (λ (l : List Transition). suc k ≤ length l → On t × InSegment ts k) (is_exit t.kind || is_preemption t.kind)
    (λ _ h. absurd (omega arith))
    (λ e h. (or_parts (is_exit t.kind) (is_preemption t.kind) e, le_of_suc-le-suc h))

segment_on : (t : Transition) (ts : List Transition) → On t → segment (t ∷ ts) ≡ t ∷ segment ts
unfolding segment choose◌then◌else◌
segment_on t ts on = rw (on.0, on.1)

-- a transition that goes on after some that are in the segment is in it
in_segment : (ts : List Transition) (k : ℕ) (t : Transition) → get_elem? ts k ≡ some t → On t → InSegment ts k → InSegment ts (suc k)
in_segment [] k t e on h = absurd (none-ne-some _ e)
in_segment (u ∷ ts) zero t e on h =
    let x : u ≡ t = cc in
    rw (x, segment_on t ts on) (suc-le-suc zero-le)
in_segment (u ∷ ts) (suc k) t e on h =
    let x = first_on u ts k h in
    rw (segment_on u ts x.0) (suc-le-suc (in_segment ts k t e on x.1))

-- ---- along the steps of one machine

first_kept : (p : List ℕ) (s : State) (q : ℕ) (t : Transition) → t ≡ step p s q → Mode s → On t → Kept s t.after × Mode t.after
first_kept p s q t e i on = rw e (step_kept p s q i (rw e at on))

steps_kept : (p : List ℕ) (ts : List Transition) (s : State) → Steps p s ts → Mode s → (k : ℕ) (t : Transition) → get_elem? ts k ≡ some t
    → InSegment ts (suc k) → Kept s t.after
unfolding Steps
steps_kept p [] s c i k t e h = absurd (none-ne-some _ e)
steps_kept p (u ∷ ts) s c i zero t e h =
    let x : u ≡ t = cc in
    rw (← x) (first_kept p s c.0 u c.1 i (first_on u ts zero h).0).0
steps_kept p (u ∷ ts) s c i (suc k) t e h =
    let x = first_on u ts (suc k) h in
    let y = first_kept p s c.0 u c.1 i x.0 in
    kept_trans y.0 (steps_kept p ts u.after c.2 y.1 k t e x.1)

-- ---- along the steps of two machines

-- the programs agree outside of the bounds
abbrev SamePrograms : (p q : List ℕ) → State → Type 0
SamePrograms p q s = SameBytes (control_at s.machine IMEM_BOUND_LO) (control_at s.machine IMEM_BOUND_HI) p q

programs_later : (p q : List ℕ) {s t : State} → Kept s t → SamePrograms p q s → SamePrograms p q t
unfolding is_among
programs_later p q k b = rw (kept_control k IMEM_BOUND_LO refl, kept_control k IMEM_BOUND_HI refl) b

agree_on : (t u : Transition) → Agree t u → On t → Low t.after u.after
agree_on t u (go_on a b l) on = l
agree_on t u (exit a e) on = absurd (true≢false (sym a ∙ on.0))

module _ (p q : List ℕ) where
  first_agree : (s r : State) (x y : ℕ) (t u : Transition) → t ≡ step p s x → u ≡ step q r y → Mode s → Mode r → Low s r → SamePrograms p q s
      → is_preemption t.kind ≡ false → is_preemption u.kind ≡ false → Agree t u
  first_agree s r x y t u e f i j l b c d = rw (e, f) (step_agree p q s r x y i j l b (rw e at c) (rw f at d))

  steps_agree : (ts us : List Transition) (s r : State) → Steps p s ts → Steps q r us → Mode s → Mode r → Low s r → SamePrograms p q s
      → (k : ℕ) (t u : Transition) → get_elem? ts k ≡ some t → get_elem? us k ≡ some u → InSegment ts k → InSegment us k
      → is_preemption t.kind ≡ false → is_preemption u.kind ≡ false → Agree t u
  unfolding Steps
  steps_agree [] us s r x y i j l b k t u e f g h c d = absurd (none-ne-some _ e)
  steps_agree (t₀ ∷ ts) [] s r x y i j l b k t u e f g h c d = absurd (none-ne-some _ f)
  steps_agree (t₀ ∷ ts) (u₀ ∷ us) s r x y i j l b zero t u e f g h c d =
      let v : t ≡ step p s x.0 = cc (x.1, e) in
      let w : u ≡ step q r y.0 = cc (y.1, f) in
      first_agree s r x.0 y.0 t u v w i j l b c d
  steps_agree (t₀ ∷ ts) (u₀ ∷ us) s r x y i j l b (suc k) t u e f g h c d =
      let g' = first_on t₀ ts k g in
      let h' = first_on u₀ us k h in
      let m = first_kept p s x.0 t₀ x.1 i g'.0 in
      let n = first_kept q r y.0 u₀ y.1 j h'.0 in
      let a = first_agree s r x.0 y.0 t₀ u₀ x.1 y.1 i j l b g'.0.1 h'.0.1 in
      steps_agree ts us t₀.after u₀.after x.2 y.2 m.1 n.1 (agree_on t₀ u₀ a g'.0) (programs_later p q m.0 b) k t u e f g'.1 h'.1 c d

-- ---- the theorem

start_mode : (a : Session) → UserStart a → Mode (start_of a)
start_mode a s =
    let f = accepted_formed a.image a.machine s.read in
    record {
      user = record { room = rw f.set2.count (lit< tt); status = f.status.sets s.user };
      block_low = s.block_low;
      block_high = s.block_high;
    }

session_steps : (a : Session) → UserStart a → Steps a.program (start_of a) (transitions_of a)
unfolding Continuity
session_steps a s = continuity a.program a.image a.memory a.calls a.machine s.read

first_half : (a : Session) → UserStart a → Integrity a
unfolding Integrity transition
first_half a s zero t e h = absurd (none-ne-some _ e)
first_half a s (suc k) t e h = steps_kept a.program (transitions_of a) (start_of a) (session_steps a s) (start_mode a s) k t e h

start_low : (a b : Session) → SameStart a b → Low (start_of a) (start_of b)
start_low a b h =
    record {
      shown = h.shown;
      nested = h.nested;
      dmem_low = h.dmem_low;
      dmem_high = h.dmem_high;
      imem_low = h.imem_low;
      imem_high = h.imem_high;
      data_size = h.data_size;
    }

same_transition : (a b : Session) (k : ℕ) (t u : Transition) → get_elem? (transitions_of a) k ≡ some t → get_elem? (transitions_of b) k ≡ some u
    → InSegment (transitions_of a) k → InSegment (transitions_of b) k
    → is_preemption t.kind ≡ false → is_preemption u.kind ≡ false → Agree t u → SameTransition a b (suc k) t u
same_transition a b k t u e f g h c d (go_on x y l) =
    both_go_on (in_segment (transitions_of a) k t e (x, c) g) (in_segment (transitions_of b) k u f (y, d) h) l.shown
same_transition a b k t u e f g h c d (exit x z) = both_exit x (ap is_exit (sym z) ∙ x) z

second_half : (a b : Session) → UserStart a → UserStart b → SameStart a b → Confidentiality a b
unfolding Confidentiality transition SameBytes
second_half a b s r same zero t u e f g h c d = absurd (none-ne-some _ e)
second_half a b s r same (suc k) t u e f g h c d =
    let g' = le_of_suc-le-suc g in
    let h' = le_of_suc-le-suc h in
    same_transition a b k t u e f g' h' c d
    (steps_agree a.program b.program (transitions_of a) (transitions_of b) (start_of a) (start_of b) (session_steps a s) (session_steps b r)
    (start_mode a s) (start_mode b r) (start_low a b same) same.bytes k t u e f g' h' c d)

pub isolated : Isolation
unfolding Isolation
isolated = (first_half, second_half)
