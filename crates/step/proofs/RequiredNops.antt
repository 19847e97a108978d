-- The nops that must follow: where they do a step is the same without the look at them, and where not the first word that is none decides. Assumes nothing.
use mathlib.Core.Path.{◌≡◌, refl, sym, ap, ◌∙◌, subst}
use mathlib.Core.List.{List}
use Prim.Native.Nat.{ℕ, ◌≤◌}
use native.Mathlib.Omega.{arith}
use Rattle.std.proofs.lemmas.Option.{none-some}
use Rattle.std.specs.Prelude.{Option, None, Some}
use Rattle.word.specs.Choice.{choose◌then◌else◌}
use Rattle.isa.specs.Decode.{decode}
use Rattle.machine.specs.Machine.{State, width_of}
use Rattle.execute.specs.View.{Attempt, Found, Raises, Stops, View, view, with_following}
use Rattle.execute.specs.Theorems.{NopAt, NotNopAt, protected, absent, other}
use Rattle.execute.proofs.NopChecks.{checked_in_order}
use Rattle.execute.specs.Decide.{fetched_then, decide, Passes}
use Rattle.execute.proofs.Order.{fetched_same}
use Rattle.execute.proofs.Nops.{Refuses, Effects, alike, denied, word_effects}
use Rattle.machine.specs.Apply.{machine_only, apply}
use Rattle.step.specs.Interrupt.{with_requests, accepted_source, may_accept}
use Rattle.step.specs.Step.{is_stop, interrupt_or, with_clock, unclocked, step}
use Rattle.step.specs.RequiredNops.{view_unchecked, step_unchecked, nops_of, NopsKept, ComesToNops, ComesOf, NopsCompared, same, refused, NopsChecked}

-- no word is a nop and none
not_both : (v : View) (k : ℕ) (a : Attempt (Unit {0})) → NopAt v k → NotNopAt v k a → ⊥
not_both v k a n (protected e) = let t = n.there in let z : ◌≡◌ {A = ℕ} 0 1 = cc in omega arith
not_both v k a n (absent e) = let t = n.there in let z : ◌≡◌ {A = ℕ} 0 1 = cc in omega arith
not_both v k a n (other w e d) = let t = n.there in let z : w ≡ n.word = cc in d (rw z n.nop)

module _ (program : List ℕ) (s : State) (q : ℕ) where
  abbrev r : State
  r = with_requests q s

  abbrev v : View
  v = view program r

  abbrev u : View
  u = view_unchecked program r

  -- what is fetched decides, with the nops looked at and without
  now : {f : Attempt ℕ} → v.fetched ≡ f → decide v ≡ fetched_then v f
  unfolding decide
  now e = ap (fetched_then v) e

  before : {f : Attempt ℕ} → v.fetched ≡ f → decide u ≡ fetched_then u f
  unfolding decide with_following
  before e = ap (fetched_then u) e

  -- which source is accepted does not ask for the words after the instruction
  accepted_same : accepted_source u r.machine ≡ accepted_source v r.machine
  unfolding accepted_source may_accept with_following
  accepted_same = refl

  -- the nops follow, if the step comes to them
  abbrev Follow : Type 0
  Follow = (w : ℕ) → ComesToNops program r w → (k : ℕ) → 1 ≤ k → k ≤ nops_of v w → NopAt v k

  -- the instruction, where no interrupt is accepted
  module _ (e : accepted_source v r.machine ≡ None) where
    alike_step : Follow → decide v ≡ decide u → NopsCompared program s q r
    unfolding unclocked interrupt_or
    alike_step f d = same f (rw (e, accepted_same, e, d))

    comes_of : {k : ℕ} (a : Attempt (Unit {0})) → NotNopAt v k a → Refuses a (decide v) → ComesOf a s r (unclocked program s q)
    unfolding unclocked interrupt_or apply machine_only is_stop choose◌then◌else◌
    comes_of a (protected p) d = rw (e, d)
    comes_of a (absent p) d = rw (e, d)
    comes_of a (other x p o) d = rw (e, d)

    by_effects : (w : ℕ) → v.fetched ≡ Found w → Effects v (decode (width_of v.status) w) (nops_of v w) (fetched_then v (Found w)) (fetched_then u (Found w)) → NopsCompared program s q r
    by_effects w f (alike g d) =
        alike_step (λ x c k from to.
        let again = c.fetched in
        let one : x ≡ w = cc in
        let passes = subst (λ (y : ℕ). Passes v (decode (width_of v.status) y)) one c.passes in
        let most = subst (λ (y : ℕ). k ≤ nops_of v y) one to in
        g passes k from (omega arith))
        (now f ∙ d ∙ sym (before f))
    by_effects w f (denied p a x d) =
        refused w (record { uninterrupted = e; fetched = f; passes = p }) a x (comes_of a x.other (subst (Refuses a) (sym (now f)) d))

    -- no word is fetched
    other_step : (f : Attempt ℕ) → v.fetched ≡ f → ((w : ℕ) → f ≡ Found w → ⊥) → NopsCompared program s q r
    other_step f h n = alike_step (λ w c k from to. absurd (n w (sym h ∙ c.fetched))) (now h ∙ fetched_same v u f (λ w g. absurd (n w g)) ∙ sym (before h))

    by_fetch : (f : Attempt ℕ) → v.fetched ≡ f → NopsCompared program s q r
    by_fetch (Found w) f = by_effects w f (word_effects v (checked_in_order program r) w)
    by_fetch (Raises c) f = other_step (Raises c) f (λ w g. let z : ◌≡◌ {A = ℕ} 0 1 = cc in omega arith)
    by_fetch (Stops n) f = other_step (Stops n) f (λ w g. let z : ◌≡◌ {A = ℕ} 0 1 = cc in omega arith)

  by_source : (o : Option ℕ) → accepted_source v r.machine ≡ o → NopsCompared program s q r
  unfolding unclocked interrupt_or
  by_source None e = by_fetch e _ refl
  by_source (Some n) e = same (λ w c k from to. absurd (none-some _ (sym c.uninterrupted ∙ e))) (rw (e, accepted_same, e))

pub nops_checked : NopsChecked
nops_checked program s q = by_source program s q _ refl

pub nops_kept : NopsKept
unfolding step
nops_kept program s q h = go (nops_checked program s q)
  where
    go : NopsCompared program s q (with_requests q s) → step program s q ≡ step_unchecked program s q
    go (same f e) = ap with_clock e
    go (refused w c a x d) = let m = x.most in absurd (not_both _ x.k a (h w c.fetched x.k x.least (omega arith)) x.other)
