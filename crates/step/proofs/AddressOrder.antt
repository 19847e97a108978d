-- The order of the data tests decides loads and stores in user mode at an address outside 32 bits that is protected when wrapped, and no other step.
-- Assumes nothing.
use mathlib.Core.Path.{◌≡◌, refl, sym, ◌∙◌}
use mathlib.Core.Bool.{Bool, true, false, true≢false}
use mathlib.Core.List.{List}
use Prim.Native.Nat.{ℕ}
use lib.IntN.{ℤ}
use Rattle.std.proofs.lemmas.Option.{none-some}
use Rattle.std.specs.Prelude.{Option, None, Some}
use Rattle.word.specs.Choice.{choose◌then◌else◌}
use Rattle.word.specs.Word.{word_of, is_address}
use Rattle.word.proofs.Tests.{either, if_holds}
use Rattle.isa.specs.Decode.{decode}
use Rattle.isa.specs.Theorems.{between}
use Rattle.isa.proofs.Decoded.{in_range}
use Rattle.machine.specs.Machine.{State, psr, user_mode, width_of}
use Rattle.machine.specs.Control.{protected_cell}
use Rattle.execute.specs.View.{Attempt, Found, Raises, Stops, place_at, held_at, View, view, with_places, condition_false}
use Rattle.execute.specs.declared.data.Location.{Location}
use Rattle.execute.specs.Decide.{fetched_then, decide}
use Rattle.execute.proofs.Order.{fetched_word, fetched_same}
use Rattle.execute.proofs.Places.{address_of, LoadsPlaces, access_raised, other_instruction, access_instruction}
use Rattle.machine.specs.Effect.{Raised}
use Rattle.machine.specs.Apply.{machine_only, apply}
use Rattle.step.specs.Interrupt.{with_requests, accepted_source, may_accept}
use Rattle.step.specs.Step.{is_stop, interrupt_or, unclocked, step}
use Rattle.step.specs.AddressOrder.{place_before, view_before, access_of, Wrapped, WrappedAccess, Compared, changed, unchanged, AddressOrder}

-- ---- an address

-- where it leads by either order: to the same, or to the two exceptions
data Places (s : State) (z : ℤ) : Type 0 where
  same : (Wrapped s z → ⊥) → place_at s z ≡ place_before s z → Places s z
  raised : Wrapped s z → place_at s z ≡ Raises 0x07 → place_before s z ≡ Raises 0x08 → Places s z

places : (s : State) (z : ℤ) → Places s z
unfolding place_at place_before choose◌then◌else◌
places s z = go (user_mode (psr s.machine)) refl (is_address z) refl (protected_cell s.machine (word_of 32 z)) refl
  where
    go : (u : Bool) → user_mode (psr s.machine) ≡ u → (a : Bool) → is_address z ≡ a → (p : Bool) → protected_cell s.machine (word_of 32 z) ≡ p → Places s z
    go true e false f true g = raised (record { user = e; outside = f; protected = g }) (rw (e, g)) (rw f)
    go true e true f true g = same (λ w. true≢false (sym f ∙ w.outside)) (rw (e, f, g))
    go true e a f false g = same (λ w. true≢false (sym w.protected ∙ g)) (rw (e, g))
    go false e a f p g = same (λ w. true≢false (sym w.user ∙ e)) (rw e)

-- ---- a fetched word

module _ (v : View) (held : Location → ℕ) (loads : LoadsPlaces held v) where
  -- an exception where the address that it asks leads to one
  word_raised : (f : Attempt ℕ) (z : ℤ) (code : ℕ) → access_of v f ≡ Some z → v.place z ≡ Raises code → fetched_then v f ≡ Raised code
  unfolding access_of
  word_raised (Found w) z code e p =
      let i = decode (width_of v.status) w in
      let Raising : Option ℤ → Type 0 = λ o. o ≡ Some z → fetched_then v (Found w) ≡ Raised code in
      if_holds Raising (condition_false v i) (λ _ n. absurd (none-some _ n)) (λ c.
      if_holds Raising (between 27 28 i.opcode)
      (λ a n. let at : address_of v i ≡ z = cc in fetched_word v w ∙ access_raised i a v held loads c code (rw (at, p)))
      (λ _ n. absurd (none-some _ n))) e
  word_raised (Raises c) z code e p = absurd (none-some _ e)
  word_raised (Stops n) z code e p = absurd (none-some _ e)

  module _ (place : ℤ → Attempt Location) where
    -- the same where that address leads to the same
    word_same : (f : Attempt ℕ) → ((z : ℤ) → access_of v f ≡ Some z → v.place z ≡ place z) → fetched_then v f ≡ fetched_then (with_places place held v) f
    unfolding access_of with_places choose◌then◌else◌
    word_same f h = fetched_same v (with_places place held v) f (λ w e.
        let i = decode (width_of v.status) w in
        fetched_word v w
        ∙ either (between 27 28 i.opcode)
        (λ a. access_instruction v place held loads i a (λ c. h (address_of v i) (rw (e, c, a))))
        (other_instruction v place held i (in_range (width_of v.status) w).opcode)
        ∙ sym (fetched_word (with_places place held v) w))

    -- it asks the same address
    asked_same : (f : Attempt ℕ) → access_of (with_places place held v) f ≡ access_of v f
    unfolding access_of with_places condition_false
    asked_same (Found w) = refl
    asked_same (Raises c) = refl
    asked_same (Stops n) = refl

-- ---- the step

module _ (program : List ℕ) (s : State) (q : ℕ) where
  abbrev r : State
  r = with_requests q s

  abbrev v : View
  v = view program r

  abbrev u : View
  u = view_before program r

  abbrev Steps : Type 0
  Steps = Compared program s q r

  loads : LoadsPlaces (held_at r) v
  unfolding view
  loads z = refl

  loaded_before : LoadsPlaces (held_at r) u
  unfolding with_places
  loaded_before z = refl

  -- which source is accepted asks no data address
  accepted_same : accepted_source u r.machine ≡ accepted_source v r.machine
  unfolding accepted_source may_accept with_places
  accepted_same = refl

  -- no interrupt is accepted
  module _ (e : accepted_source v r.machine ≡ None) where
    decided_same : (WrappedAccess program r → ⊥) → ((z : ℤ) → access_of v v.fetched ≡ Some z → place_at r z ≡ place_before r z) → Steps
    unfolding step unclocked interrupt_or decide view with_places
    decided_same n h = unchanged n (rw (e, accepted_same, e, word_same v (held_at r) loads (place_before r) v.fetched h))

    by_place : (z : ℤ) → access_of v v.fetched ≡ Some z → Places r z → Steps
    unfolding step unclocked interrupt_or apply machine_only is_stop decide view with_places choose◌then◌else◌
    by_place z a (raised w now before) =
        changed (record { address = z; uninterrupted = e; access = a; wrapped = w })
        (rw (e, word_raised v (held_at r) loads v.fetched z 0x07 a now))
        (rw (accepted_same, e, word_raised u (held_at r) loaded_before v.fetched z 0x08 (asked_same v (held_at r) loads (place_before r) v.fetched ∙ a) before))
    by_place z a (same n p) =
        let only : (x : ℤ) → access_of v v.fetched ≡ Some x → z ≡ x = λ x b. cc in
        decided_same (λ w. n (rw (only w.address w.access) w.wrapped)) (λ x b. rw (only x b) at p)

    by_access : (o : Option ℤ) → access_of v v.fetched ≡ o → Steps
    by_access (Some z) a = by_place z a (places r z)
    by_access None a = decided_same (λ w. none-some _ (sym a ∙ w.access)) (λ x b. absurd (none-some _ (sym a ∙ b)))

  by_source : (o : Option ℕ) → accepted_source v r.machine ≡ o → Steps
  unfolding step unclocked interrupt_or
  by_source None e = by_access e _ refl
  by_source (Some n) e = unchanged (λ w. none-some _ (sym w.uninterrupted ∙ e)) (rw (e, accepted_same, e))

pub address_order : AddressOrder
address_order program s q = by_source program s q _ refl
