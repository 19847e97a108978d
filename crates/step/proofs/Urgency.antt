-- The search for the source to accept: what one iteration of it does, and that it finds the candidate of a well-formed machine. Assumes nothing.
use mathlib.Core.Path.{◌≡◌, refl, sym, ap, ◌∙◌}
use mathlib.Core.Bool.{Bool, true, false, ◌&&◌, and-true, and-false, and_assoc}
use mathlib.Core.List.{List}
use Prim.Native.Nat.{ℕ, zero, suc, ◌+◌, ◌/◌, ◌%◌, ◌^◌, ◌≤◌, ◌<◌, min}
use native.Mathlib.Omega.{arith}
use native.Mathlib.Nat.{zero-div}
use native.Mathlib.Numerals.{add-one}
use lib.Bits.{bit_and, and_step, and_shr}
use lib.Dec.{ltb, eqb}
use borrow.Author.Tests.{ltb-true, ltb-false, lt-ltb, le-ltb, eqb-true, eqb-false}
use Rattle.std.specs.Prelude.{Option, None, Some}
use Rattle.word.specs.Choice.{choose◌then◌else◌}
use Rattle.word.specs.Word.{bit_at}
use Rattle.word.specs.Arithmetic.{and_of}
use Rattle.word.specs.Flags.{with_flag, flags_at}
use Rattle.word.proofs.Tests.{either, and_parts, if_holds}
use Rattle.word.proofs.Bounds.{field_below}
use Rattle.word.proofs.Bitwise.{and_is}
use Rattle.word.proofs.Flags.{with_same, with_other}
use Rattle.machine.specs.Machine.{Machine}
use Rattle.machine.specs.Control.{control_at, INT_MASK, INT_PEND, EXT_INT_PRI, COP_INT_PRI}
use Rattle.machine.specs.Stack.{sources_of, service_flags}
use Rattle.machine.specs.declared.stack.Entry.{Entry}
use Rattle.machine.specs.Questions.{well_formed}
use Rattle.machine.proofs.Formed.{Stacked, empty, pushed, registers_below, WellFormed, true_formed}
use Rattle.execute.specs.View.{View}
use Rattle.step.specs.Interrupt.{priority, below_all, eligible, before, candidate, may_accept, accepted_source}
use Rattle.step.specs.Search.{waiting, priority_or, most_urgent, service_floor}
use Rattle.step.proofs.Accepted.{candidate_eligible}

-- ---- tests

-- a test that another implies
and_implied : (a b c d : Bool) → (d ≡ true → c ≡ true) → (a && (b && c)) && d ≡ (a && b) && d
and_implied true true c true h = rw (h refl)
and_implied true true c false h = and-false c
and_implied true false c d h = refl
and_implied false b c d h = refl

ltb_min : (p a b : ℕ) → ltb p (min a b) ≡ ltb p a && ltb p b
ltb_min p a b = go (ltb p a) refl (ltb p b) refl
  where
    go : (s : Bool) → ltb p a ≡ s → (t : Bool) → ltb p b ≡ t → ltb p (min a b) ≡ s && t
    go true e true f = let h : p < a = ltb-true p a e in let k : p < b = ltb-true p b f in lt-ltb p (min a b) (omega arith)
    go true e false f = let k : b ≤ p = ltb-false p b f in le-ltb p (min a b) (omega arith)
    go false e t f = let h : a ≤ p = ltb-false p a e in le-ltb p (min a b) (omega arith)

-- ---- one iteration

module _ (flags bound : ℕ) (m : Machine) (k : ℕ) where
  pub more_urgent : bit_at k flags ≡ true → priority m k < priority_or bound m (most_urgent flags bound m k) → most_urgent flags bound m (suc k) ≡ Some k
  unfolding most_urgent choose◌then◌else◌
  more_urgent e h = rw (e, lt-ltb _ _ h)

  pub less_urgent : priority_or bound m (most_urgent flags bound m k) ≤ priority m k → most_urgent flags bound m (suc k) ≡ most_urgent flags bound m k
  unfolding most_urgent choose◌then◌else◌
  less_urgent h = rw (le-ltb _ _ h, and-false (bit_at k flags))

  pub no_flag : bit_at k flags ≡ false → most_urgent flags bound m (suc k) ≡ most_urgent flags bound m k
  unfolding most_urgent choose◌then◌else◌
  no_flag e = rw e

-- the same of the numbers that the search keeps: the best so far, and its priority number
module _ (flags bound : ℕ) (m : Machine) (k p floor : ℕ) (f : floor ≡ priority_or bound m (most_urgent flags bound m k)) (q : p ≡ priority m k) where
  pub taken : bit_at k flags ≡ true → p < floor → Some k ≡ most_urgent flags bound m (k + 1)
  taken e h = rw (add-one k) (sym (more_urgent flags bound m k e (omega (arith, f, q, h))))

  pub taken_number : bit_at k flags ≡ true → p < floor → p ≡ priority_or bound m (most_urgent flags bound m (k + 1))
  unfolding priority_or
  taken_number e h = q ∙ ap (priority_or bound m) (taken e h)

  pub passed : floor ≤ p → most_urgent flags bound m k ≡ most_urgent flags bound m (k + 1)
  passed h = rw (add-one k) (sym (less_urgent flags bound m k (omega (arith, f, q, h))))

pub unflagged : (flags bound : ℕ) (m : Machine) (k : ℕ) → bit_at k flags ≡ false → most_urgent flags bound m k ≡ most_urgent flags bound m (k + 1)
unflagged flags bound m k e = rw (add-one k) (sym (no_flag flags bound m k e))

module _ (flags bound : ℕ) (m : Machine) where
  pub none_yet : None ≡ most_urgent flags bound m 0
  unfolding most_urgent
  none_yet = refl

  pub bound_yet : bound ≡ priority_or bound m (most_urgent flags bound m 0)
  unfolding most_urgent priority_or
  bound_yet = refl

-- no flags
pub none_urgent : (bound : ℕ) (m : Machine) (k : ℕ) → most_urgent 0 bound m k ≡ None
unfolding most_urgent
none_urgent bound m zero = refl
none_urgent bound m (suc k) = no_flag 0 bound m k (rw (zero-div (2 ^ k))) ∙ none_urgent bound m k

pub none_flagged : (flags bound : ℕ) (m : Machine) (k : ℕ) → flags ≡ 0 → None ≡ most_urgent flags bound m k
none_flagged flags bound m k e = rw e (sym (none_urgent bound m k))

-- ---- the smallest priority number in service

pub priority_small : (m : Machine) (n : ℕ) → priority m n < 16
unfolding priority
priority_small m n = if_holds (λ p. p < 16) (ltb n 4) (λ _. field_below _ (control_at m COP_INT_PRI)) (λ _. field_below _ (control_at m EXT_INT_PRI))

-- of the sources below k whose flags are 1
abbrev floor_of : (flags : ℕ) (m : Machine) (k : ℕ) → ℕ
floor_of flags m k = priority_or 16 m (most_urgent flags 16 m k)

module _ (m : Machine) where
  floor_nearer : (flags k : ℕ) → bit_at k flags ≡ true → floor_of flags m (suc k) ≡ min (priority m k) (floor_of flags m k)
  unfolding priority_or
  floor_nearer flags k e =
      either (ltb (priority m k) (floor_of flags m k))
      (λ l. let h : priority m k < floor_of flags m k = ltb-true _ _ l in rw (more_urgent flags 16 m k e h) (omega arith))
      (λ l. let h : floor_of flags m k ≤ priority m k = ltb-false _ _ l in rw (less_urgent flags 16 m k h) (omega arith))

  floor_step : (flags k : ℕ) → floor_of flags m (suc k) ≡ choose◌then◌else◌ (bit_at k flags) (min (priority m k) (floor_of flags m k)) (floor_of flags m k)
  floor_step flags k =
      if_holds (λ p. floor_of flags m (suc k) ≡ p) (bit_at k flags) (floor_nearer flags k) (λ e. ap (priority_or 16 m) (no_flag flags 16 m k e))

  -- one flag more
  module _ (n flags : ℕ) where
    floor_apart : (k : ℕ) → k ≤ n → floor_of (with_flag n flags) m k ≡ floor_of flags m k
    unfolding most_urgent
    floor_apart zero h = refl
    floor_apart (suc k) h =
        let d : k ≡ n → ⊥ = λ e. omega arith in
        floor_step (with_flag n flags) k ∙ rw (with_other n flags k d, floor_apart k (omega arith)) (sym (floor_step flags k))

    floor_with : (k : ℕ) → n < k → floor_of (with_flag n flags) m k ≡ min (priority m n) (floor_of flags m k)
    unfolding choose◌then◌else◌
    floor_with zero h = absurd (omega arith)
    floor_with (suc k) h =
        rw (floor_step (with_flag n flags) k, floor_step flags k)
        (either (eqb k n)
        (λ e. let s = eqb-true k n e in rw (s, with_same n flags, floor_apart n (omega arith)) (either (bit_at n flags) (λ f. rw f (omega arith)) (λ f. rw f)))
        (λ e. let d = eqb-false k n e in rw (with_other n flags k d, floor_with k (omega arith)) (either (bit_at k flags) (λ f. rw f (omega arith)) (λ f. rw f))))

  below_floor : {es : List Entry} (p : ℕ) → p < 16 → Stacked es → below_all m p es ≡ ltb p (floor_of (service_flags es) m 12)
  unfolding below_all service_flags sources_of flags_at priority_or
  below_floor p h empty = rw (none_urgent 16 m 12) (sym (lt-ltb p 16 h))
  below_floor p h (pushed {e = e} {es = es} k n s) =
      rw (floor_with e.source (service_flags es) 12 k.source, ltb_min p (priority m e.source) (floor_of (service_flags es) m 12), below_floor p h s)

-- below all in service is below the smallest number in service
pub below_service : (m : Machine) (p : ℕ) → p < 16 → WellFormed m → below_all m p m.stack ≡ ltb p (service_floor m)
unfolding service_floor
below_service m p h f = rw f.served (below_floor m p h f.stack)

-- ---- the flags that wait

both_one : (x y : ℕ) → x < 2 → y < 2 → eqb (min x y) 1 ≡ eqb x 1 && eqb y 1
both_one zero y p q = let none : min 0 y ≡ 0 = omega arith in rw none
both_one (suc zero) zero p q = refl
both_one (suc zero) (suc zero) p q = refl
both_one (suc zero) (suc (suc y)) p q = absurd (omega arith)
both_one (suc (suc x)) y p q = absurd (omega arith)

and_bit : (n a b : ℕ) → a < 2 ^ 32 → b < 2 ^ 32 → bit_at n (and_of a b) ≡ bit_at n a && bit_at n b
unfolding and_of
and_bit n a b p q =
    let x = a / 2 ^ n in
    let y = b / 2 ^ n in
    let digit : bit_and x y % 2 ≡ min (x % 2) (y % 2) = omega (arith, and_step x y) in
    rw (← (and_is 32 a b p q), and_shr a b n, digit) (both_one (x % 2) (y % 2) (omega arith) (omega arith))

pub waiting_bit : (m : Machine) (n : ℕ) → WellFormed m → bit_at n (waiting m) ≡ bit_at n (control_at m INT_PEND) && bit_at n (control_at m INT_MASK)
unfolding waiting
waiting_bit m n f = and_bit n _ _ (registers_below f.control INT_PEND) (registers_below f.control INT_MASK)

-- ---- the candidate

module _ (m : Machine) (f : WellFormed m) where
  -- an eligible source's priority number is below all in service, and so is one below it
  nearer_below : (k j : ℕ) → eligible m j ≡ true → ltb (priority m k) (priority m j) ≡ true → below_all m (priority m k) m.stack ≡ true
  unfolding eligible
  nearer_below k j u l =
      let a = and_parts (bit_at j (control_at m INT_PEND)) _ u in
      let b = and_parts (bit_at j (control_at m INT_MASK)) (below_all m (priority m j) m.stack) a.1 in
      let h : priority m j < service_floor m = ltb-true _ _ (sym (below_service m (priority m j) (priority_small m j) f) ∙ b.1) in
      let near : priority m k < priority m j = ltb-true _ _ l in
      below_service m (priority m k) (priority_small m k) f ∙ lt-ltb (priority m k) (service_floor m) (omega arith)

  -- one comparison asks both: below all in service, and before the best so far
  candidate_test : (k : ℕ) (o : Option ℕ) → candidate m k ≡ o
      → eligible m k && before m k o ≡ bit_at k (waiting m) && ltb (priority m k) (priority_or (service_floor m) m o)
  unfolding eligible before priority_or
  candidate_test k None e =
      rw (waiting_bit m k f, below_service m (priority m k) (priority_small m k) f)
      (and-true _ ∙ sym (and_assoc (bit_at k (control_at m INT_PEND)) (bit_at k (control_at m INT_MASK)) (ltb (priority m k) (service_floor m))))
  candidate_test k (Some j) e =
      rw (waiting_bit m k f)
      (and_implied (bit_at k (control_at m INT_PEND)) (bit_at k (control_at m INT_MASK)) (below_all m (priority m k) m.stack) (ltb (priority m k) (priority m j))
      (nearer_below k j (candidate_eligible m k j e).1))

  -- the search finds the source that is to be accepted
  pub candidate_found : (k : ℕ) → candidate m k ≡ most_urgent (waiting m) (service_floor m) m k
  unfolding candidate most_urgent
  candidate_found zero = refl
  candidate_found (suc k) = rw (← (candidate_found k), candidate_test k (candidate m k) refl)

-- ---- the same by the questions that a well-formed machine passes

module _ (m : Machine) (w : well_formed m ≡ true) where
  pub candidate_is : most_urgent (waiting m) (service_floor m) m 12 ≡ candidate m 12
  candidate_is = sym (candidate_found m (true_formed m w) 12)

  -- nothing waits
  pub none_waits : (v : View) → waiting m ≡ 0 → None ≡ accepted_source v m
  unfolding accepted_source
  none_waits v e =
      let found : None ≡ candidate m 12 = none_flagged (waiting m) (service_floor m) m 12 e ∙ candidate_is in
      if_holds (λ (o : Option ℕ). None ≡ o) (may_accept v) (λ _. found) (λ _. refl)
