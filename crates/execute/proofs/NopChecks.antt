-- The nops that must follow an instruction: one after another, and what comes of the first word that is none. Assumes nothing.
use mathlib.Core.Path.{◌≡◌, refl}
use Prim.Native.Nat.{ℕ, zero, suc, ◌+◌, ◌-◌, ◌≤◌, ◌<◌}
use native.Mathlib.Numerals.{add-one}
use native.Mathlib.Omega.{arith}
use lib.Dec.{eqb}
use borrow.Author.Tests.{eqb-true, eqb-false}
use Rattle.word.specs.Choice.{choose◌then◌else◌}
use Rattle.word.proofs.Tests.{either, if_holds}
use Rattle.isa.specs.declared.width.Width.{Width}
use Rattle.isa.specs.Decode.{opcode_of}
use Rattle.machine.specs.Machine.{width_of}
use Rattle.execute.specs.View.{Attempt, Found, Raises, Stops, found_then, View, view, nops_from}
use Rattle.execute.proofs.Bytes.{Read, closed, missing, word_read}
use Rattle.execute.specs.Theorems.{NopAt, NotNopAt, protected, absent, other, Checked, all_nops, not_all, CheckedInOrder}

-- ---- one of them, and then the rest

module _ (width : Width) (following : ℕ → Attempt ℕ) where
  one_then : (k n : ℕ) (a : Attempt ℕ) → following k ≡ a
      → nops_from width following k (suc n) ≡ found_then (nops_from width following k 1) (λ _. nops_from width following (suc k) n)
  unfolding nops_from found_then choose◌then◌else◌
  one_then k n (Found w) e = either (eqb (opcode_of width w) 0) (λ t. rw (e, t)) (λ t. rw (e, t))
  one_then k n (Raises c) e = rw e
  one_then k n (Stops m) e = rw e

  pub nops_on : (k count : ℕ) → k ≤ count
      → nops_from width following k (count + 1 - k) ≡ found_then (nops_from width following k 1) (λ _. nops_from width following (k + 1) (count + 1 - (k + 1)))
  nops_on k count h =
      let here : count + 1 - k ≡ suc (count - k) = omega arith in
      let next : count + 1 - (k + 1) ≡ count - k = omega arith in
      rw (here, next, add-one k) (one_then k (count - k) (following k) refl)

-- ---- all of them

module _ (v : View) where
  -- one nop more in front
  module _ (k n : ℕ) (here : NopAt v k) where
    from_here : (end : ℕ) → ((j : ℕ) → suc k ≤ j → j < end → NopAt v j) → (j : ℕ) → k ≤ j → j < end → NopAt v j
    from_here end f j l h =
        either (eqb j k) (λ t. rw (eqb-true j k t) here) (λ t. let d = eqb-false j k t in f j (omega arith) h)

    after_nop : (a : Attempt (Unit {0})) → Checked v (suc k) n a → Checked v k (suc n) a
    after_nop a (all_nops f e) = all_nops (from_here (k + suc n) (λ j l h. f j l (omega arith))) e
    after_nop a (not_all x) =
        let l = x.least in
        let h = x.most in
        not_all (record { k = x.k; least = omega arith; most = omega arith; earlier = from_here x.k x.earlier; other = x.other })

  -- the k-th is none
  decided : (k n : ℕ) (a : Attempt (Unit {0})) → NotNopAt v k a → Checked v k (suc n) a
  decided k n a x = not_all (record { k = k; least = omega arith; most = omega arith; earlier = λ j l h. absurd (omega arith); other = x })

  -- the k-th, and then the rest
  check : (k n : ℕ) (rest : Attempt (Unit {0})) → Checked v (suc k) n rest → (a : Attempt ℕ) → v.following k ≡ a → Read a
      → Checked v k (suc n) (found_then a (λ w. choose eqb (opcode_of (width_of v.status) w) 0 then rest else Stops 20))
  unfolding found_then
  check k n rest r (Found w) e h =
      if_holds (Checked v k (suc n)) (eqb (opcode_of (width_of v.status) w) 0)
      (λ t. after_nop k n (record { word = w; there = e; nop = eqb-true _ 0 t }) rest r)
      (λ t. decided k n _ (other w e (eqb-false _ 0 t)))
  check k n rest r (Raises c) e closed = decided k n _ (protected e)
  check k n rest r (Stops c) e missing = decided k n _ (absent e)

  checks : ((k : ℕ) → Read (v.following k)) → (k n : ℕ) → Checked v k n (nops_from (width_of v.status) v.following k n)
  unfolding nops_from
  checks h k zero = all_nops (λ j l m. absurd (omega arith)) refl
  checks h k (suc n) = check k n _ (checks h (suc k) n) (v.following k) refl (h k)

pub checked_in_order : CheckedInOrder
unfolding view
checked_in_order program s count = checks (view program s) (λ k. word_read program _ _ _ _ _) 1 count
