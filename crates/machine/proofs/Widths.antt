-- What control registers hold, by their offsets: tests of the table that are computed once, as laws of every number. Assumes nothing.
use mathlib.Core.Path.{◌≡◌, refl, sym, ap, ◌∙◌}
use mathlib.Core.Bool.{Bool, true, false, ◌&&◌, ◌||◌, beq}
use mathlib.Core.List.{List, [], ◌∷◌}
use Prim.Native.Nat.{ℕ, zero, suc, ◌-◌, ◌*◌, ◌/◌, ◌^◌, ◌≤◌, ◌<◌}
use native.Mathlib.Omega.{arith}
use native.Mathlib.Nat.{not-suc-le-zero}
use lib.Dec.{leb, ltb, eqb}
use lib.Pow.{pow_pos}
use lib.ListN.{set, get_or-eq_default}
use lib.Bits.{bit_and, and_mask}
use borrow.Author.Tests.{ltb-true, ltb-false, eqb-true, le-leb, lt-leb, le-ltb, ne_eqb}
use Rattle.word.specs.Choice.{choose◌then◌else◌}
use Rattle.word.specs.Flags.{is_among}
use Rattle.word.proofs.Tests.{and_parts, either}
use Rattle.machine.specs.Control.{Access, writable, stack_top, read_only, constant, Register, registers, register_at, largest, holds_as, kept_by, is_writable, replaces_top, store_register, RETURNS}
use Rattle.machine.specs.Machine.{Machine, with_control}
use Rattle.machine.specs.Stack.{top_stored, store_control}
use Rattle.machine.specs.Theorems.{OtherStores}

-- ---- a test of the numbers below k

unfoldable pub holds_below : (ℕ → Bool) → ℕ → Bool
holds_below f zero = true
holds_below f (suc k) = f k && holds_below f k

holds_at : (f : ℕ → Bool) (k n : ℕ) → holds_below f k ≡ true → n < k → f n ≡ true
unfolding holds_below
holds_at f zero n e h = absurd (not-suc-le-zero h)
holds_at f (suc k) n e h =
    let p = and_parts (f k) (holds_below f k) e in
    either (ltb n k) (λ t. holds_at f k n p.1 (ltb-true n k t)) (λ t. let s : n ≡ k = omega (arith, ltb-false n k t) in rw s p.0)

-- ---- all numbers but some

-- n is none of a list, the last first
abbrev pub Avoids : (ns : List ℕ) (n : ℕ) → Type 0
Avoids [] n = Unit {0}
Avoids (k ∷ ks) n = Avoids ks n × (n ≡ k → ⊥)

pub avoids_among : (ks : List ℕ) (n : ℕ) → Avoids ks n → is_among n ks ≡ false
unfolding is_among
avoids_among [] n h = refl
avoids_among (k ∷ ks) n h = rw (ne_eqb k n (λ e. h.1 (sym e))) (avoids_among ks n h.0)

-- a test of the 45 registers but some, and of the offsets beyond them
pub otherwise : (ks : List ℕ) (f : ℕ → Bool) → holds_below (λ n. is_among n ks || f n) 45 ≡ true → ((n : ℕ) → 45 ≤ n → f n ≡ true)
    → (n : ℕ) → Avoids ks n → f n ≡ true
otherwise ks f e high n h =
    either (ltb n 45)
    (λ p. rw (avoids_among ks n h) at (holds_at (λ n. is_among n ks || f n) 45 n e (ltb-true n 45 p)))
    (λ p. high n (ltb-false n 45 p))

-- ---- the registers

-- beyond the block's registers
pub beyond : (n : ℕ) → 45 ≤ n → register_at n ≡ register_at 45
unfolding register_at registers
beyond n h = get_or-eq_default registers _ h

-- the registers of fewer than 32 bits, the last first
abbrev pub short : List ℕ
short = 0x2A ∷ 0x29 ∷ 0x22 ∷ 0x21 ∷ 0x1E ∷ 0x19 ∷ 0x17 ∷ 0x16 ∷ 0x14 ∷ 0x13 ∷ 0x12 ∷ 0x11 ∷ 0x10 ∷ []

pub wide : (n : ℕ) → Avoids short n → 0xFFFF_FFFF ≡ largest (register_at n)
unfolding holds_below is_among register_at registers largest
wide n h =
    sym
    (eqb-true _ _
    (otherwise short (λ n. eqb (largest (register_at n)) 0xFFFF_FFFF) refl (λ n l. ap (λ r. eqb (largest r) 0xFFFF_FFFF) (beyond n l)) n h))

-- the read-only registers below 28h, the last first
abbrev pub read_onlys : List ℕ
read_onlys = 0x19 ∷ 0x18 ∷ 0x17 ∷ 0x14 ∷ 0x13 ∷ []

same : (a b : Bool) → beq a b ≡ true → a ≡ b
same true true e = refl
same true false e = sym e
same false true e = e
same false false e = refl

pub writable_below : (n : ℕ) → Avoids read_onlys n → ltb n 0x28 ≡ is_writable (register_at n).access
unfolding holds_below is_among register_at registers is_writable
writable_below n h = same _ _ (otherwise read_onlys (λ n. beq (ltb n 0x28) (is_writable (register_at n).access)) refl high n h)
  where
    high : (n : ℕ) → 45 ≤ n → beq (ltb n 0x28) (is_writable (register_at n).access) ≡ true
    high n l = rw (le-ltb n 0x28 (omega arith), beyond n l)

-- the registers that show a part of the stack's top
pub top_registers : (n : ℕ) → replaces_top (register_at n).access ≡ is_among n RETURNS
unfolding holds_below is_among register_at registers replaces_top
top_registers n = same _ _ (otherwise [] (λ n. beq (replaces_top (register_at n).access) (is_among n RETURNS)) refl high n tt)
  where
    high : (n : ℕ) → 45 ≤ n → beq (replaces_top (register_at n).access) (is_among n RETURNS) ≡ true
    high n l = rw (beyond n l, avoids_among RETURNS n (((tt, λ e. omega arith), λ e. omega arith), λ e. omega arith))

-- no register but CCB_BASE has bits that are stored 0
pub no_zeros : (n : ℕ) → (n ≡ 0 → ⊥) → (register_at n).zeros ≡ 0
unfolding holds_below is_among register_at registers
no_zeros n h = eqb-true _ _ (otherwise (0 ∷ []) (λ n. eqb (register_at n).zeros 0) refl (λ n l. ap (λ r. eqb r.zeros 0) (beyond n l)) n (tt, h))

-- no register below FPU_STATUS is a constant
pub not_constant : (n x : ℕ) → n < 0x2B → holds_as (register_at n).access (register_at n).reset x ≡ true
unfolding holds_below register_at registers holds_as
not_constant n x h = holds_at (λ n. holds_as (register_at n).access (register_at n).reset x) 0x2B n refl h

-- ---- stores

mask_kept : (r : Register) (x : ℕ) → bit_and x (largest r) / 2 ^ r.zeros * 2 ^ r.zeros ≡ kept_by r x
unfolding largest kept_by
mask_kept r x = ap (λ y. y / 2 ^ r.zeros * 2 ^ r.zeros) (and_mask x r.width)

pub mask_base : (n x : ℕ) → n ≡ 0 → bit_and x (largest (register_at n)) / 256 * 256 ≡ kept_by (register_at n) x
unfolding registers register_at
mask_base n x h = rw h (mask_kept (register_at 0) x)

pub mask_whole : (r : Register) (x : ℕ) → r.zeros ≡ 0 → bit_and x (largest r) ≡ kept_by r x
mask_whole r x z = sym (sym (mask_kept r x) ∙ rw z (omega arith))

-- a writable register is one of the block's
pub writable_small : (n : ℕ) → is_writable (register_at n).access ≡ true → n < 45
unfolding registers register_at is_writable
writable_small n h =
    either (ltb n 45) (ltb-true n 45)
    (λ p. absurd (let z : ◌≡◌ {A = ℕ} 0 1 = cc (rw (beyond n (ltb-false n 45 p)) at h) in omega arith))

writable_apart : (a : Access) → is_writable a ≡ true → replaces_top a ≡ false
unfolding is_writable replaces_top
writable_apart writable h = refl
writable_apart stack_top h = sym h
writable_apart read_only h = refl
writable_apart constant h = refl

module _ (n x : ℕ) (m : Machine) where
  pub stored_writable : is_writable (register_at n).access ≡ true → store_control n x m ≡ with_control (set m.control n (kept_by (register_at n) x)) m
  unfolding store_control store_register choose◌then◌else◌
  stored_writable h = rw (writable_apart (register_at n).access h, h)

  pub stored_top : replaces_top (register_at n).access ≡ true → store_control n x m ≡ top_stored n x m.stack m
  unfolding store_control choose◌then◌else◌
  stored_top h = rw h

  stored_other : replaces_top (register_at n).access ≡ false → store_control n x m ≡ store_register n x m
  unfolding store_control choose◌then◌else◌
  stored_other h = rw h

  pub stored_ignored : is_writable (register_at n).access ≡ false → replaces_top (register_at n).access ≡ false → store_control n x m ≡ m
  unfolding store_register choose◌then◌else◌
  stored_ignored h t = stored_other t ∙ rw h

pub other_stores : OtherStores
other_stores n x m h = stored_other n x m (top_registers n ∙ h)

-- ---- question 3

-- x has no more bits than a register
pub limit_below : (r : Register) (x : ℕ) → leb x (largest r) ≡ ltb x (2 ^ r.width)
unfolding largest
limit_below r x =
    let m = 2 ^ r.width in
    let p = pow_pos r.width in
    either (ltb x m)
    (λ e. le-leb x (m - 1) (omega (arith, p, ltb-true x m e)) ∙ sym e)
    (λ e. lt-leb x (m - 1) (omega (arith, p, ltb-false x m e)) ∙ sym e)
