-- What control registers hold. Assumes nothing.
use mathlib.Core.Path.{◌≡◌, refl, sym, ap, ◌∙◌}
use mathlib.Core.Bool.{true, true≢false}
use mathlib.Core.List.{[]}
use Prim.Native.Nat.{ℕ, ◌/◌, ◌%◌, ◌^◌, ◌≤◌, ◌<◌}
use native.Mathlib.Omega.{arith}
use native.Mathlib.Nat.{mod-lt, div-mul-le_self, mul-mod_left, mod-one, lt_of_le_of_lt}
use lib.ListN.{get_or-eq_default}
use lib.Pow.{pow_pos, pow_mono}
use lib.Dec.{leb, ltb}
use borrow.Author.Tests.{leb-true, ltb-true, lt-ltb, eq-eqb}
use Rattle.machine.specs.Control.{Access, writable, stack_top, read_only, constant, Register, registers, register_at, holds_as, can_hold, kept_by, is_writable}
use Rattle.machine.specs.Theorems.{RegistersCount, KeptHolds}
use Rattle.word.specs.Flags.{is_among}
use Rattle.word.proofs.Tests.{and_parts, and_both}
use Rattle.machine.proofs.Widths.{holds_below, beyond, otherwise}

-- ---- one register

-- what a register can hold has its width
pub holds_small : (r : Register) (x : ℕ) → can_hold r x ≡ true → x < 2 ^ r.width
unfolding can_hold
holds_small r x h = ltb-true x (2 ^ r.width) (and_parts (ltb x (2 ^ r.width)) _ h).0

-- a register with no bits that are stored 0 holds what has its width, if it is no constant
pub plain_holds : (r : Register) (x : ℕ) → r.zeros ≡ 0 → holds_as r.access r.reset x ≡ true → x < 2 ^ r.width → can_hold r x ≡ true
unfolding can_hold
plain_holds r x z a h =
    and_both _ _ (lt-ltb x (2 ^ r.width) h) (and_both _ _ (eq-eqb _ 0 (ap (λ k. x % 2 ^ k) z ∙ mod-one x)) a)

writable_holds : (a : Access) (reset x : ℕ) → is_writable a ≡ true → holds_as a reset x ≡ true
unfolding holds_as is_writable
writable_holds writable reset x w = refl
writable_holds stack_top reset x w = refl
writable_holds read_only reset x w = refl
writable_holds constant reset x w = absurd (true≢false (sym w))

-- a store leaves the bits 0 that are stored 0
pub kept_zeros : (r : Register) (x : ℕ) → kept_by r x % 2 ^ r.zeros ≡ 0
unfolding kept_by
kept_zeros r x = mul-mod_left (x % 2 ^ r.width / 2 ^ r.zeros) (2 ^ r.zeros)

-- a store leaves what has the register's width
pub kept_small : (r : Register) (x : ℕ) → kept_by r x < 2 ^ r.width
unfolding kept_by
kept_small r x = lt_of_le_of_lt (div-mul-le_self (x % 2 ^ r.width) (2 ^ r.zeros)) (mod-lt x (pow_pos r.width))

pub kept_holds : KeptHolds
unfolding can_hold
kept_holds r x w =
    and_both _ _ (lt-ltb _ (2 ^ r.width) (kept_small r x)) (and_both _ _ (eq-eqb _ 0 (kept_zeros r x)) (writable_holds r.access r.reset _ w))

-- ---- the table

pub registers_count : RegistersCount
unfolding registers
registers_count = refl

-- at most 32 bits
pub width_small : (i : ℕ) → (register_at i).width ≤ 32
unfolding holds_below is_among register_at registers
width_small i = leb-true _ 32 (otherwise [] (λ n. leb (register_at n).width 32) refl (λ n l. ap (λ r. leb r.width 32) (beyond n l)) i tt)

-- nothing but 0 is past the last one
pub beyond_holds : (i : ℕ) → 45 ≤ i → can_hold (register_at i) 0 ≡ true
unfolding register_at registers can_hold holds_as
beyond_holds i h = rw (get_or-eq_default registers _ h)

-- a word of 32 bits
below_word : (i x : ℕ) → x < 2 ^ (register_at i).width → x < 2 ^ 32
below_word i x h = let b : 2 ^ (register_at i).width ≤ 2 ^ 32 = pow_mono (width_small i) in omega arith

pub holds_word : (i x : ℕ) → can_hold (register_at i) x ≡ true → x < 2 ^ 32
holds_word i x h = below_word i x (holds_small (register_at i) x h)
