-- The status by its bits: below 32, and each bit is the one it was made of; what RETI_PSR keeps. Assumes nothing.
use mathlib.Core.Path.{◌≡◌, refl, sym, ◌∙◌}
use mathlib.Core.Bool.{Bool, true, false, true≢false}
use Prim.Native.Nat.{ℕ, zero, suc, ◌+◌, ◌*◌, ◌/◌, ◌%◌, ◌^◌, ◌<◌}
use native.Mathlib.Omega.{arith}
use native.Mathlib.Nat.{div-div-eq-div-mul, mod-lt}
use lib.Dec.{eqb, lit<}
use Rattle.word.specs.Choice.{choose◌then◌else◌}
use Rattle.word.specs.Word.{bit_of}
use Rattle.word.proofs.Tests.{if_holds}
use Rattle.machine.specs.Machine.{user_mode, reads_set2, writes_set2, status_of}
use Rattle.machine.specs.Stack.{kept_status}
use Rattle.machine.specs.Theorems.{SuperIs, KeptStatusFits, WorkedStatus}

bit_small : (b : Bool) → bit_of b < 2
bit_small true = lit< tt
bit_small false = lit< tt

bit_is : (b : Bool) → eqb (bit_of b) 1 ≡ b
bit_is true = refl
bit_is false = refl

is_bit : (x : ℕ) → x < 2 → bit_of (eqb x 1) ≡ x
is_bit zero h = refl
is_bit (suc zero) h = refl
is_bit (suc (suc x)) h = absurd (omega arith)

-- three bits make up the remainder by 8
bits_low : (n : ℕ) → n / 2 ^ 0 % 2 + 2 * (n / 2 ^ 1 % 2) + 4 * (n / 2 ^ 2 % 2) ≡ n % 8
bits_low n =
    let fours : n / 2 / 2 ≡ n / 4 = div-div-eq-div-mul n 2 2 in
    let eights : n / 4 / 2 ≡ n / 8 = div-div-eq-div-mul n 4 2 in
    omega arith

pub super_is : SuperIs
unfolding status_of
super_is = refl

module _ (user read write wide enabled : Bool) where
  abbrev made : ℕ
  made = status_of user read write wide enabled

  pub status_small : made < 32
  unfolding status_of
  status_small = omega (arith, bit_small user, bit_small read, bit_small write, bit_small wide, bit_small enabled)

  -- UM, RSRD and RSWR are the three lowest
  pub status_low : made % 8 ≡ bit_of user + 2 * bit_of read + 4 * bit_of write
  unfolding status_of
  status_low = omega (arith, bit_small user, bit_small read, bit_small write, bit_small wide, bit_small enabled)

  pub status_user : user_mode made ≡ user
  unfolding status_of
  status_user =
      let e : made / 2 ^ 0 % 2 ≡ bit_of user = omega (arith, bit_small user, bit_small read, bit_small write, bit_small wide, bit_small enabled) in
      rw e (bit_is user)

-- a status with IL and IE set anew keeps the three lowest
pub status_kept : (q : ℕ) (wide enabled : Bool) → status_of (user_mode q) (reads_set2 q) (writes_set2 q) wide enabled % 8 ≡ q % 8
status_kept q wide enabled =
    status_low _ _ _ wide enabled
    ∙ (let a = is_bit (q / 2 ^ 0 % 2) (omega arith) in
    let b = is_bit (q / 2 ^ 1 % 2) (omega arith) in
    let c = is_bit (q / 2 ^ 2 % 2) (omega arith) in
    rw (a, b, c) (bits_low q))

-- ---- what RETI_PSR keeps

low_user : (x : ℕ) → user_mode (x % 32) ≡ user_mode x
low_user x = let e : x % 32 / 2 ^ 0 % 2 ≡ x / 2 ^ 0 % 2 = omega arith in rw e

pub kept_status_fits : KeptStatusFits
unfolding kept_status
kept_status_fits x =
    if_holds (λ q. (q < 32) × (user_mode q ≡ true → q % 8 ≡ 1)) (user_mode x)
    (λ _. (status_small _ _ _ _ _, λ _. status_low _ _ _ _ _))
    (λ u. (mod-lt x (lit< tt), λ e. absurd (true≢false (sym e ∙ low_user x ∙ u))))

pub worked_status : WorkedStatus
unfolding kept_status status_of choose◌then◌else◌
worked_status = refl
